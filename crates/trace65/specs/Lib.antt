pub mod Command
pub mod Request
pub mod Check
pub mod Unshown
pub mod Skips
pub mod Report
pub mod Words

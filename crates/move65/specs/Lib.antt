pub mod Accepted
pub mod Command
pub mod Request

pub mod Command
pub mod Links
pub mod PageText
pub mod Pieces
pub mod Request
pub mod Views

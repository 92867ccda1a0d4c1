-- What ties the code to the rules.
pub mod Rows
pub mod Names

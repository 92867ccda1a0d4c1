-- where an instruction leads, what is reached from given entries, which addresses
-- are taken, and the ranges of the others
pub mod Inlines
pub mod Tables
pub mod Flow
pub mod Steps
pub mod Reached
pub mod Taken
pub mod Ranges
pub mod Types
pub mod Words

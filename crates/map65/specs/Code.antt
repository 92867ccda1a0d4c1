-- What ties the code to the rules: how cells are packed, what they hold while they are
-- written, and bytes that are passed over.
pub mod Cells
pub mod Marking
pub mod Passing

-- What ties the code to the rules: what its buffers hold, and how the result of a run becomes that of the program.
pub mod Block
pub mod Buffered
pub mod IncludeFiles
pub mod MessageBuffer
pub mod Reporting

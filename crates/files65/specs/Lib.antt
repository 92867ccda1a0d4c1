pub mod Devices
pub mod FaultyLine
pub mod Faults
pub mod Message
pub mod Place
pub mod Shown

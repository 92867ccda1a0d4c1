pub mod Code
pub mod Delivery

pub mod BufferLemmas
pub mod DeliveryLemmas
mod ReassemblesLemmas

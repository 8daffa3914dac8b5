pub mod Finds
pub mod Order
pub mod Soundness

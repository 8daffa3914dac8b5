pub mod Among
pub mod Bad
pub mod Fields
pub mod Rows
pub mod Sound

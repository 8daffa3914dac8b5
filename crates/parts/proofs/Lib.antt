pub mod Cuts
pub mod Keeping

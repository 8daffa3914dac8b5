pub mod Faults
pub mod Links

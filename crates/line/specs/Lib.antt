pub mod Lines
pub mod Shape
pub mod Shown

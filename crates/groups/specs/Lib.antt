pub mod Groups
pub mod Owned

pub mod Modules
pub mod Names
pub mod View

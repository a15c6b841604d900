pub mod Over
pub mod Copies

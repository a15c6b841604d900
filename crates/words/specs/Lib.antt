pub mod Words
pub mod Ranges

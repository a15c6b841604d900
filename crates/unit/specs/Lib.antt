pub mod Unit
pub mod Calls

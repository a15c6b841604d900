pub mod Controller
pub mod Calls

pub mod Script
pub mod Captured
pub mod Premises
pub mod Turns
pub mod Panel
pub mod Weighed

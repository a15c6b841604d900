pub mod Script
pub mod Captured
pub mod Turns
pub mod Panel
pub mod Weighed

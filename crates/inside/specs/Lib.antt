pub mod Inside
pub mod Calls
pub mod Lawful
pub mod Last
pub mod Written
pub mod Read

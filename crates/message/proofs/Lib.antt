pub mod Lists
pub mod Fields
pub mod Readings
pub mod Writings
pub mod RoundTrip
pub mod Answers

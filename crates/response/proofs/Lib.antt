pub mod RoundTrip
pub mod Answers

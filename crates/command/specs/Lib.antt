pub mod Command
pub mod RoundTrip

pub mod Response
pub mod RoundTrip

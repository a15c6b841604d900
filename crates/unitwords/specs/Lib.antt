pub mod Layout
pub mod Unit
pub mod RoundTrip

pub mod Layout
pub mod Controller
pub mod RoundTrip

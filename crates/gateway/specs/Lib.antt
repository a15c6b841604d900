pub mod Unit
pub mod Messages
pub mod Controller

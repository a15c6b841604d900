pub mod Tags
pub mod Rounds
pub mod Heard

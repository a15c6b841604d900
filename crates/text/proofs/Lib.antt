pub mod Moves
pub mod Texts

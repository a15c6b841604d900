pub mod Tail
pub mod Pieces

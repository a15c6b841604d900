pub mod Screen
pub mod Cells
pub mod Text
pub mod Laws
pub mod Examples

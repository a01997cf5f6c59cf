pub mod Counting
pub mod Knowing
pub mod Pieces
pub mod Placing

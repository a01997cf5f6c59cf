pub mod Commands
pub mod LineWords
pub mod PrivateLine
pub mod Values
pub mod Words

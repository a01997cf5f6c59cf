pub mod Commands
pub mod Laws
pub mod Words

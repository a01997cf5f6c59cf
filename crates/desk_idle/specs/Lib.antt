pub mod Idle
pub mod Laws
pub mod Listed
pub mod PrivateMarks
pub mod Selections

pub mod Counting
pub mod Ends
pub mod Floats
pub mod SameMounts

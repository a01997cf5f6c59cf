pub mod Consistency
pub mod Inserted
pub mod Kept
pub mod LeftOut

pub mod SplitFault
pub mod Splitting
pub mod Joining
pub mod Laws
pub mod PrivateSplitting

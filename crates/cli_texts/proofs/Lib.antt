pub mod TablesRead
pub mod Viewed
pub mod Custodians

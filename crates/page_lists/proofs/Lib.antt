mod Counting
pub mod Gathering
mod HostNames
pub mod Kept
pub mod Keyed
pub mod Lent
pub mod Longest
pub mod Mapped
pub mod Plain
mod Quoted
mod Quoting
pub mod Unique

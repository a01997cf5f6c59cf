mod Sized
pub mod Adding
pub mod Counted
pub mod Gathered
mod Gathering
pub mod Homes
pub mod Listed
pub mod Opened
pub mod WithLines
mod StableSorts
mod UniqueChanges
mod UniqueGroups
pub mod Plain

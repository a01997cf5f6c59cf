pub mod Mapped
pub mod Telling
pub mod Meeting
pub mod Spread
pub mod Ordered
pub mod Gridding
pub mod Celling
pub mod Seams
pub mod Grids
pub mod Shown
pub mod Covering
pub mod Exact
mod Ends
mod Gaining
mod Grounds
mod Itemed
mod Pictured
mod Ranged
mod Sized
mod Spans
mod Summed
mod Told
mod Unique
mod UniqueNetworks
pub mod OneOrder
pub mod Counting
pub mod Alike
pub mod Plain

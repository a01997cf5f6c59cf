pub mod Valued
pub mod Rowed
pub mod UniqueFindings
mod UniqueOverview
pub mod PlainOverview
pub mod Unique
pub mod Plain
pub mod Standing
pub mod Looking
pub mod Deciders
pub mod Sharing
mod Revisions

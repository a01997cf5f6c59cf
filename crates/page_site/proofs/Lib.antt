mod AnyOrder
mod Finding
mod Made
mod MadeFindings
mod MadeLists
mod MadeMaps
mod MadeOverview
mod MadePage
mod MadePlaces
mod MadeSummary
mod MadeSystems
pub mod OfSite
pub mod OneStanding
pub mod OneWaiting
mod Parts
pub mod Pieces
mod Sites
mod UniqueFound
mod UniquePage
mod UniqueSystems
mod UniqueWaiting
mod Waits
mod Widening

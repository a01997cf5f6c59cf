pub mod CheckReport
pub mod FindingJson
pub mod FindingPrints
pub mod Hints
pub mod IgnoredWarnings
pub mod PrivateFindingJson
pub mod ToldFault
pub mod ToldSite

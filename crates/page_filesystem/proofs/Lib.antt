mod InForce
mod Lined
mod Between
mod Each
mod Noted
pub mod Standing
mod Again
mod UniqueParts
pub mod Plain

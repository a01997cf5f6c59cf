pub mod Matches
pub mod WhyPrints
pub mod Laws

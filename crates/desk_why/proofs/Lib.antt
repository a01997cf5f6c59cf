pub mod Gathered
pub mod Lists
pub mod Heaviest
pub mod Order
pub mod WhyLaws

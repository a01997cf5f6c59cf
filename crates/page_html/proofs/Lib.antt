pub mod Rows
mod Apart
mod Lists
mod Made
mod Replaced
pub mod CodesRead
pub mod Gaining
pub mod Gathered
pub mod OneOrder
pub mod Telling
pub mod Plain
pub mod Markup
pub mod Threes

pub mod LeftOutNote
pub mod Listing
pub mod PrivateLeftOut
pub mod PrivateListing
pub mod PrivateGrantingLine
pub mod GrantingLine

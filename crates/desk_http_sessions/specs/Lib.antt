pub mod Laws
pub mod PrivateSession
pub mod Session
pub mod Wire

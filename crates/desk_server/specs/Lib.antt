pub mod Laws
pub mod PrivateRepeatedClients
pub mod PrivateWiderGrants
pub mod RepeatedClients
pub mod Server
pub mod WiderGrants

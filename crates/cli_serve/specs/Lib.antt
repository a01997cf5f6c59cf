pub mod KeptEdits
pub mod Limits
pub mod Loopback
pub mod PrivateLimits
pub mod PrivateServe
pub mod Refusals
pub mod ServeCommand

pub mod CountsNote
pub mod MountFindings
pub mod NewsNote
pub mod PrivateNews

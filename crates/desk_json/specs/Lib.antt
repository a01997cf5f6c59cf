pub mod Changes
pub mod Exports
pub mod Files
pub mod Log
pub mod Named
pub mod Why

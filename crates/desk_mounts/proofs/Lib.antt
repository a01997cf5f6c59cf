pub mod Lines
pub mod LineWords
pub mod Tables

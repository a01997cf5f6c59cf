pub mod FilesInTurn
pub mod KnownBytes
pub mod KnownText
pub mod TextFaults

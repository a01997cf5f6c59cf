pub mod More
pub mod Numbers
pub mod OwnLines
pub mod OwnParts
pub mod OwnWords
pub mod Words

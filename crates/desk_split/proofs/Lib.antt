-- of a text that is split
pub mod SplitTexts
pub mod SplitWords
pub mod SplitLines
-- of files that are joined
pub mod LineTexts
pub mod WholeLines
pub mod EmptyLines
pub mod Told
pub mod Joins
pub mod NumberedLines

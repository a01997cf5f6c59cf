pub mod Among
pub mod LogFloats

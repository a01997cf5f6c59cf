pub mod HintLemmas
pub mod Pieces
pub mod ToldFindings

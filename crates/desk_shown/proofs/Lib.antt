pub mod ShownTextLemmas

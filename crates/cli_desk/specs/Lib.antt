pub mod Desks
pub mod RefusalLines
pub mod RefusalNotes

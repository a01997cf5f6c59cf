pub mod Failure
pub mod Printed
pub mod ShownLines

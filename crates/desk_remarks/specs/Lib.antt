pub mod EntryRemarks
pub mod Laws
pub mod PrivateRemarks
pub mod PrivateUnwarnedLines
pub mod Remark
pub mod Remarks
pub mod SaidOfSystems
pub mod UnwarnedLines

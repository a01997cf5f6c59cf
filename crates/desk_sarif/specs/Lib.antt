pub mod LogReport
pub mod Logs
pub mod PrivateSarif
pub mod Sarif
pub mod SarifRules
pub mod SarifUri

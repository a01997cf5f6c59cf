pub mod Reading
pub mod Rules
pub mod SiteLines
pub mod Table
pub mod PrivateReading

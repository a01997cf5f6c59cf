pub mod Opening
pub mod Files
pub mod PrivateFiles
pub mod Input
pub mod MountsFile
pub mod FolderSystems
pub mod SiteFolder

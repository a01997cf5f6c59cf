pub mod FirstTables

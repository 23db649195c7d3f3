pub mod GeneratedJob
pub mod GeneratedTables

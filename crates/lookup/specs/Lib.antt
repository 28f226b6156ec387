pub mod Lookup
pub mod Meaning

pub mod Dates
pub mod UtcTime
pub mod Meaning

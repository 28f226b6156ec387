pub mod InUse
pub mod Meaning

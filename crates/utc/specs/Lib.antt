pub mod Offset
pub mod Meaning

pub mod Number
pub mod Signed
pub mod Types

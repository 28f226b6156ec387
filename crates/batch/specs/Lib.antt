pub mod Entries
pub mod Times
pub mod Walks
pub mod Writes

pub mod Records
pub mod Calls
pub mod Journal

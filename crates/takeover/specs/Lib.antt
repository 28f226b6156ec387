pub mod Takeover
pub mod Account

pub mod Bytes
pub mod Placing
pub mod Delivery
pub mod Deciding

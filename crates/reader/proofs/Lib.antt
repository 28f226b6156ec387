pub mod Finishing
pub mod Giving
pub mod Taking
pub mod Stepping
pub mod Feeding
pub mod Bulk
pub mod Rows
pub mod Beginning

pub mod Vectors
pub mod PlacingLaws
pub mod DeliveryLaws

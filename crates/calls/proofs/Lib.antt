pub mod Single
pub mod Demand3
pub mod Slices
pub mod Return

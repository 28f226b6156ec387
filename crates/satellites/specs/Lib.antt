pub mod Satellites
pub mod Sets

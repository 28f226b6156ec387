pub mod Stuffing

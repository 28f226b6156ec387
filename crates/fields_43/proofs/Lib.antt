pub mod RoundTrips
pub mod Refusals

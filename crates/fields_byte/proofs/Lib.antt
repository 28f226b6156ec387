pub mod EmptyRoundTrips
pub mod RoundTrips
pub mod Refusals

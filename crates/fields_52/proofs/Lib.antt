pub mod EntryCount
pub mod RoundTrips

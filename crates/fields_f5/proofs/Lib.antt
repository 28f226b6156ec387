pub mod ChannelCount
pub mod RoundTrips

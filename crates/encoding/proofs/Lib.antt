pub mod AcceptedLaws
pub mod EntryLaws
pub mod DecodedLaws
pub mod RoundTripLaws
pub mod Vectors
pub mod CallLaws
pub mod MadeLaws
pub mod ReadingLaws

pub mod SatelliteLaws
pub mod BitLaws

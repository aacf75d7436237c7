pub mod Ranges
pub mod Stations

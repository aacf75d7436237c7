pub mod PairLaws
pub mod PairListed
pub mod PairMaking
pub mod PairSides
pub mod PairStations

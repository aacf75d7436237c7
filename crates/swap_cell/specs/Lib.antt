pub mod SwapCell
pub mod SwapCellLaws

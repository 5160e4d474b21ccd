pub mod Masks
pub mod Filled
pub mod Orders
pub mod RowLevels

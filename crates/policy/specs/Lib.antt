pub mod Policy
pub mod Masks
pub mod Rows
pub mod Shapes
pub mod RowLevels

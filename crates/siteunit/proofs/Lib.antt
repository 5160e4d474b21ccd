pub mod Images
pub mod Loads
pub mod Lowering
pub mod Sheets
pub mod Steps

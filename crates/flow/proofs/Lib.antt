pub mod Turns
pub mod Sheets
pub mod Made
pub mod Declared

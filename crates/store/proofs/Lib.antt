pub mod Moves
pub mod Places
pub mod Searches
pub mod Puts
pub mod Examples

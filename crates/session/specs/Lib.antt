pub mod Sessions
pub mod Promised

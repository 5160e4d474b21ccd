pub mod Bundles
pub mod Outcomes
pub mod Settings
pub mod StreamLengths

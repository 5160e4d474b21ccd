pub mod Flows
pub mod TableFlows

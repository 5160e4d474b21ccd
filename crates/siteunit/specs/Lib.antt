pub mod Standing
pub mod Obeying

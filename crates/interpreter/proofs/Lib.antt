pub mod Masks
pub mod Memories
pub mod Permits
pub mod Flat

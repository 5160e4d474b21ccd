pub mod Lattice
pub mod Chain
pub mod ReaderSets
pub mod ReaderSetsLaws

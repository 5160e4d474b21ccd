pub mod Decoding
pub mod Digits
pub mod Refusing
pub mod Transcripts

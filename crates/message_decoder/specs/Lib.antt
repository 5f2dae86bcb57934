pub mod Decoding
pub mod Streams

pub mod Adding
pub mod Configured
pub mod Plays
pub mod Encodes
pub mod Laws
pub mod Leaving

pub mod Contents
pub mod Unfinished
pub mod Cutting
pub mod Chunking

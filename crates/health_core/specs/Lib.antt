pub mod Counting
pub mod Words
pub mod Prefixes
pub mod Statements
pub mod Files
pub mod Printing
pub mod Watching

pub mod Events
pub mod Words
pub mod Caps
pub mod Spelling
pub mod Reading
pub mod Scripts
pub mod Laws

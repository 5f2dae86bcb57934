pub mod Keywords
pub mod Forms
pub mod Selectors
pub mod Routes
pub mod Targets
pub mod Lines
pub mod Readings

pub mod Passing
pub mod Adapters

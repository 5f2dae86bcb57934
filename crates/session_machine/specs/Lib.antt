pub mod Table
pub mod Session

pub mod Helper
pub mod Incarnations
pub mod Starting
pub mod Lending

pub mod Pool
pub mod Slots

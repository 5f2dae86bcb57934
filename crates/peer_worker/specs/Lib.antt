pub mod Deeds
pub mod Desks
pub mod Goings
pub mod Hearing
pub mod Places
pub mod Rounds
pub mod Streams
pub mod Wires

pub mod Jobs
pub mod Works
pub mod Views
pub mod Crews

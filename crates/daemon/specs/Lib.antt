pub mod Done
pub mod Ending
pub mod Entered
pub mod Laid
pub mod Laws
pub mod Making
pub mod Names
pub mod Runs

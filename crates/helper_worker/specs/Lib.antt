pub mod Lines
pub mod Hearing
pub mod Replies
pub mod Handing
pub mod Serving
pub mod Rounds
pub mod Staying

pub mod Limits
pub mod Productions
pub mod Answered
pub mod Numbers
pub mod Communities
pub mod Lists
pub mod Items
pub mod Kinds

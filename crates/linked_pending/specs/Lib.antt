pub mod Listing
pub mod Links
pub mod Chain
pub mod Order
pub mod Group
pub mod Layout
pub mod Pending

pub mod Kinds
pub mod Limits
pub mod Sections
pub mod Drafts
pub mod Checked
pub mod Selected
pub mod Plan

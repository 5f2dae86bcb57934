pub mod Buffer
pub mod Kind
pub mod Sizes
pub mod Groups
pub mod Faults
pub mod Raws
pub mod Marks

pub mod KeptLemmas
pub mod WaitLemmas
pub mod LeftLemmas
pub mod MarkLemmas
pub mod FreezeLemmas
pub mod PassLemmas
pub mod EmptyLemmas
pub mod GrowLemmas

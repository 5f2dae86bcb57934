pub mod MarkLemmas
pub mod WorkLemmas

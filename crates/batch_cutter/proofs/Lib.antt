pub mod SizeLemmas
pub mod PutLemmas
pub mod GroupedLemmas
pub mod PackLemmas
pub mod PlainLemmas

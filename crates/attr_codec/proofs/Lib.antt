pub mod SizeLemmas
pub mod AppendedLemmas
pub mod GroupLemmas
pub mod KeysLemmas
pub mod PathLemmas
pub mod AttributeLemmas

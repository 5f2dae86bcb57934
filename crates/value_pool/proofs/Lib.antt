pub mod TiedLemmas
pub mod ListLemmas
pub mod TakeLemmas
pub mod FreeLemmas
pub mod ItemLemmas
pub mod PoolLemmas
pub mod AddLemmas

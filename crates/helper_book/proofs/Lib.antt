pub mod StateLemmas
pub mod SameLemmas
pub mod ApartLemmas
pub mod EndLemmas
pub mod TakeLemmas
pub mod LineLemmas
pub mod ReloadLemmas
pub mod SpawnLemmas

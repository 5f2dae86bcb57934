pub mod Same
pub mod SameLemmas

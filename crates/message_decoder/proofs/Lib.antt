pub mod LineLemmas
pub mod WritingLemmas
pub mod EffectLemmas
pub mod DecodedLemmas
pub mod LastLemmas
pub mod PieceLemmas
pub mod StreamLemmas

pub mod ActLemmas
pub mod FineLemmas
pub mod MessageLemmas
pub mod RoundLemmas
pub mod SaidLemmas
pub mod StepLemmas
pub mod StreamLemmas

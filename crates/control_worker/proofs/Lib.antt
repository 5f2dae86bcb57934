pub mod LentLemmas
pub mod RoundLemmas
pub mod KeptLemmas

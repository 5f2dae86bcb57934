pub mod GivingLemmas
pub mod ToldLemmas
pub mod RollLemmas
pub mod ProbeLemmas

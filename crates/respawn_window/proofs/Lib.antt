pub mod StartsLemmas

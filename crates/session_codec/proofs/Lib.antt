pub mod GatherLemmas
pub mod SaidLemmas
pub mod ReadingLemmas
pub mod OfferLemmas

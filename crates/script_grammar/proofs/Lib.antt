pub mod OptionLemmas
pub mod WordLemmas
pub mod NumberLemmas
pub mod NameLemmas
pub mod CapLemmas
pub mod OperandLemmas
pub mod FoundLemmas
pub mod OnlyLemmas

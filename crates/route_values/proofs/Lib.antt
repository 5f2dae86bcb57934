pub mod KeyLemmas
pub mod OctetsLemmas
pub mod ComparedLemmas
pub mod FirstPlacesLemmas
pub mod LimitsLemmas

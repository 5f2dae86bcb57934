pub mod DraftLemmas
pub mod FoundLemmas
pub mod SettingsLemmas
pub mod NumberedLemmas

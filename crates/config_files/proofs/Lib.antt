pub mod UnreadLemmas

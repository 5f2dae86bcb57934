pub mod ContentLemmas
pub mod UnfinishedLemmas
pub mod CuttingLemmas
pub mod ChunkingLemmas

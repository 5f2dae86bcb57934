pub mod PendingLemmas
pub mod FrontLemmas
pub mod FramesLemmas
pub mod ChunkingLemmas
pub mod TextLemmas
pub mod CutterLemmas

pub mod FileLemmas
pub mod HoldingLemmas
pub mod LinkLemmas
pub mod RelationLemmas
pub mod StandLemmas
pub mod Texts

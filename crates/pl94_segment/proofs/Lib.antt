pub mod FilesLemmas
pub mod JoinLemmas
pub mod RunLemmas
pub mod SegLemmas

pub mod BufferLemmas
pub mod JudgedLemmas
pub mod ReadingLemmas
pub mod WordLaws
pub mod WordLemmas
pub mod WordSteps

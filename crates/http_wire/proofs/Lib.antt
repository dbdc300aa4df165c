pub mod AddingLemmas
pub mod TargetTexts
mod FieldLemmas
mod TargetLemmas
mod ConnectionLemmas
mod PrefixLemmas
mod LookLemmas
mod RequestLemmas
mod InterimLemmas
mod TakenLemmas
mod StayLemmas
mod CaseLemmas
mod QueueLemmas
mod GatherLemmas
mod FinishLemmas
pub use Rattle.http_wire_intake.proofs as intake

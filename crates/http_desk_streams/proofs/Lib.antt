pub mod BodyLemmas
mod Prefixes
pub mod HearingLemmas
pub mod NextLemmas
pub mod ShortLemmas
mod Steps
pub mod TalkLemmas
pub use Rattle.http_wire.proofs as http_wire
pub mod Owing
pub mod Passing

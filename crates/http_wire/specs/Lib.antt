pub mod claim
pub mod Budget
pub mod InTarget
pub mod Connection
pub mod Prefix
pub mod Interim
pub mod Law
pub mod Framed
pub mod Look
pub mod Incoming
pub mod Plain
pub mod Target
pub mod Adding
pub mod Answer
pub mod Queue
pub use Rattle.http_wire_intake.specs as intake

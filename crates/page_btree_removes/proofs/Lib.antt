mod FromNode
mod FromRoot
pub mod Refusals
pub mod Edits
pub mod Steps
pub mod Thinner
pub mod Lefts
pub mod Spares

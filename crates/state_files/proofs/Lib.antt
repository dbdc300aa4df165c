pub mod AtOnce
pub mod Plans

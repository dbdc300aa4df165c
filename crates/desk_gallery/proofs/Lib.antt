pub mod Afters
mod Chaining
mod Copied
mod Keeping
pub mod Pasts
pub mod Running
mod Weighing
pub mod Working

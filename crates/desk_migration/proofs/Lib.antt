mod Order
mod PartRows
pub mod Pairs
mod Walking
mod Turns
mod Stepped
mod Moved
mod Opened
mod Back

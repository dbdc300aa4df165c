pub mod LoadRows
pub mod Staging
pub mod Begun
pub mod Maps
pub mod Joins
pub mod Refused
pub mod Staged
mod Along
mod Ids
mod OneMore
mod SealedRows
mod Steps

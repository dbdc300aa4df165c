pub mod claim
pub mod Companions
pub mod Counties
pub mod Ranges
pub mod Examples
pub mod Geography
pub mod Name

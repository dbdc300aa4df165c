pub mod Numbers
pub mod Forms
pub mod Reckoning

pub mod Lists
pub mod Naming
pub mod OneReport
pub mod Padded
pub mod Reporting
pub mod Gathering
pub mod Sharing

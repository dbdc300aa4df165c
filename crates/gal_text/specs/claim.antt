-- What has to be read to believe a promise.
pub mod GalFile
pub mod Links
pub mod Texts
pub mod Units

-- What has to be read to believe a promise.
pub mod Entries
pub mod GeoFile
pub mod GeoTexts
pub mod Judging

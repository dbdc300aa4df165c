-- What has to be read to believe a promise.
pub mod Join
pub mod Records
pub mod SegFile
pub mod SegmentTexts

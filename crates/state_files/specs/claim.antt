-- What has to be read to believe a promise.
pub mod GeographyModels
pub mod Opening
pub mod PlanFiles
pub mod State
pub mod Texts
pub mod Whole

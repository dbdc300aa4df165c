-- What has to be read to believe a promise.
pub mod Outcomes
pub mod PlanRows
pub mod Rows
pub mod Steps

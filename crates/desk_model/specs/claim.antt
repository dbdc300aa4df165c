-- What has to be read to believe a promise.
pub mod Baf
pub mod Block
pub mod Companions
pub mod Ranges
pub mod Desk
pub mod Geography
pub mod GeographyModels
pub mod Kind
pub mod Name
pub mod Outcome
pub mod Padded
pub mod Printed
pub mod Room
pub mod Sample
pub mod Sizes
pub mod Step
pub mod Subject

-- What has to be read to believe a promise.
pub mod DeskRows
pub mod GeographyRows
pub mod Holders
pub mod Keys
pub mod Lists
pub mod Order
pub mod Puts
pub mod RevisionRows
pub mod Rows
pub mod Shares
pub mod Tidy
pub mod Values

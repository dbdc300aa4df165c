pub mod GeoLemmas
pub mod HoldingLemmas
pub mod LineLemmas
pub mod SetLemmas
pub mod WholeLemmas

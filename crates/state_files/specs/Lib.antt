pub mod claim
pub mod AtOnce
pub mod Opens
pub mod PlanFiles
pub use Rattle.gal_text.specs as gal_text
pub use Rattle.pl94_geo.specs as pl94_geo
pub use Rattle.pl94_segment.specs as pl94_segment

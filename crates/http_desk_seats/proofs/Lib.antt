mod Seats
mod Counts
mod Crosses
mod Geographies
pub mod Offices
pub use Rattle.desk_gallery.proofs as desk_gallery

pub mod claim
pub mod Lasting
pub mod Loopback
pub mod Outlasting
pub mod Rooms
pub mod Serving
pub use Rattle.http_desk.specs as http_desk
pub use Rattle.http_desk.specs.seats.desk_gallery

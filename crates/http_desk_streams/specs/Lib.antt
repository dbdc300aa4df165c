pub mod claim
pub mod Accepting
pub mod Asking
pub mod Hearing
pub mod Laws
pub mod Rows
pub mod Serving
pub mod Owing
pub use Rattle.http_desk_routes.specs as routes
pub use Rattle.http_wire.specs as http_wire

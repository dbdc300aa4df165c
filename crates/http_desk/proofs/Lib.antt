pub use Rattle.http_desk_streams.proofs as streams
pub use Rattle.http_desk_seats.proofs as seats

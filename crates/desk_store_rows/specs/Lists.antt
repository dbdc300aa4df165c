-- What no promise rests on, beside claim/Lists.antt.
use Rattle.std.specs.Prelude.{◌≡◌, ℕ, List}
use Rattle.desk_store_rows.specs.claim.Lists.{AreChunks, AreDistricts, chunks_bytes, districts_bytes}

-- a value is that of one list of chunks alone
abbrev pub ChunksDiffer : Type 0
ChunksDiffer = (a b : List ℕ) → AreChunks a → AreChunks b → chunks_bytes a ≡ chunks_bytes b → a ≡ b

-- a value is that of one list of districts alone
abbrev pub DistrictsDiffer : Type 0
DistrictsDiffer = (a b : List ℕ) → AreDistricts a → AreDistricts b → districts_bytes a ≡ districts_bytes b → a ≡ b

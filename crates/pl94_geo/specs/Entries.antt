-- What no promise rests on, beside claim/Entries.antt.
use Rattle.std.specs.Prelude.{◌≡◌, ℕ, List, IfSome}
use Rattle.{desk_model.specs.claim.Block.state_of, pl94_geo.specs.{claim.Entries.field, declared.entry.{BlockFields.BlockFields, GeoRecord.GeoRecord}}}

-- the state is the one of the block's number
pub record IsEntry (e : GeoRecord) : Type 0 where
  pub state : IfSome e.block (λ id. state_of id ≡ e.state)

-- the fields of a block record that are read
pub record AreBlockFields (whole : List (List ℕ)) (f : BlockFields) : Type 0 where
  pub number : f.number.now ≡ field 8 whole
  pub state : f.state.now ≡ field 13 whole
  pub county : f.county.now ≡ field 15 whole
  pub place : f.place.now ≡ field 30 whole
  pub place_class : f.place_class.now ≡ field 31 whole
  pub tract : f.tract.now ≡ field 33 whole
  pub block : f.block.now ≡ field 35 whole

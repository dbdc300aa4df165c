-- Which lines are a geographic header, in one view of all of them.
use Rattle.std.specs.{List.{IsDistinct, count_by}, Prelude.{◌≡◌, ℕ, ◌≤◌, true, false, List, length, All, nat_eq, is_ok, is_none}}
use Rattle.{byte_stream.specs.claim.Judged.AreGood, desk_model.specs.claim.GeographyModels.block_limit, pl94_geo.specs.claim.Entries.line_read}
use Rattle.pl94_geo.specs.{claim.Judging.{states_of, numbers_of, ids_of, other_state, entries, judge}, declared.entry.GeoRecord.GeoRecord}

-- Taken records of one state, with one state record at most, different record numbers and different blocks, of which
-- there are no more than the limit.
pub record AreTogether (es : List GeoRecord) : Type 0 where
  pub one_state : All (λ s. other_state es s ≡ false) (states_of es)
  pub one_state_record : count_by (λ e. is_none e.block) es ≤ 1
  pub different_records : IsDistinct nat_eq (numbers_of es)
  pub different_blocks : IsDistinct nat_eq (ids_of es)
  pub few : length (ids_of es) ≤ block_limit

-- every line has its shape, and the taken records go together
pub record AreHeaderLines (ls : List (List ℕ)) : Type 0 where
  pub shaped : All (λ line. is_ok (line_read line) ≡ true) ls
  pub together : AreTogether (entries ls)

-- judged line by line they are good exactly where they are a header's lines as a whole
abbrev pub LinesLaw : Type 0
LinesLaw = (ls : List (List ℕ)) → (AreGood judge ls → AreHeaderLines ls) × (AreHeaderLines ls → AreGood judge ls)

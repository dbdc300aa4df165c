-- What a reader keeps of the taken records.
use Rattle.{std.specs.{List.IsDistinct, Option.option_map_or}, desk_model.specs.claim.GeographyModels.block_limit, pl94_geo.specs.{Entries.IsEntry, Sets.has}}
use Rattle.std.specs.Prelude.{◌≡◌, ℕ, ◌≤◌, true, false, not, ◌||◌, ◌==◌, nat_eq, List, [], ◌∷◌, ◌++◌, length, All, Some, None, Result, Ok, Err, ⊤}
use Rattle.pl94_geo.specs.{claim.Judging.{numbers_of, ids_of, blocks_of, state_record_of, other_state, repeats, conflict, entries, judge}, declared.entry.GeoRecord.GeoRecord}
use Rattle.pl94_geo.specs.declared.{entry.HeaderLineFault.HeaderLineFault, header.{Header.Header, HeaderRefusal.{HeaderRefusal, TheVariants.{Fault, Memory}}}}
use Rattle.pl94_geo.specs.declared.number_set.NumberSet.{NumberSet}

-- these are the taken records, and they go together
pub record Holds (h : Header) (es : List GeoRecord) : Type 0 where
  pub state : (s : ℕ) → other_state es s ≡ option_map_or (λ own. not (own == s)) h.state false
  pub state_record : h.state_record ≡ state_record_of es
  pub blocks : h.blocks.items ≡ blocks_of es
  pub ids : (id : ℕ) → repeats (ids_of es) id ≡ has h.ids id
  pub numbers : (n : ℕ) → repeats (numbers_of es) n ≡ has h.numbers n
  pub distinct_ids : IsDistinct nat_eq (ids_of es)
  pub distinct_numbers : IsDistinct nat_eq (numbers_of es)
  pub few : length (ids_of es) ≤ block_limit
  pub entries : All IsEntry es

-- the set gets a number that it hasn't
abbrev pub Adds : NumberSet → NumberSet → ℕ → HeaderLineFault → Result (Unit {0}) HeaderRefusal → Type 0
Adds old new number repeated (Ok u) = (has old number ≡ false) × ((n : ℕ) → has new n ≡ (nat_eq number n || has old n))
Adds old new number repeated (Err (Fault f)) = (has old number ≡ true) × (f ≡ repeated)
Adds old new number repeated (Err Memory) = ⊤

-- one more record is taken, or it has a fault
abbrev pub Takes : List GeoRecord → GeoRecord → Result (Unit {0}) HeaderRefusal → Header → Type 0
Takes es e (Ok u) new = (conflict es e ≡ None) × Holds new (es ++ e ∷ [])
Takes es e (Err (Fault f)) new = conflict es e ≡ Some f
Takes es e (Err Memory) new = ⊤

-- one more line is good, or it has a fault
abbrev pub Judges : List (List ℕ) → List ℕ → Result (Unit {0}) HeaderRefusal → Header → Type 0
Judges ls line (Ok u) new = (judge ls line ≡ None) × Holds new (entries (ls ++ line ∷ []))
Judges ls line (Err (Fault f)) new = judge ls line ≡ Some f
Judges ls line (Err Memory) new = ⊤

-- Lemmas on the definitions of Cutting.
use Rattle.std.{specs.Prelude.{◌≡◌, ◌+◌, ◌<◌, ◌≤◌, ◌++◌, ℕ, Bool, List, [], ◌∷◌, Option, Some, None, length, get_or, drop, IfSome}, proofs.Common.{rules, subst, sym, append_assoc}}
use Rattle.{std.proofs.Math.Seq.drop-cons, desk_model.specs.declared.ranges.CountyRange.CountyRange}
use Rattle.desk_store_catalogue.specs.Cutting.{AreWithin, range_rows, changes_in, is_changed}

abbrev pub changed_rows : List Bool → List CountyRange → ℕ
changed_rows [] cs = 0
changed_rows (b ∷ bs) [] = 0
changed_rows (b ∷ bs) (c ∷ cs) = range_rows b c + changed_rows bs cs

-- a county of the list
pub within_last : (last : Option (List ℕ)) (ranges : List CountyRange) (k : ℕ) (d : CountyRange) → IfSome last (λ l. AreWithin (length l) ranges) → k < length ranges
    → IfSome last (λ l. (get_or ranges k d).first + (get_or ranges k d).count ≤ length l)
within_last None ranges k d within less = tt
within_last (Some l) ranges k d within less = within k d less

-- counties of the blocks are counties of a list beside them
pub within_all : (last : Option (List ℕ)) (n : ℕ) (ranges : List CountyRange) → IfSome last (λ l. length l ≡ n) → AreWithin n ranges → IfSome last (λ l. AreWithin (length l) ranges)
within_all None n ranges long within = tt
within_all (Some l) n ranges long within = subst (λ m. AreWithin m ranges) (sym long) within

-- one county more is told
pub changes_on : (last : Option (List ℕ)) (new : List ℕ) (ranges : List CountyRange) (k : ℕ) (d : CountyRange) (changes more all : List Bool) (told : Bool) → k < length ranges
    → changes ++ changes_in last new (drop k ranges) ≡ all → told ≡ is_changed last new (get_or ranges k d) → more ≡ changes ++ told ∷ [] → more ++ changes_in last new (drop (k + 1) ranges) ≡ all
changes_on last new ranges k d changes more all told less was is are = search (rules, append_assoc, drop-cons)

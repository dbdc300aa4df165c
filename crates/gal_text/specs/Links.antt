-- What no promise rests on, beside claim/Links.antt.
use Rattle.std.specs.{List.{HoldsAt, AllWithin}, Prelude.{◌≡◌, ℕ, ◌<◌, Bool, true, false, List, length, Result, Ok, Err, Vec, ⊤}, declared.alloc.Global.Global}
use Rattle.gal_text.specs.{claim.Links.{AreMutual, ArePairsOf, IsLeastOneWay}, declared.{links.Unpaired.{Unpaired, TheVariants.{OneWay, Memory}}, units.Link.Link}}

-- what the links give
abbrev pub ArePaired : List Link → Result (Vec (ℕ × ℕ) Global) Unpaired → Type 0
ArePaired links (Ok pairs) = AreMutual links × ArePairsOf links pairs.items
ArePaired links (Err (OneWay a b)) = IsLeastOneWay links a b
ArePaired links (Err Memory) = ⊤

-- the first place whose mark is false
pub record IsFirstFalse (marks : List Bool) (place : ℕ) : Type 0 where
  pub inside : place < length marks
  pub missing : HoldsAt (λ mark. mark ≡ false) marks place
  pub before : AllWithin (λ mark. mark ≡ true) marks 0 place

use Rattle.{std.proofs.Common.{◌≡◌, ◌<◌, ◌≤◌, true, false, get_or, ℕ}, desk_store_pages.specs.claim.Desks.AreWithin}
use Rattle.desk_store_opening.proofs.counties.is_above.Given as goal

abbrev pub invariant-loop-district : goal.invariant-loop-district
invariant-loop-district l = record {
  none : l.above ≡ false → (j : ℕ) → j < l.district-index → get_or l.districts j 0 ≤ l.n;
  some : l.above ≡ true → AreWithin l.n l.districts → ⊥;
}

-- A plan that holds no chunk from a number on.
use Rattle.{std.{specs.FinMap.entries, proofs.Common.{◌≡◌, ◌<◌, ◌≤◌, ◌+◌, ◌^◌, ℕ, List, [], Option, Some, None, refl, ◌∙◌, arith}}, btree_scan.specs.Prefixes.under}
use Rattle.{chunk_table.specs.Holding.IsFreeFrom, desk_store_rows.specs.claim.{Keys.{key_of, holding, holder_count, holdings_prefix, in_eight}, Rows.{KeyMap, row_in, Lacks}}}
use Rattle.{desk_store_rows.{specs.claim.Shares.{count_of, hold_by, hold}, proofs.{Frames.put_keeps_row, HolderCounts.too_holdings}}, btree_scan.proofs.RowsFound.found_among}
use Rattle.desk_store_rows.proofs.KeyPrefixes.{starts_itself}

-- ---- no row begins so
pub none_held : (m : KeyMap) (plan : ℕ) → under (holdings_prefix plan) (entries m) ≡ [] → IsFreeFrom (Some 0) plan m
none_held m plan none number from fits = found_among m (holdings_prefix plan) [] (key_of (holding plan number)) (starts_itself (holdings_prefix plan) (in_eight number)) none

-- ---- it comes to hold one
module _ (m : KeyMap) (plan number : ℕ) (plan_fits : plan < 2 ^ 64) (number_fits : number < 2 ^ 64) where
  stays_by : (o : Option (List ℕ)) (x : ℕ) → x < 2 ^ 64 → (number ≡ x → ⊥) → row_in (hold_by o m plan number) (holding plan x) ≡ row_in m (holding plan x)
  stays_by (Some value) x fits apart = refl
  stays_by None x fits apart =
      too_holdings m plan number (count_of (row_in m (holder_count number))) plan_fits number_fits _
      ∙ put_keeps_row m (holding plan number) [] (holding plan x) (plan_fits, number_fits) (plan_fits, fits) (λ same. let one : number ≡ x = cc in apart one)

  stays_free : (x : ℕ) → x < 2 ^ 64 → (number ≡ x → ⊥) → Lacks m (holding plan x) → Lacks (hold m plan number) (holding plan x)
  stays_free x fits apart lacks = stays_by (row_in m (holding plan number)) x fits apart ∙ lacks

  pub free_above : (from : ℕ) → number < from → IsFreeFrom (Some from) plan m → IsFreeFrom (Some from) plan (hold m plan number)
  free_above from below free x after fits = stays_free x fits (λ same. absurd (omega arith)) (free x after fits)

  pub free_next : (from : ℕ) → from ≤ number → IsFreeFrom (Some from) plan m → IsFreeFrom (Some (number + 1)) plan (hold m plan number)
  free_next from after free x next fits = stays_free x fits (λ same. absurd (omega arith)) (free x (omega arith) fits)

-- A plan comes to hold a chunk by two rows, or holds it already.
use Rattle.{std.specs.Prelude.{option_map, Result, Ok, Err, IfOk}, desk_store_pages.specs.{Looking.Looks, Reading.{ReadErr, ReadErrWith, StandsAs}}}
use Rattle.std.proofs.Common.{rules, ◌≡◌, ◌<◌, ◌+◌, ◌-◌, ◌^◌, ℕ, zero, suc, true, false, List, [], Option, Some, None, refl, sym, ap, subst, ◌∙◌, arith}
use Rattle.{chunk_table.specs.Holding.{Stands, HasHolderCount, HasHeld, HasHeldWith, WasHeld, HoldErrOf, HoldErrWith, IsCountOf, IsUnheld}, desk_store_rows.specs.Shares.CanHold}
use Rattle.{desk_store_pages.specs.Rising.{HasPutWith, PutsErrWith}, desk_store_rows.specs.{Values.holder_count_bytes, claim.Holders.{holder_count_row, holding_rows}}}
use Rattle.desk_store_rows.specs.claim.{Keys.{key_of, holding, holder_count}, Puts.put_rows, Rows.{KeyMap, row_in, Lacks}, Shares.{count_of, hold_by, hold}}
use Rattle.{desk_store_rows.specs.declared.value.HolderCount.HolderCount, page_btree.specs.{gets.{claim.Map.InTxn, declared.error.TreeError.TreeError}, puts.Fingers.Stand}}
use Rattle.{page_btree.specs.{gets.declared.error.TreeError.TheVariants.{NotAStore, TooDeep}, puts.declared.finger.Fingers.Fingers}, page_store.specs.declared.pages.Pages.Pages}
use Rattle.{page_store.specs.{claim.Transactions.{stored, disk_in, IsQuiet, Passed}, declared.txn.Txn.Txn}, sector_device.specs.declared.SectorDevice.Ghosts}
use Rattle.{chunk_table.proofs.Changed.{deep_after, nears_as, near_before}, desk_store_pages.proofs.Looking.{looked, not_looked as unlooked}}
use Rattle.{desk_store_pages.proofs.Rising.{fresh_stand, put_with_after, not_put_with_after}, desk_store_rows.proofs.{HolderCounts.joins_holders, Sharing.count_back}}
use Rattle.page_store.proofs.Stops.{passed_more, failed_more}

-- ---- a count is a value of its row
holder_count_in : (row : Option (List ℕ)) (count : ℕ) → row ≡ holder_count_row count → (value : Option HolderCount) × (option_map holder_count_bytes value ≡ row)
holder_count_in row zero is = (None, sym is)
holder_count_in row (suc more) is = (Some (record { plans = more + 1 }), sym is)

pub holder_count_stands : (m : KeyMap) (number : ℕ) → HasHolderCount number m → (value : Option HolderCount) × StandsAs holder_count_bytes (key_of (holder_count number)) m value
holder_count_stands m number told = holder_count_in (row_in m (holder_count number)) told.0 told.2

-- a count that is told is the row's
pub count_told : (copied row : Option (List ℕ)) (r : Result ℕ TreeError) → copied ≡ row → IsCountOf copied r → IfOk r (λ count. row ≡ holder_count_row count)
count_told copied row r is told = search (arith)

-- ---- maps
made : (m : KeyMap) (plan number count : ℕ) → count < 2 ^ 64 → Stands false plan number m → row_in m (holder_count number) ≡ holder_count_row count → hold m plan number ≡ put_rows m (holding_rows plan number count)
made m plan number count fits lacks told = ap (λ (o : Option (List ℕ)). hold_by o m plan number) lacks ∙ ap (λ (k : ℕ). put_rows m (holding_rows plan number k)) (ap count_of told ∙ count_back count fits)

-- no row tells that the plan holds it
abbrev Lacking : ℕ → ℕ → KeyMap → Type 0
Lacking plan number m = Lacks m (holding plan number)

module _ {D : Type 0} {g : Ghosts D} (number : ℕ) (t : Txn) (a b : Pages D g) where
  -- that is told, or no map has one
  pub count_looked : (copied : Option (List ℕ)) (r : Result ℕ TreeError) → Passed a b → ((disk_in b).is_honest → (m : KeyMap) → InTxn t (stored a) m → copied ≡ row_in m (holder_count number)) → IsCountOf copied r
      → Looks (λ m count. row_in m (holder_count number) ≡ holder_count_row count) (HasHolderCount number) t a b r
  count_looked copied (Ok count) passed is told = looked passed (λ honest m holds. count_told copied (row_in m (holder_count number)) (Ok count) (is honest m holds) told)
  count_looked copied (Err e) passed is told = unlooked passed.quiet (subst (λ e. ReadErr (HasHolderCount number) t a b e) (sym told.0) (λ honest m holds has. told.1 has.0 has.1 (is honest m holds ∙ has.2)))

  pub count_looked_with : (f : Fingers) (copied : Option (List ℕ)) (r : Result ℕ TreeError) → Passed a b → ((disk_in b).is_honest → (m : KeyMap) → InTxn t (stored a) m → Stand t (stored a) f → copied ≡ row_in m (holder_count number)) → IsCountOf copied r
      → Looks (λ m count. Stand t (stored a) f → row_in m (holder_count number) ≡ holder_count_row count) (λ m. HasHolderCount number m × Stand t (stored a) f) t a b r
  count_looked_with f copied (Ok count) passed is told = looked passed (λ honest m holds stand. count_told copied (row_in m (holder_count number)) (Ok count) (is honest m holds stand) told)
  count_looked_with f copied (Err e) passed is told = unlooked passed.quiet
      (subst (λ e. ReadErr (λ m. HasHolderCount number m × Stand t (stored a) f) t a b e) (sym told.0) (λ honest m holds has. told.1 has.0.0 has.0.1 (is honest m holds has.1 ∙ has.0.2)))

  -- or no row is read
  pub count_unread_with : (f : Fingers) (has : KeyMap → Type 0) → ((m : KeyMap) → HasHolderCount number m → has m) → (e : TreeError) → ReadErrWith f has t a b e → ReadErr (λ m. HasHolderCount number m × Stand t (stored a) f) t a b e
  count_unread_with f has gives e why = search (arith, why, gives)

module _ {D : Type 0} {g : Ghosts D} (plan number : ℕ) where
  -- ---- what is held
  pub held_already : (t : Txn) {a b : Pages D g} → Passed a b → ((disk_in b).is_honest → (m : KeyMap) → InTxn t (stored a) m → Stands true plan number m) → HasHeld plan number t t a b
  held_already t {a} {b} passed stands = search (arith, stands)

  -- after a look that tells that the plan doesn't hold it
  pub unheld_there : (t : Txn) {a b : Pages D g} → Passed a b → WasHeld false plan number t a b → IsUnheld plan number t b
  unheld_there t {a} {b} passed lacks honest m holds = lacks honest m (rw (passed.quiet.same honest) at holds)

  pub held_after : {t u : Txn} {a b c : Pages D g} → Passed a b → HasHeld plan number t u b c → HasHeld plan number t u a c
  held_after {t} {u} {a} {b} {c} first did = record {
    passed = passed_more a b c first did.passed;
    pages = did.pages;
    held = λ honest m holds. let same = first.quiet.same (did.passed.quiet.honest honest) in rw same at (did.held honest m (rw same holds));
    writes = did.writes;
    taken = did.taken;
    nearer = λ honest m holds. let same = first.quiet.same (did.passed.quiet.honest honest) in nears_as 2 t u b a same (did.nearer honest m (rw same holds));
  }

  -- ---- where the plan doesn't hold it
  module _ (count : ℕ) (f : Fingers) (t : Txn) (a b : Pages D g) (read : Passed a b) (told : (disk_in b).is_honest → (m : KeyMap) → InTxn t (stored a) m → Stand t (stored a) f → row_in m (holder_count number) ≡ holder_count_row count) (count_fits : count < 2 ^ 64) where
    pub held_then : {h : Fingers} {u : Txn} {c : Pages D g} → HasPutWith f h (holding_rows plan number count) t u b c → HasHeldWith f h (Lacking plan number) plan number t u a c
    held_then {h} {u} {c} put =
        let whole : HasPutWith f h (holding_rows plan number count) t u a c = put_with_after f h (holding_rows plan number count) t u a b c read put in
        record {
          passed = whole.passed;
          pages = whole.pages;
          held = λ honest m holds lacks stand.
              let did = whole.put honest m holds stand in (
                subst (λ (n : KeyMap). InTxn u (stored a) n) (sym (made m plan number count count_fits lacks (told (put.passed.quiet.honest honest) m holds stand))) did.0,
                did.1,
              );
          writes = let most = whole.writes in omega arith;
          taken = let most = whole.taken in omega arith;
          nearer = λ honest m holds lacks stand. whole.nearer honest m holds stand;
        }

    pub too_many : (count ≡ 2 ^ 64 - 1) → HoldErrWith f (Lacking plan number) plan number t a b NotAStore
    too_many is = λ honest m limit holds may can fits.
        let less = (joins_holders m limit plan number count can.counted_by_holders can.below can.limit_fits can.plan_below fits count_fits may.0 (told honest m holds may.1)).fits in
        absurd (omega arith)

    pub holding_not_put : (c : Pages D g) (e : TreeError) → IsQuiet b c → PutsErrWith f (holding_rows plan number count) t b c e → HoldErrWith f (Lacking plan number) plan number t a c e
    holding_not_put c e quiet why = told_of e (not_put_with_after f (holding_rows plan number count) t a b c e read quiet why)
      where
        told_of : (e : TreeError) → PutsErrWith f (holding_rows plan number count) t a c e → HoldErrWith f (Lacking plan number) plan number t a c e
        told_of NotAStore why = λ honest m limit holds may can fits. why honest m holds may.1
        told_of TooDeep why = λ honest m holds may. let both = why honest m holds may.1 in (count, both.0, both.1)
        told_of _ why = search arith

  -- of fewer maps, or of all
  pub held_of_fewer : {f h : Fingers} {says more : KeyMap → Type 0} {t u : Txn} {a b : Pages D g} → ((m : KeyMap) → more m → says m) → HasHeldWith f h says plan number t u a b → HasHeldWith f h more plan number t u a b
  held_of_fewer gives did = record { passed = did.passed; pages = did.pages; held = λ honest m holds is stand. did.held honest m holds (gives m is) stand; writes = did.writes; taken = did.taken; nearer = λ honest m holds is stand. did.nearer honest m holds (gives m is) stand }

  -- no leaf is known then
  pub held_of_all : {f h : Fingers} {says : KeyMap → Type 0} {t u : Txn} {a b : Pages D g} → h.first.page ≡ 0 → h.second.page ≡ 0 → HasHeld plan number t u a b → HasHeldWith f h says plan number t u a b
  held_of_all {f} {h} {says} {t} {u} {a} {b} first second did = record { passed = did.passed; pages = did.pages; held = λ honest m holds is stand. (did.held honest m holds, fresh_stand u (stored a) h first second); writes = did.writes; taken = did.taken; nearer = λ honest m holds is stand. did.nearer honest m holds }

  pub held_unheld : {f h : Fingers} {t u : Txn} {a b : Pages D g} → f.first.page ≡ 0 → f.second.page ≡ 0 → IsUnheld plan number t a → HasHeldWith f h (Lacking plan number) plan number t u a b → HasHeld plan number t u a b
  held_unheld {f} {h} {t} {u} {a} {b} first second unheld did = record {
    passed = did.passed;
    pages = did.pages;
    held = λ honest m holds. (did.held honest m holds (unheld (did.passed.quiet.honest honest) m holds) (fresh_stand t (stored a) f first second)).0;
    writes = did.writes;
    taken = did.taken;
    nearer = λ honest m holds. did.nearer honest m holds (unheld (did.passed.quiet.honest honest) m holds) (fresh_stand t (stored a) f first second);
  }

  -- ---- why not
  module _ (may : KeyMap → Type 0) (t : Txn) (a b : Pages D g) where
    pub not_held_of : (more : KeyMap → Type 0) → ((disk_in b).is_honest → (m : KeyMap) → InTxn t (stored a) m → more m → may m) → (e : TreeError) → HoldErrOf may plan number t a b e → HoldErrOf more plan number t a b e
    not_held_of more gives TooDeep why = λ honest m holds is. why honest m holds (gives honest m holds is)
    not_held_of more gives _ why = search rules

    pub not_held_after : (c : Pages D g) (e : TreeError) → Passed a b → IsQuiet b c → HoldErrOf may plan number t b c e → HoldErrOf may plan number t a c e
    not_held_after c NotAStore first quiet why = λ honest m limit holds is can fits. why honest m limit (rw (first.quiet.same (quiet.honest honest)) holds) is can fits
    not_held_after c TooDeep first quiet why = λ honest m holds is.
        let same = first.quiet.same (quiet.honest honest) in
        let deep = why honest m (rw same holds) is in
        (deep.0, deep_after [] (holding_rows plan number deep.0) t t a b m m same refl deep.1, near_before 0 2 t t a b same (omega arith) deep.2)
    not_held_after c _ first quiet why = search (arith, failed_more)

    -- what is looked for first isn't read
    pub not_told : (has : KeyMap → Type 0) → ((m : KeyMap) (limit : ℕ) → may m → CanHold m limit plan → number < 2 ^ 64 → has m) → (e : TreeError) → ReadErr has t a b e → HoldErrOf may plan number t a b e
    not_told has gives NotAStore why = λ honest m limit holds is can fits. why honest m holds (gives m limit is can fits)
    not_told has gives _ why = search rules

-- A desk of its geography and its plans.
use Rattle.std.specs.{Cmp.Lexicographic.nat_list_cmp_total, FinMap.{empty, get, get-empty, same_map, slice_cmp-IsAntisymmetric, nat_cmp-IsAntisymmetric}, Prelude.Option}
use Rattle.{std.proofs.Common.{rules, ◌≡◌, List, ℕ, Bool, Some, None, Result, Ok, Err, IfOk, refl, sym, subst, ◌∙◌}, desk_model.specs.claim.Desk.{Desk, Plan, name_cmp}}
use Rattle.{desk_model.specs.claim.Geography.GeographyModel, desk_store_opening.specs.Opening.{ArePlans, HasNothing, IsMapAs, OpenErr}, desk_store_pages.specs.Desks.new_desk}
use Rattle.{desk_store_opening_tidy.specs.Numbers.IsKept, desk_store_pages.specs.{Looking.{Gathers, Says}, Reading.{ReadErr, SeekErr}, claim.Desks.{IsMapOf, InTxnOf}}}
use Rattle.{desk_store_rows.specs.claim.{DeskRows.IsPlanAt, GeographyRows.IsGeography, Keys.named, Rows.{KeyMap, Lacks}}, page_btree.specs.gets.claim.Map.InTxn as InTree}
use Rattle.{page_btree.specs.gets.declared.error.TreeError.{TreeError, TheVariants.{DeviceFault, NotAStore, Halted, Memory}}, page_store.specs.declared.pages.Pages.Pages}
use Rattle.{page_store.specs.{claim.Transactions.{stored, disk_in, IsQuiet, Passed}, declared.txn.Txn.Txn}, sector_device.specs.{claim.Disk.Image, declared.SectorDevice.Ghosts}}
use Rattle.{desk_store_pages.proofs.{Looking.{looked, may_lack, not_looked, then_unread}, Reading.less_sought}, page_store.proofs.Stops.failed_more}

none_at : (m : KeyMap) (name : List ℕ) (p : Option Plan) → IsPlanAt m None name p → (p ≡ None) × Lacks m (named name)
none_at m name None lacks = (refl, lacks)
none_at m name (Some p) is = absurd is

module _ {new : Bool} (m : KeyMap) (d : Desk) (is : IsMapOf new m d) where
  -- without a geography there is no plan
  pub is_new : None ≡ d.geography → new_desk ≡ d
  is_new none =
      let plans : empty ≡ d.plans = same_map nat_list_cmp_total (slice_cmp-IsAntisymmetric nat_cmp-IsAntisymmetric) (empty {X = Plan} {R = name_cmp}) d.plans
      (λ name. get-empty name_cmp name ∙ sym (none_at m name (get d.plans name) (subst (λ (g : Option GeographyModel). IsPlanAt m g name (get d.plans name)) (sym none) (is.desk.plans name))).0) in
      λ i. record { geography = none i; plans = plans i }

  pub are_plans : (g : GeographyModel) → Some g ≡ d.geography → ArePlans g m d.plans
  are_plans g same = search rules

  -- nor anything else
  pub has_nothing : None ≡ d.geography → HasNothing m
  has_nothing none = record {
    the_geography = subst (λ (g : Option GeographyModel). IsGeography m g) (sym none) is.desk.geography;
    plans = λ name. (none_at m name (get d.plans name) (subst (λ (g : Option GeographyModel). IsPlanAt m g name (get d.plans name)) (sym none) (is.desk.plans name))).1;
  }

-- what isn't read of the rows of a desk
pub unopened : {D : Type 0} {g : Ghosts D} (t : Txn) (a b : Pages D g) (e : TreeError) → SeekErr (Unit {0}) (Says IsMapAs) t a b e → OpenErr t a b e
unopened t a b NotAStore why = λ honest new d held. why honest held.m held.holds ((new, d), held.is)
unopened t a b _ why = why

-- what isn't kept is no desk's
pub unkept : {D : Type 0} {g : Ghosts D} (t : Txn) (a b : Pages D g) (e : TreeError) → ReadErr IsKept t a b e → OpenErr t a b e
unkept t a b e why =
    unopened t a b e (less_sought (Unit {0}) IsKept (Says IsMapAs) t a b (λ m is. record { desk = is.0.1; is = is.1.desk; tidy = is.1.tidy }) e (may_lack IsKept t a b e why))

-- ---- calls that passed, and then one more
module _ {D : Type 0} {g : Ghosts D} where
  pub still_reads : {new : Bool} (t : Txn) (a b : Pages D g) (d : Desk) → Passed a b → (disk_in b).is_honest → InTxnOf new t (stored a) d → InTxnOf new t (stored b) d
  still_reads t a b d passed honest held = record { m = held.m; holds = subst (λ (P : Image). InTree t P held.m) (sym (passed.quiet.same honest)) held.holds; is = held.is }

  pub then_unopened : (t : Txn) (a b c : Pages D g) → Passed a b → IsQuiet b c → (e : TreeError) → OpenErr t b c e → OpenErr t a c e
  then_unopened t a b c passed quiet DeviceFault why = failed_more a b c passed quiet why
  then_unopened t a b c passed quiet NotAStore why = λ honest new d held. why honest new d (still_reads t a b d passed (quiet.honest honest) held)
  then_unopened t a b c passed quiet Halted why = sym passed.halted ∙ why
  then_unopened t a b c passed quiet Memory why = tt
  then_unopened t a b c passed quiet _ why = why

  -- what isn't read of what each desk has
  pub unread_unopened : (has : KeyMap → Type 0) (t : Txn) (a b c : Pages D g) → Passed a b → IsQuiet b c → ((disk_in b).is_honest → (m : KeyMap) (x : Bool × Desk) → InTree t (stored a) m → IsMapAs m x → has m) → (e : TreeError) → ReadErr has t b c e → OpenErr t a c e
  unread_unopened has t a b c passed quiet gives e why =
      unopened t a c e (then_unread (Unit {0}) has (Says IsMapAs) t a b c passed quiet (λ honest m holds is. gives honest m is.0 holds is.1) e (may_lack has t b c e why))

-- what is so of what was found, whatever the rows say
pub with_also : {D X : Type 0} {g : Ghosts D} {says : KeyMap → X → Type 0} {has : KeyMap → Type 0} {t : Txn} {a b : Pages D g} (P : X → Type 0) (r : Result X TreeError) → Gathers says has t a b r → IfOk r P
    → Gathers (λ m x. says m x × P x) has t a b r
with_also P (Ok x) look is = looked look.passed (λ honest m holds. (look.there honest m holds, is))
with_also P (Err e) look is = not_looked look.quiet look.err

-- Sweeps at a clerk.
use Rattle.std.proofs.Common.{rules, ◌≡◌, ◌⊎◌, ◌<◌, ◌≤◌, ◌^◌, ℕ, Err, zero, suc, Bool, true, false, List, [], ◌∷◌, Option, Some, ⊎_elim, refl, sym, ap, subst, ◌∙◌, arith}
use Rattle.{desk_model.specs.claim.{Desk.Desk, Geography.GeographyModel}, desk_store.specs.{Calls.SweepsSome, Failures.is_failure, Loads.{Stages, IsLast}}}
use Rattle.desk_store.specs.{Sweeps.{HasRows, HasSwept, Maintains, SweepRefused}, claim.Clerks.{desk_of, disk_of, free_of, pages_of, HaltsByDevice, Keeps, Reads, Moves}}
use Rattle.{desk_store.specs.declared.clerk.Clerk.Clerk, desk_store_opening.specs.geo_tables.{Loading.{HoldsLoad, number_of, geography_model_of, done_of}, declared.load.Load.Load}}
use Rattle.desk_store_opening.specs.plan_revisions.sweeps.{Leftovers.{IsOfLoad, IsApart, AreNotSpared, IsSweptBy}, Sweeping.{SweepErr, Sweeps}}
use Rattle.desk_store_pages.specs.{claim.Desks.{IsDeskMap, InPages}, declared.error.StoreError.{StoreError, TheVariants.{Memory, NotAStore, Halted}}}
use Rattle.desk_store_rows.specs.{Holders.released, Rows.SameTag, TurnLaws.{Turn, goes, lets_go, IsUnneeded, CanTurn, turned, take_turns, AreTurns}, claim.GeographyRows.IsStaged}
use Rattle.{desk_store_rows.specs.claim.{Keys.{RowKey, key_of, Fits, begun, seal, block, pair, in_eight}, Rows.{KeyMap, row_in}}, page_store.specs.declared.pages.Pages.Pages}
use Rattle.{page_btree.specs.gets.claim.Map.InPages as HoldsRows, page_store.specs.claim.Transactions.{disk_in, has_halted, IsQuiet}, desk_store_rows.proofs.RowLaws.keys_differ}
use Rattle.{sector_device.specs.declared.SectorDevice.Ghosts, desk_store.proofs.Done.{quiet_device, reads_move}}
use Rattle.desk_store_rows.proofs.Frames.{remove_keeps, put_keeps_tag, remove_keeps_tag, tag_follows}
use Rattle.desk_store_opening.proofs.chunk_table.Committing.{both, quiet_rows}

-- ---- turns leave the rows of a load
-- a plan that lets a chunk go leaves the rows with other tags
released_keeps : (m : KeyMap) (plan number count tag : ℕ) → (tag ≡ 72 → ⊥) → (tag ≡ 75 → ⊥) → SameTag tag m (released m plan number count)
released_keeps m plan number zero tag holds counts = search (tag_follows, remove_keeps_tag)
released_keeps m plan number (suc more) tag holds counts = search (tag_follows, remove_keeps_tag, put_keeps_tag)

let_go_kept : (load plan number count : ℕ) (m : KeyMap) (row : RowKey) → IsOfLoad load row → row_in (released m plan number count) row ≡ row_in m row
let_go_kept load plan number count m (begun other) of = released_keeps m plan number count 76 (λ same. absurd (omega (arith, same))) (λ same. absurd (omega (arith, same))) (in_eight other)
let_go_kept load plan number count m (block other place) of = released_keeps m plan number count 103 (λ same. absurd (omega (arith, same))) (λ same. absurd (omega (arith, same))) _
let_go_kept load plan number count m (pair other place) of = released_keeps m plan number count 103 (λ same. absurd (omega (arith, same))) (λ same. absurd (omega (arith, same))) _
let_go_kept load plan number count m _ of = absurd of

turn_kept : (load : ℕ) (turn : Turn) (m : KeyMap) (row : RowKey) → Fits row → IsOfLoad load row → CanTurn m turn → IsApart (Some load) turn → row_in (turned m turn) row ≡ row_in m row
turn_kept load (goes r) m row fits of can apart = search (rules, remove_keeps, keys_differ)
turn_kept load (lets_go plan number count) m row fits of can apart = let_go_kept load plan number count m row of

of_load_kept : (load : ℕ) (turns : List Turn) (m : KeyMap) (row : RowKey) → Fits row → IsOfLoad load row → AreTurns m turns → AreNotSpared (Some load) turns → row_in (take_turns m turns) row ≡ row_in m row
of_load_kept load [] m row fits of left apart = refl
of_load_kept load (turn ∷ turns) m row fits of left apart =
    of_load_kept load turns (turned m turn) row fits of left.1 apart.1 ∙ turn_kept load turn m row fits of left.0 apart.0

seal_turned : (turn : Turn) (m : KeyMap) → CanTurn m turn → row_in (turned m turn) seal ≡ row_in m seal
seal_turned (goes r) m can = remove_keeps m (key_of r) (key_of seal) (λ same. subst (λ (k : RowKey). IsUnneeded m k) (sym (keys_differ seal r tt can.0 same)) can.1)
seal_turned (lets_go plan number count) m can = released_keeps m plan number count 83 (λ same. absurd (omega (arith, same))) (λ same. absurd (omega (arith, same))) []

seal_kept : (turns : List Turn) (m : KeyMap) → AreTurns m turns → row_in (take_turns m turns) seal ≡ row_in m seal
seal_kept [] m left = refl
seal_kept (turn ∷ turns) m left = seal_kept turns (turned m turn) left.1 ∙ seal_turned turn m left.0

swept_row : (load count : ℕ) (m n : KeyMap) (row : RowKey) → IsSweptBy (Some load) count m n → Fits row → IsOfLoad load row → row_in n row ≡ row_in m row
swept_row load count m n row by fits of = ap (λ (k : KeyMap). row_in k row) by.rest ∙ of_load_kept load by.turns m row fits of by.left by.apart

staged_kept : (load count : ℕ) (g : GeographyModel) (done : ℕ) (m n : KeyMap) → load < 2 ^ 64 → IsSweptBy (Some load) count m n → IsStaged m load g done → IsStaged n load g done
staged_kept load count g done m n few by staged = record {
  fit = staged.fit;
  blocks = λ place small. swept_row load count m n (block load place) by (few, small) refl ∙ staged.blocks place small;
  pairs = λ place small. swept_row load count m n (pair load place) by (few, small) refl ∙ staged.pairs place small;
}

module _ {D : Type 0} {g : Ghosts D} where
  -- what a step says of the rows that pages held
  abbrev pub Swept : Option ℕ → ℕ → Pages D g → Pages D g → Type 0
  Swept running count a b = (m : KeyMap) (d : Desk) → HoldsRows a m → IsDeskMap m d → Sweeps running m d a b count

  pub as_loading : (x : Clerk D g) (b : Pages D g) (running : Option ℕ) (count : ℕ) → running ≡ x.loading → ((disk_in b).is_honest → Swept running count (pages_of x) b) → (disk_in b).is_honest → Swept x.loading count (pages_of x) b
  as_loading x b running count same swept honest = rw same at (swept honest)

  load_kept : (a b : Pages D g) (d : Desk) (load : Load) (running : Option ℕ) (count : ℕ) → running ≡ Some (number_of load) → number_of load < 2 ^ 64 → Swept running count a b → HoldsLoad a d load → HoldsLoad b d load
  load_kept a b d load running count last few swept holds =
      let then = (swept holds.m d holds.holds holds.is).holds in
      let by = rw last at then.swept.by in
      record {
        m = then.n;
        holds = then.holds;
        is = then.swept.is;
        staged = staged_kept (number_of load) count (geography_model_of load) (done_of load) holds.m then.n few by holds.staged;
        mark = swept_row (number_of load) count holds.m then.n (begun (number_of load)) by few refl ∙ holds.mark;
        unsealed = ap (λ (k : KeyMap). row_in k seal) by.rest ∙ seal_kept by.turns holds.m by.left ∙ holds.unsealed;
      }

  -- a call after which the pages hold what is staged of a load, if they did before; it shows the same desk
  module _ (x y : Clerk D g) (load : Load) (working : x.halted ≡ false) (desk : desk_of y ≡ desk_of x) (moves : Moves (desk_of x) x y) (stages : Stages x load) where
    pub swept_stages : (count : ℕ) → number_of load < 2 ^ 64 → IsLast x load → ((disk_of y).is_honest → Swept x.loading count (pages_of x) (pages_of y)) → Stages y load
    swept_stages count few last swept = record {
      keeps = moves.keeps stages.keeps;
      holds = λ off honest. rw desk (load_kept (pages_of x) (pages_of y) (desk_of x) load x.loading count last few (swept honest) (stages.holds working (moves.honest honest)));
    }

    pub still_stages : IsQuiet (pages_of x) (pages_of y) → Stages y load
    still_stages quiet = record {
      keeps = moves.keeps stages.keeps;
      holds = λ off honest. let was = stages.holds working (quiet.honest honest) in let there : HoldsLoad (pages_of y) (desk_of x) load = search quiet_rows in rw desk there;
    }

    pub halted_stages : y.halted ≡ true → Stages y load
    halted_stages on = record { keeps = moves.keeps stages.keeps; holds = λ off. both y.halted on off }

  pub swept_holds : (x : Clerk D g) (b : Pages D g) (count : ℕ) → ((disk_in b).is_honest → Swept x.loading count (pages_of x) b) → (disk_in b).is_honest → (d : Desk) → InPages (pages_of x) d → InPages b d
  swept_holds x b count swept honest d was = let then = (swept honest was.m d was.holds was.is).holds in record { m = then.n; holds = then.holds; is = then.swept.is }

  pub swept_told : (x y : Clerk D g) (m : KeyMap) (count : ℕ) → desk_of y ≡ desk_of x → y.loading ≡ x.loading → Swept x.loading count (pages_of x) (pages_of y) → HasRows x m → HasSwept x m count y
  swept_told x y m count desk loading swept has =
      let then = (swept m (desk_of x) has.holds has.is).holds in
      record {
        n = then.n;
        has = record { holds = then.holds; is = rw desk then.swept.is };
        by = then.swept.by;
        clean = λ less. rw loading (then.clean less);
      }

  -- ---- one that was refused
  pub sweep_stopped : {x y : Clerk D g} {e : StoreError} → Maintains {A = ℕ} x y (Err e) → ((load : Load) → IsLast x load → Stages x load → Stages y load) → HaltsByDevice x y → (Keeps x → (disk_of y).is_honest → y.halted ≡ false → free_of x ≤ free_of y) → SweepsSome x y (Err e)
  sweep_stopped maintains staged device free = record { maintains = maintains; staged = staged; few = tt; swept = λ honest m has. tt; exact = λ honest m has. tt; device = device; free = free }

  pub sweep_rose : (x : Clerk D g) (b : Pages D g) (e : StoreError) → x.halted ≡ false → SweepErr (pages_of x) b e → (is_failure e ≡ true) ⊎ (has_halted b ≡ true) → (disk_in b).is_honest → (disk_of x).faults < (disk_in b).faults
  sweep_rose x b Memory working why on honest = ⊎_elim (λ clash. absurd (cc)) (λ halted. why.rose (x.working working) halted honest) on
  sweep_rose x b NotAStore working why on honest = ⊎_elim (λ clash. absurd (cc)) (λ halted. why.0.rose (x.working working) halted honest) on
  sweep_rose x b Halted working why on honest = both (has_halted (pages_of x)) why.0 (x.working working)
  sweep_rose x b _ working why on honest = search rules

  pub sweep_quiet : (a b : Pages D g) (e : StoreError) → is_failure e ≡ false → SweepErr a b e → IsQuiet a b
  sweep_quiet a b Memory off why = why
  sweep_quiet a b _ off why = search rules

  -- ---- the pages halt where the device fails
  pub passed_device : (x y : Clerk D g) → has_halted (pages_of y) ≡ false → ((disk_of y).is_honest → (disk_of y).faults ≡ (disk_of x).faults) → HaltsByDevice x y
  passed_device x y works passed = search rules

  pub refused_device : (x y : Clerk D g) (e : StoreError) → SweepErr (pages_of x) (pages_of y) e → HaltsByDevice x y
  refused_device x y Memory why = quiet_device x y why
  refused_device x y NotAStore why = quiet_device x y why.0
  refused_device x y _ why = search rules

  -- and as a refusal of the clerk, who goes on
  pub refused_so : (x : Clerk D g) (b : Pages D g) (e : StoreError) (halted : Bool) → x.halted ≡ false → halted ≡ false → is_failure e ≡ false → SweepErr (pages_of x) b e → SweepRefused x e halted b
  refused_so x b NotAStore halted working works off why = (working, works, why.0, λ honest holds. why.2 honest (desk_of x) holds)
  refused_so x b _ halted working works off why = search rules

  -- a check that met a fault read at most
  pub checked_failed : (x y : Clerk D g) (e : StoreError) → x.halted ≡ false → desk_of y ≡ desk_of x → IsQuiet (pages_of x) (pages_of y) → SweepErr (pages_of x) (pages_of y) e → (is_failure e ≡ true) ⊎ (has_halted (pages_of y) ≡ true) → Moves (desk_of x) x y
  checked_failed x y e working desk quiet why on = let reads : Reads x y = search (rules, sweep_rose) in reads_move (desk_of x) x y reads

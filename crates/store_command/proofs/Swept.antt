-- Steps of a sweep, one after the other.
use Rattle.std.{specs.Prelude.{Result, Ok, Err}, proofs.Common.{◌≡◌, ◌≤◌, ◌+◌, ℕ, [], ◌∷◌, Option, false, inl, inr, refl, sym, subst, ◌∙◌, arith}}
use Rattle.{desk_model.specs.claim.Desk.Desk, desk_store_pages.specs.declared.error.StoreError.StoreError, desk_store_rows.specs.claim.Rows.KeyMap}
use Rattle.desk_theorem.specs.{claim.OneLife.RequestsHold, lives.{DeskInside.Sweeps as Answered, declared.desk_lives.Answer.{Answer, TheVariants.{Swept, Unswept}}}}
use Rattle.desk_theorem.specs.{lives.declared.desk_lives.Request.TheVariants.Sweep, loading.Openings.IsOpened, runs.{Recovery.ImagesAreOne, desk_store.declared.clerk.Clerk.Clerk}}
use Rattle.desk_theorem.specs.runs.desk_store.{Sweeps.{HasRows, HasSwept as HasSweptStep, SweepRefused}, claim.Clerks.{desk_of, disk_of, pages_of, Keeps, Moves}}
use Rattle.{desk_theorem.specs.runs.plan_revisions_sweeps.Leftovers.IsSweptBy, page_store.specs.claim.Transactions.device_in, sector_device.specs.declared.SectorDevice.Ghosts}
use Rattle.store_command.{specs.{Faults.fault_of_store, Reading.ShowsWhatIsRead, declared.fault.StoreFault.{StoreFault, TheVariants.NotAStore}}, proofs.Opened.asked_life}
use Rattle.store_command.specs.Sweeping.{SweptLife, SweptOnce, KeepsDesk, HasTaken, HasSweptAll, IsChecked, IsStopped, SweepsAll, SweepsSteps, HasSwept, SweepsDevice}
use Rattle.{desk_theorem.proofs.Asked.one_asked, store_command.proofs.Used.{kept_left, left_same}}
use Rattle.desk_theorem.proofs.loading.Moves.{then_moved}
use Rattle.desk_theorem.proofs.lives.DeskLiving.{swept_for}
use Rattle.desk_theorem.proofs.runs.plan_revisions_sweeps.Taken.{then_by}
use Rattle.desk_theorem.proofs.runs.desk_store.Moved.{unmoved}

module _ {D : Type 0} {g : Ghosts D} where
  pub none_kept : (x : Clerk D g) → KeepsDesk x x
  none_kept x = record { moves = unmoved (Keeps x) (desk_of x) x (λ keeps. keeps); desk = refl; loading = refl }

  pub kept_after : (x w y : Clerk D g) → KeepsDesk x w → KeepsDesk w y → KeepsDesk x y
  kept_after x w y one two = record {
    moves = then_moved (Keeps x) (Keeps w) (desk_of x) x w y one.moves one.desk one.moves.keeps (subst (λ (d : Desk). Moves d w y) one.desk two.moves);
    desk = two.desk ∙ one.desk;
    loading = two.loading ∙ one.loading;
  }

  pub none_taken : (x : Clerk D g) (m : KeyMap) → HasRows x m → HasTaken x m 0 x
  none_taken x m has = record { n = m; has = has; by = record { turns = []; count_is = refl; left = tt; apart = tt; rest = refl } }

  pub more_taken : (x y z : Clerk D g) (m : KeyMap) (rows count sum : ℕ) → rows + count ≡ sum → y.loading ≡ x.loading → (one : HasTaken x m rows y) → HasSweptStep y one.n count z → HasTaken x m sum z
  more_taken x y z m rows count sum are loading one next = record {
    n = next.n;
    has = next.has;
    by = subst (λ (k : ℕ). IsSweptBy x.loading k m next.n) are (then_by x.loading rows count m one.n next.n one.by (subst (λ (r : Option ℕ). IsSweptBy r count one.n next.n) loading next.by));
  }

  -- a step that takes nothing out
  pub all_taken : (x y z : Clerk D g) (m : KeyMap) (rows count : ℕ) → y.loading ≡ x.loading → count ≡ 0 → HasTaken x m rows y → ((n : KeyMap) → HasRows y n → HasSweptStep y n count z) → HasSweptAll x m rows z
  unfolding more_taken
  all_taken x y z m rows count loading none one steps =
      let next = steps one.n one.has in
      record { taken = more_taken x y z m rows count rows (omega (arith, none)) loading one next; clean = next.clean (omega (arith, none)) }

  -- a step that was refused
  pub step_stopped : (x y z : Clerk D g) (e : StoreError) (fault : StoreFault) → fault ≡ fault_of_store e → KeepsDesk x y → y.halted ≡ false → Moves (desk_of y) y z → SweepRefused y e z.halted (pages_of z) → IsStopped x fault z
  step_stopped x y z e fault told kept working last why = inl (e, told, record { w = y; before = kept; worked = working; last = last; why = why })

  -- so many steps were made that more rows were taken out than a store has
  pub endless : (x y : Clerk D g) (rows : ℕ) → 281474976710656 ≤ rows → y.halted ≡ false → ((disk_of y).is_honest → (m : KeyMap) → HasRows x m → HasTaken x m rows y) → IsStopped x NotAStore y
  endless x y rows many works taken = inr (refl, record { works = works; rows = rows; many = many; taken = taken })

  -- ---- the check before it
  pub swept_after : (x w y : Clerk D g) (r : Result ℕ StoreFault) → IsChecked x w → SweepsSteps w r y → SweepsAll x r y
  swept_after x w y (Ok rows) checked swept = (w, checked, swept)
  swept_after x w y (Err fault) checked stopped = inr (w, checked, stopped)

  -- ---- the device
  -- one life
  module _ (law : ImagesAreOne) (device : D) (x y : Clerk D g) (opened : IsOpened device x) (keeps : KeepsDesk x y) where
    answered : (a : Answer) → Answered x a y → SweptOnce (g.disk device) (disk_of y) a
    answered a did = asked_life law device x y (RequestsHold (Sweep ∷ []) (a ∷ [])) opened (one_asked x Sweep a y (keeps.moves, keeps.desk, did))

    -- for what a clerk met that had moved so far
    stopped : (w : Clerk D g) → (Keeps x → Keeps w) → Moves (desk_of w) w y → (e : StoreError) → SweepRefused w e y.halted (pages_of y) → SweptOnce (g.disk device) (disk_of y) (Unswept e)
    stopped w kept last e why = answered (Unswept e) (λ works was honest. swept_for w e y (λ on. (last.still on).2) last.honest why works (kept was) honest)

    life_of : (swept : Result ℕ StoreFault) → SweepsAll x swept y → SweptLife (g.disk device) (disk_of y) swept
    life_of (Ok rows) did = answered (Swept rows) did.2.works
    life_of (Err fault) (inl unchecked) = inl (unchecked.e, unchecked.told, stopped x (λ is. is) keeps.moves unchecked.e unchecked.why)
    life_of (Err fault) (inr (w, checked, inl step)) =
        inl (step.0, step.1, stopped step.2.w (λ is. step.2.before.moves.keeps (checked.keeps.moves.keeps is)) step.2.last step.0 step.2.why)
    life_of (Err fault) (inr (w, checked, inr end)) = inr (end.0, (end.1.rows, end.1.many, answered (Swept end.1.rows) end.1.works))

  -- what was opened, swept and given back
  pub has_swept : ImagesAreOne → (device : D) (x y : Clerk D g) → IsOpened device x → ShowsWhatIsRead device x → (swept : Result ℕ StoreFault) → KeepsDesk x y → SweepsAll x swept y → (left : D) → left ≡ device_in (pages_of y) → HasSwept g device swept left
  has_swept law device x y opened shows swept keeps sweeps left back =
      subst (λ (d : D). HasSwept g device swept d) (sym back) (let life = life_of law device x y opened keeps swept sweeps in search (kept_left, left_same, life))

  pub device_swept : (device : D) (swept : Result ℕ StoreFault) (left : D) → HasSwept g device swept left → SweepsDevice g device swept left
  device_swept device (Ok rows) left has = has
  device_swept device (Err fault) left has = inr has

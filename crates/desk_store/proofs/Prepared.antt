-- A command whose pages are made ready.
use Rattle.{std.proofs.Common.{rules, ◌≡◌, ◌⊎◌, ◌≤◌, ◌+◌, ℕ, Bool, true, false, List, length, inl, inr, refl, sym, ap, subst, ◌∙◌, arith}, desk_model.specs.claim.Desk.Desk}
use Rattle.{desk_model.specs.{claim.{Outcome.{IsFull, RefusalMay}, Room.{need, command_rows}}, declared.command.Command.Command}, desk_store.specs.Faults.{is_fault, refusal_of}}
use Rattle.desk_store.specs.claim.{Clerks.{desk_of, disk_of, pages_of, room_of, Keeps, Reads}, Commands.{command_of, after_of, written_of, IsReady, HasRoom, MustBeFull, MayBeFull}}
use Rattle.{desk_store.specs.declared.{clerk.Clerk.Clerk, ready.Ready.Ready}, desk_store_catalogue.specs.claim.Accepting.IsAfter, desk_store_pages.specs.claim.Commits.HoldsAfter}
use Rattle.{desk_store_opening.specs.plan_revisions.claim.{Outcomes.HasExhausted, Rows.HasNumbers, Steps.{HasStepped, LeavesNumbers, StepErr}}, desk_store.proofs.Kept.accepted_is}
use Rattle.{desk_store_pages.specs.claim.Desks.{HoldsDeskOf, InPages, InPagesOf, InTxn, InTxnOf}, desk_store_rows.specs.claim.Rows.KeyMap, page_store.specs.Transactions.txn_first}
use Rattle.{page_btree.specs.gets.{claim.Map.{InTxn as TxnHas, InPages as HoldsRows}, declared.error.TreeError.TreeError}, page_store.specs.claim.Chain.{free_in, root_in}}
use Rattle.{page_btree.specs.gets.declared.error.TreeError.TheVariants.{DeviceFault, NotAStore, Halted, NoPages, TooDeep, Memory}, page_store.specs.declared.pages.Pages.Pages}
use Rattle.page_store.specs.claim.Transactions.{stored, disk_in, count_of, has_halted, txn_pages, txn_writes, txn_free, txn_root, over, free_over, prepared_pages, prepared_writes, after, IsQuiet}
use Rattle.{page_store.{specs.declared.txn.{Prepared.Prepared, Txn.Txn}, proofs.Chains.length_chain}, sector_device.specs.{claim.Disk.Image, declared.SectorDevice.Ghosts}}
use Rattle.desk_store_pages.proofs.{DeskLaws.begun_desk, Found.rows_before, Nearness.near_stored}
use Rattle.desk_store_opening.proofs.plan_revisions.Accepted.{rows_some, geography_stays}
use Rattle.page_btree.proofs.gets.MapLaws.{begun_holds}
use Rattle.desk_store_opening.proofs.chunk_table.Committing.{both}

-- the pages of a prepared transaction, which read what the one before reads with the command's rows
pub record IsReadied (t : Txn) (made : Prepared) : Type 0 where
  pub pages : prepared_pages made ≡ txn_pages t
  pub held : (P : Image) (m : KeyMap) → TxnHas t P m → HoldsAfter made P m
  pub more : length (prepared_writes made) ≤ txn_writes t + 1
  pub free : (P : Image) (m : KeyMap) → TxnHas t P m → length (free_in (after made P)) ≡ txn_free t

module _ {D : Type 0} {g : Ghosts D} where
  -- what a transaction that was begun is
  pub record IsBegun (a : Pages D g) (t : Txn) : Type 0 where
    pub pages : txn_pages t ≡ count_of a
    pub none : txn_writes t ≡ 0
    pub over_is : (q : ℕ) → over t (stored a) q ≡ stored a q
    pub root : (disk_in a).is_honest → txn_root t ≡ root_in (stored a)
    pub free : (disk_in a).is_honest → free_over t (stored a) ≡ free_in (stored a)

  pub begun_reads : {new : Bool} (a : Pages D g) (t : Txn) (d : Desk) → IsBegun a t → (disk_in a).is_honest → InPagesOf new a d → InTxnOf new t (stored a) d
  begun_reads {new} a t d begun honest holds =
      let there : HoldsDeskOf new (txn_pages t) (stored a) (root_in (stored a)) (free_in (stored a)) d = rw begun.pages holds in
      begun_desk t (stored a) d there begun.over_is (begun.root honest) (begun.free honest)

  pub begun_rows : (a : Pages D g) (t : Txn) (m : KeyMap) → IsBegun a t → (disk_in a).is_honest → HoldsRows a m → TxnHas t (stored a) m
  begun_rows a t m begun honest holds = search (rules, begun_holds)

  -- its free pages are the store's
  begun_free : (a : Pages D g) (t : Txn) → IsBegun a t → (disk_in a).is_honest → txn_free t ≡ length (free_in (stored a))
  begun_free a t begun honest = sym (length_chain (over t (stored a)) (txn_first t) (txn_free t)) ∙ ap (λ (l : List ℕ). length l) (begun.free honest)

  -- a call that read at most leaves what is held
  pub still_held : (a b : Pages D g) (d : Desk) → IsQuiet a b → (disk_in b).is_honest → InPages b d → InPages a d
  still_held a b d quiet honest holds = search (rules, quiet.same honest)

  -- the desk that it holds
  next_held : (x y : Clerk D g) (c : Command) (e : Desk) (t u : Txn) (made : Prepared) → desk_of y ≡ desk_of x → IsBegun (pages_of x) t → IsQuiet (pages_of x) (pages_of y) → HasStepped (λ d. d ≡ desk_of x) (λ d. e) (command_rows (desk_of x) c) t u (pages_of x) (pages_of y)
      → IsReadied u made → Keeps y → y.halted ≡ false → (disk_of y).is_honest → InTxn u (stored (pages_of x)) e
  next_held x y c e t u made same begun quiet stepped readied keeps working honest = search (still_held, keeps.holds, stepped.desk, begun_reads, quiet.honest)

  -- what was put is ready
  pub made_ready : (x y : Clerk D g) (c : Command) (e : Desk) (t u : Txn) (r : Ready) → desk_of y ≡ desk_of x → IsAfter (desk_of x) c e → HasRoom x (command_rows (desk_of x) c) → IsBegun (pages_of x) t → IsQuiet (pages_of x) (pages_of y) → txn_pages u ≡ count_of (pages_of y)
      → HasStepped (λ d. d ≡ desk_of x) (λ d. e) (command_rows (desk_of x) c) t u (pages_of x) (pages_of y) × LeavesNumbers (HasNumbers (desk_of x) c) t (pages_of x) (pages_of y) → IsReadied u (written_of r) → command_of r ≡ c → after_of r ≡ e → IsReady y r
  made_ready x y c e t u r same is room begun quiet pages did readied c_is e_is =
      let stepped = did.0 in
      let accepted = subst (λ (d : Desk). IsAfter d (command_of r) (after_of r)) (sym same) (subst (λ (q : Command). IsAfter (desk_of x) q (after_of r)) (sym c_is) (subst (λ (f : Desk). IsAfter (desk_of x) c f) (sym e_is) is)) in
      record {
        pages = readied.pages ∙ pages;
        writes = (let more = readied.more in let writes = stepped.writes in let none = begun.none in let some = rows_some (desk_of x) c e is in let fits = room.journal in let same_journal : room_of y ≡ room_of x = quiet.journal in omega arith);
        accepted = accepted;
        the_geography = geography_stays (desk_of y) (command_of r) (after_of r) accepted;
        rows = λ keeps working honest.
            let next = next_held x y c e t u (written_of r) same begun quiet stepped readied keeps working honest in
            record { m = next.m; holds = rw (quiet.same honest) (readied.held (stored (pages_of x)) next.m next.holds); is = rw e_is next.is };
        free = λ keeps working honest.
            let next = next_held x y c e t u (written_of r) same begun quiet stepped readied keeps working honest in
            let counted = readied.free (stored (pages_of x)) next.m next.holds in
            let taken = stepped.taken in
            let start = begun_free (pages_of x) t begun (quiet.honest honest) in
            let needs : need (desk_of y) (command_of r) ≡ need (desk_of x) c = (λ i. need (same i) (c_is i)) in
            rw (quiet.same honest) (omega arith);
        numbers = λ honest exhausted.
            let holds = begun_rows (pages_of x) t exhausted.m begun (quiet.honest honest) (rows_before (pages_of x) (pages_of y) exhausted.m quiet honest exhausted.holds) in
            let enough = did.1 honest exhausted.m exhausted.next holds exhausted.fit exhausted.is_next in
            exhausted.none (rw same (subst (λ (q : Command). HasNumbers (desk_of x) q exhausted.next) (sym c_is) enough));
      }

  -- ---- nothing was put
  full : (x : Clerk D g) (b : Pages D g) (c : Command) (e : Desk) → IsAfter (desk_of x) c e → MayBeFull x b c → IsFull (MayBeFull x b c) (desk_of x) c (desk_of x)
  full x b c e is no_room = record { accepted = accepted_is (desk_of x) c e is; no_room = no_room; desk = refl }

  pub exhausted_full : (x : Clerk D g) (b : Pages D g) (c : Command) (e : Desk) (t u : Txn) → IsAfter (desk_of x) c e → x.halted ≡ false → IsBegun (pages_of x) t → IsQuiet (pages_of x) b → HasExhausted (HasNumbers (desk_of x) c) t u (pages_of x) b
      → IsFull (MayBeFull x b c) (desk_of x) c (desk_of x)
  exhausted_full x b c e t u is working begun quiet exhausted = full x b c e is (λ keeps honest.
      let holds = keeps.holds working (quiet.honest honest) in
      let reads = begun_rows (pages_of x) t holds.m begun (quiet.honest honest) holds.holds in
      inr (inl (record { m = holds.m; holds = holds.holds; next = exhausted.next; fit = exhausted.are_next.fit; is_next = exhausted.are_next.told honest holds.m reads; none = exhausted.none })))

  pub not_put : (x : Clerk D g) (b : Pages D g) (c : Command) (e : Desk) (t : Txn) (error : TreeError) → IsAfter (desk_of x) c e → HasRoom x (command_rows (desk_of x) c) → x.halted ≡ false → IsBegun (pages_of x) t → IsQuiet (pages_of x) b
      → StepErr (λ d. d ≡ desk_of x) (command_rows (desk_of x) c) t (pages_of x) b error → is_fault error ≡ false → RefusalMay (MustBeFull x c) (MayBeFull x b c) (x.halted ≡ true) (desk_of x) c (refusal_of error) (desk_of x)
  not_put x b c e t Memory is room working begun quiet why off = (λ on. both x.halted on working, refl)
  not_put x b c e t NoPages is room working begun quiet why off =
      (λ on. both x.halted on working, full x b c e is (λ keeps honest. absurd (let start = begun_free (pages_of x) t begun (quiet.honest honest) in let enough = room.free working (quiet.honest honest) in omega arith)))
  not_put x b c e t TooDeep is room working begun quiet why off = (
    λ on. both x.halted on working,
    full x b c e is (λ keeps honest.
        let was = quiet.honest honest in
        let deep = why honest (desk_of x) (begun_reads (pages_of x) t (desk_of x) begun was (keeps.holds working was)) in
        let near = near_stored (command_rows (desk_of x) c) t (pages_of x) (λ i q. begun.over_is q i) (begun.root was) deep.near in
        inr (inr (record { txn = t; deep = deep; near = near }))),
  )
  not_put x b c e t _ is room working begun quiet why off = absurd (cc)

  -- ---- a fault, which is one of the device where the store keeps the desk
  has_failed : (x : Clerk D g) (b : Pages D g) (c : Command) (t : Txn) (error : TreeError) → x.halted ≡ false → Keeps x → (disk_in b).is_honest → IsBegun (pages_of x) t → IsQuiet (pages_of x) b → StepErr (λ d. d ≡ desk_of x) (command_rows (desk_of x) c) t (pages_of x) b error → is_fault error ≡ true → has_halted b ≡ true
  has_failed x b c t DeviceFault working keeps honest begun quiet why fault = why.halted
  has_failed x b c t NotAStore working keeps honest begun quiet why fault = absurd (why honest (desk_of x) (begun_reads (pages_of x) t (desk_of x) begun (quiet.honest honest) (keeps.holds working (quiet.honest honest))) refl)
  has_failed x b c t Halted working keeps honest begun quiet why fault = both (has_halted (pages_of x)) why (x.working working)
  has_failed x b c t _ working keeps honest begun quiet why fault = absurd (cc)

  pub fault_reads : (x y : Clerk D g) (c : Command) (t : Txn) (error : TreeError) → x.halted ≡ false → y.halted ≡ true → desk_of y ≡ desk_of x → IsBegun (pages_of x) t → IsQuiet (pages_of x) (pages_of y) → StepErr (λ d. d ≡ desk_of x) (command_rows (desk_of x) c) t (pages_of x) (pages_of y) error
      → (is_fault error ≡ true) ⊎ (has_halted (pages_of y) ≡ true) → Reads x y
  fault_reads x y c t error working halts same begun quiet why fault = search (rules, has_failed)

-- Pairs that come to be held one after the other within a transaction.
use Rattle.std.{specs.Prelude.{Option, Some}, proofs.Common.{rules, ◌≡◌, ◌<◌, ◌+◌, ◌*◌, ◌++◌, ℕ, false, [], refl, sym, ap, subst, ◌∙◌, arith}}
use Rattle.desk_migration.specs.{Puts.{AndStand, HasHeldAs, IsTurn, HoldErrOf}, Walks.IsNextPair, claim.Holding.{AreUnheld, IsUnheld, hold_pairs}, declared.parts.HeldPair.HeldPair}
use Rattle.{desk_store_pages.specs.Reading.ReadErr, desk_store_rows.specs.claim.{Holders.holding_rows, Keys.holding, Rows.{KeyMap, Lacks}, Shares.hold, Tidy.Tidy}}
use Rattle.page_btree.specs.{gets.{claim.Map.InTxn, declared.error.TreeError.{TreeError, TheVariants.{NotAStore, NoPages, TooDeep, Memory}}}, puts.declared.finger.Fingers.Fingers}
use Rattle.{page_store.specs.{claim.Transactions.{stored, disk_in, IsQuiet, Passed}, declared.{pages.Pages.Pages, txn.Txn.Txn}}, sector_device.specs.claim.Disk.Image}
use Rattle.{sector_device.specs.declared.SectorDevice.Ghosts, desk_migration.proofs.Pairs.{then_by, none_by, one_by, unheld_more, hold_more}}
use Rattle.{desk_store_pages.proofs.Rising.fresh_stand, desk_store_rows.proofs.Migrating.names_can_hold, page_store.proofs.Stops.{passed_none, passed_more, failed_more}}
use Rattle.desk_store_opening.proofs.chunk_table.Changed.{deep_after, near_before, nears_as}
use Rattle.desk_store_opening.specs.chunk_table.Holding as chunk

-- what is known of a map is known of it where one pair more is held
abbrev Stays : (KeyMap → Type 0) → Type 0
Stays known = (m : KeyMap) (plan number : ℕ) → IsUnheld m plan number → known m → known (hold m plan number)

module _ {D : Type 0} {g : Ghosts D} where
  -- ---- one pair
  abbrev Finds : Option HeldPair → (KeyMap → Type 0) → (KeyMap → Type 0) → Txn → Pages D g → Pages D g → Type 0
  Finds found has then t a b = (disk_in b).is_honest → (m : KeyMap) → InTxn t (stored a) m → has m → then m × IsNextPair m found

  pub pair_taken : (pair : HeldPair) (has then : KeyMap → Type 0) (f h : Fingers) (t u : Txn) (a b c : Pages D g) → Stays then → Passed a b → Finds (Some pair) has then t a b
      → chunk.HasHeldWith f h (λ m. Lacks m (holding pair.plan pair.number)) pair.plan pair.number t u b c → HasHeldAs ⊥ 1 (AndStand has f t (stored a)) (AndStand then h u (stored a)) t u a c
  pair_taken pair has then f h t u a b c stays ab finds one = record {
    passed = passed_more a b c ab one.passed;
    pages = one.pages;
    held = λ honest m reads known.
        let middle = one.passed.quiet.honest honest in
        let same = ab.quiet.same middle in
        let is = finds middle m reads known.0 in
        let did = one.held honest m (rw same reads) is.1.lacks (rw same known.1) in
        record { n = hold m pair.plan pair.number; reads = rw same at did.0; by = one_by m pair.plan pair.number is.1; done = (stays m pair.plan pair.number is.1 is.0, rw same at did.1); all = λ never. absurd never };
    writes = let writes = one.writes in omega arith;
    taken = let taken = one.taken in omega arith;
    nearer = λ honest m reads known.
        let middle = one.passed.quiet.honest honest in
        let same = ab.quiet.same middle in
        let is = finds middle m reads known.0 in
        let near = nears_as 2 t u b a same (one.nearer honest m (rw same reads) is.1.lacks (rw same known.1)) in
        omega (arith, near);
  }

  pub pair_not_taken : (pair : HeldPair) (has then : KeyMap → Type 0) (f : Fingers) (t : Txn) (a b c : Pages D g) (e : TreeError) → ((m : KeyMap) → then m → Tidy m) → Passed a b → Finds (Some pair) has then t a b → IsQuiet b c
      → chunk.HoldErrWith f (λ m. Lacks m (holding pair.plan pair.number)) pair.plan pair.number t b c e → HoldErrOf 1 (AndStand has f t (stored a)) t a c e
  pair_not_taken pair has then f t a b c NotAStore tidy ab finds quiet why = λ honest m reads known.
      let middle = quiet.honest honest in
      let same = ab.quiet.same middle in
      let is = finds middle m reads known.0 in
      why honest m (tidy m is.0).next.plan (rw same reads) (is.1.lacks, rw same known.1) (names_can_hold m (tidy m is.0) pair.plan pair.number is.1.named) is.1.fits.1
  pair_not_taken pair has then f t a b c NoPages tidy ab finds quiet why = λ honest m reads known.
      let is = finds (quiet.honest honest) m reads known.0 in
      record { count = 1; few = omega arith; n = hold m pair.plan pair.number; by = one_by m pair.plan pair.number is.1; short = omega arith }
  pair_not_taken pair has then f t a b c TooDeep tidy ab finds quiet why = λ honest m reads known.
      let middle = quiet.honest honest in
      let same = ab.quiet.same middle in
      let is = finds middle m reads known.0 in
      let (count, deep, near) = why honest m (rw same reads) (is.1.lacks, rw same known.1) in (
        record { pairs = []; unheld = tt; plan = pair.plan; number = pair.number; count = count; txn = t; deep = deep_after [] (holding_rows pair.plan pair.number count) t t a b m m same refl deep },
        near_before 0 2 t t a b same (omega arith) near,
      )
  pair_not_taken pair has then f t a b c _ tidy ab finds quiet why = search (arith, failed_more)

  -- it isn't known whether there is one
  pub not_found : (most : ℕ) (has : KeyMap → Type 0) (t : Txn) (a b : Pages D g) (e : TreeError) → ReadErr has t a b e → HoldErrOf most has t a b e
  not_found most has t a b NoPages why = absurd why
  not_found most has t a b _ why = search rules

  -- ---- one after the other
  pub none_held : (has : KeyMap → Type 0) (fs : Fingers) (t : Txn) (a : Pages D g) → fs.first.page ≡ 0 → fs.second.page ≡ 0 → HasHeldAs ⊥ 0 has (AndStand has fs t (stored a)) t t a a
  none_held has fs t a first second = record {
    passed = passed_none a;
    pages = refl;
    held = λ honest m reads known. record { n = m; reads = reads; by = none_by m; done = (known, fresh_stand t (stored a) fs first second); all = λ never. absurd never };
    writes = omega arith;
    taken = omega arith;
    nearer = λ honest m reads known. omega arith;
  }

  module _ (count : ℕ) (has mid : KeyMap → Type 0) (f : Fingers) (t u : Txn) (a b c : Pages D g) (one : HasHeldAs ⊥ count has (AndStand mid f u (stored a)) t u a b) where
    abbrev now : (n : KeyMap) → (disk_in b).is_honest → InTxn u (stored a) n → InTxn u (stored b) n
    now n honest = subst (λ (P : Image). InTxn u P n) (sym (one.passed.quiet.same honest))

    abbrev known_now : (n : KeyMap) → (disk_in b).is_honest → AndStand mid f u (stored a) n → AndStand mid f u (stored b) n
    known_now n honest = subst (λ (P : Image). AndStand mid f u P n) (sym (one.passed.quiet.same honest))

    pub more_held : (then : KeyMap → Type 0) (h : Fingers) (v : Txn) → HasHeldAs ⊥ 1 (AndStand mid f u (stored b)) (AndStand then h v (stored b)) u v b c → HasHeldAs ⊥ (count + 1) has (AndStand then h v (stored a)) t v a c
    more_held then h v more = record {
      passed = passed_more a b c one.passed more.passed;
      pages = more.pages ∙ one.pages;
      held = λ honest m reads known.
          let middle = more.passed.quiet.honest honest in
          let was = one.held middle m reads known in
          let is = more.held honest was.n (now was.n middle was.reads) (known_now was.n middle was.done) in
          let same = one.passed.quiet.same middle in
          record { n = is.n; reads = subst (λ (P : Image). InTxn v P is.n) same is.reads; by = then_by count 1 m was.n is.n was.by is.by; done = subst (λ (P : Image). AndStand then h v P is.n) same is.done; all = λ never. absurd never };
      writes = let first = one.writes in let last = more.writes in omega arith;
      taken = let first = one.taken in let last = more.taken in omega arith;
      nearer = λ honest m reads known.
          let middle = more.passed.quiet.honest honest in
          let was = one.held middle m reads known in
          let first = one.nearer middle m reads known in
          let last = nears_as (2 * 1) u v b a (one.passed.quiet.same middle) (more.nearer honest was.n (now was.n middle was.reads) (known_now was.n middle was.done)) in
          omega (arith, first, last);
    }

    -- no more were left, and the fingers are let go
    pub stop_held : (then : KeyMap → Type 0) (h : Fingers) (v : Txn) → IsTurn false (AndStand mid f u (stored b)) (AndStand then h v (stored b)) u v b c → HasHeldAs (count < 8) count has then t v a c
    stop_held then h v none = subst (λ (x : Txn). HasHeldAs (count < 8) count has then t x a c) (sym none.1) (record {
      passed = passed_more a b c one.passed none.0;
      pages = one.pages;
      held = λ honest m reads known.
          let middle = none.0.quiet.honest honest in
          let was = one.held middle m reads known in
          let is = none.2 honest was.n (now was.n middle was.reads) (known_now was.n middle was.done) in
          record { n = was.n; reads = was.reads; by = was.by; done = is.0.0; all = λ few. is.1 };
      writes = one.writes;
      taken = one.taken;
      nearer = λ honest m reads known. one.nearer (none.0.quiet.honest honest) m reads known;
    })

    -- ---- refusals
    pub not_later : (e : TreeError) → count < 8 → IsQuiet b c → HoldErrOf 1 (AndStand mid f u (stored b)) u b c e → HoldErrOf 8 has t a c e
    not_later NotAStore few quiet why = λ honest m reads known.
        let middle = quiet.honest honest in
        let was = one.held middle m reads known in
        why honest was.n (now was.n middle was.reads) (known_now was.n middle was.done)
    not_later NoPages few quiet why = λ honest m reads known.
        let middle = quiet.honest honest in
        let was = one.held middle m reads known in
        let want = why honest was.n (now was.n middle was.reads) (known_now was.n middle was.done) in
        let most = want.few in
        let short = want.short in
        let taken = one.taken in
        record { count = count + want.count; few = omega arith; n = want.n; by = then_by count want.count m was.n want.n was.by want.by; short = omega arith }
    not_later TooDeep few quiet why = λ honest m reads known.
        let middle = quiet.honest honest in
        let was = one.held middle m reads known in
        let (is, near) = why honest was.n (now was.n middle was.reads) (known_now was.n middle was.done) in
        let before = near_before (2 * count) (2 * 1) t u a b (one.passed.quiet.same middle) (one.nearer middle m reads known) near in
        let maps : hold_pairs was.n is.pairs ≡ hold_pairs m (was.by.pairs ++ is.pairs) = ap (λ (k : KeyMap). hold_pairs k is.pairs) was.by.rest ∙ hold_more was.by.pairs is.pairs m in (
          record {
            pairs = was.by.pairs ++ is.pairs;
            unheld = unheld_more was.by.pairs is.pairs m was.by.unheld (subst (λ (k : KeyMap). AreUnheld k is.pairs) was.by.rest is.unheld);
            plan = is.plan;
            number = is.number;
            count = is.count;
            txn = is.txn;
            deep = deep_after [] (holding_rows is.plan is.number is.count) is.txn is.txn a b (hold_pairs m (was.by.pairs ++ is.pairs)) (hold_pairs was.n is.pairs) (one.passed.quiet.same middle) maps is.deep;
          },
          omega (arith, few, before),
        )
    not_later _ few quiet why = search (arith, failed_more)

  -- as many were taken as a step may, and the fingers are let go
  pub full_held : (count : ℕ) (has then : KeyMap → Type 0) (f : Fingers) (t u : Txn) (a b : Pages D g) → count ≡ 8 → HasHeldAs ⊥ count has (AndStand then f u (stored a)) t u a b → HasHeldAs (8 < 8) 8 has then t u a b
  full_held count has then f t u a b all one = record {
    passed = one.passed;
    pages = one.pages;
    held = λ honest m reads known.
        let was = one.held honest m reads known in
        record { n = was.n; reads = was.reads; by = rw all at was.by; done = was.done.0; all = λ never. absurd (omega arith) };
    writes = let writes = one.writes in omega arith;
    taken = let taken = one.taken in omega arith;
    nearer = λ honest m reads known. let near = one.nearer honest m reads known in omega (arith, near, all);
  }

  -- ---- who knows more before, and is to know less then
  pub less_held : (ended : Type 0) (count : ℕ) (has more then less : KeyMap → Type 0) (t u : Txn) (a b : Pages D g) → ((m : KeyMap) → more m → has m) → ((m : KeyMap) → then m → less m) → HasHeldAs ended count has then t u a b → HasHeldAs ended count more less t u a b
  less_held ended count has more then less t u a b gives leaves one = record {
    passed = one.passed;
    pages = one.pages;
    held = λ honest m reads known. search (rules, one.held honest m reads (gives m known));
    writes = one.writes;
    taken = one.taken;
    nearer = λ honest m reads known. one.nearer honest m reads (gives m known);
  }

  pub less_not_held : (most : ℕ) (has more : KeyMap → Type 0) (t : Txn) (a b : Pages D g) (e : TreeError) → ((m : KeyMap) → more m → has m) → HoldErrOf most has t a b e → HoldErrOf most more t a b e
  less_not_held most has more t a b Memory gives why = tt
  less_not_held most has more t a b TooDeep gives why = λ honest m reads known. why honest m reads (gives m known)
  less_not_held most has more t a b _ gives why = search (why, gives)

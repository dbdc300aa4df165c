-- Changes of a map that come one after the other.
use Rattle.{std.proofs.Common.{rules, ◌≡◌, ◌≤◌, ◌+◌, ℕ, List, ◌++◌, length, refl, sym, ap, subst, ◌∙◌, arith, append_assoc, length-append}, desk_store_pages.specs.Reading.ReadErr}
use Rattle.{chunk_table.specs.ChunkChanging.{IsByRows, HasChanged, MapErr}, desk_store_pages.specs.claim.Puts.{HasPut, HasDeepened, PutsErr, IsNear, Nears}}
use Rattle.{desk_store_rows.specs.claim.{Puts.{Row, put_rows}, Rows.KeyMap}, page_btree.specs.gets.claim.{Errors.{level_in, reach_in, top_reach}, Map.InTxn}}
use Rattle.{page_btree.specs.gets.declared.error.TreeError.{TreeError, TheVariants.{NotAStore, TooDeep}}, page_store.specs.declared.{pages.Pages.Pages, txn.Txn.Txn}}
use Rattle.{page_store.specs.claim.Transactions.{stored, txn_root, over, IsQuiet, Passed}, sector_device.specs.{claim.Disk.Image, declared.SectorDevice.Ghosts}}
use Rattle.{desk_store_rows.proofs.Puts.put_rows-append, page_store.proofs.Stops.{passed_more, failed_more}}

module _ {D : Type 0} {g : Ghosts D} where
  -- of pages that hold the same
  pub nears_as : (n : ℕ) (t u : Txn) (a b : Pages D g) → stored a ≡ stored b → Nears n t u a → Nears n t u b
  nears_as n t u a b same near = subst (λ (P : Image). reach_in (over u P) (txn_root u) ≤ reach_in (over t P) (txn_root t) + n) same near

  -- near after a change, and so before it
  pub near_before : (x y : ℕ) (t u : Txn) (a b : Pages D g) → stored b ≡ stored a → Nears x t u a → IsNear y u b → IsNear (x + y) t a
  near_before x y t u a b same nearer near =
      let there = subst (λ (P : Image). top_reach ≤ reach_in (over u P) (txn_root u) + y) same near in
      omega (arith, there, nearer)

  pub more_changed : (f h : KeyMap → KeyMap) (x y : ℕ) (t u v : Txn) (a b c : Pages D g) → HasChanged f x t u a b → HasChanged h y u v b c → HasChanged (λ m. h (f m)) (x + y) t v a c
  more_changed f h x y t u v a b c first then = record {
    passed = passed_more a b c first.passed then.passed;
    pages = then.pages ∙ first.pages;
    changed = λ honest m holds.
        let before = then.passed.quiet.honest honest in
        let same = first.passed.quiet.same before in
        rw same at (then.changed honest (f m) (rw same (first.changed before m holds)));
    writes = let one = first.writes in let other = then.writes in omega arith;
    taken = let one = first.taken in let other = then.taken in omega arith;
    nearer = λ honest m holds.
        let before = then.passed.quiet.honest honest in
        let same = first.passed.quiet.same before in
        let one = first.nearer before m holds in
        let other = nears_as y u v b a same (then.nearer honest (f m) (rw same (first.changed before m holds))) in
        omega (arith, one, other);
  }

  -- a change that is told otherwise, and no more rows
  pub changed_as : (f h : KeyMap → KeyMap) (x y : ℕ) (t u : Txn) (a b : Pages D g) → ((m : KeyMap) → f m ≡ h m) → x ≤ y → HasChanged f x t u a b → HasChanged h y t u a b
  changed_as f h x y t u a b same less did = record {
    passed = did.passed;
    pages = did.pages;
    changed = λ honest m holds. subst (λ (k : KeyMap). InTxn u (stored a) k) (same m) (did.changed honest m holds);
    writes = let most = did.writes in omega arith;
    taken = let most = did.taken in omega arith;
    nearer = λ honest m holds. let near = did.nearer honest m holds in omega (arith, less, near);
  }

  -- rows that are known
  pub rows_changed : (rows : List Row) (t u : Txn) (a b : Pages D g) → HasPut rows t u a b → HasChanged (λ m. put_rows m rows) (length rows) t u a b
  rows_changed rows t u a b did = record { passed = did.passed; pages = did.pages; changed = did.put; writes = did.writes; taken = did.taken; nearer = did.nearer }

  pub rows_unchanged : (can : KeyMap → Type 0) (rows : List Row) (t : Txn) (a b : Pages D g) (e : TreeError) → PutsErr rows t a b e → MapErr can (length rows) t a b e
  rows_unchanged can rows t a b TooDeep why = λ honest m holds. let both = why honest m holds in record { put = rows; few = omega arith; deep = both.0; near = both.1 }
  rows_unchanged can rows t a b _ why = search rules

  -- rows that were put before go before
  pub deep_after : (prefix rows : List Row) (t u : Txn) (a b : Pages D g) (m n : KeyMap) → stored b ≡ stored a → n ≡ put_rows m prefix → HasDeepened rows u b n → HasDeepened (prefix ++ rows) t a m
  deep_after prefix rows t u a b m n same is deep = record {
    prefix = prefix ++ deep.prefix;
    rest = deep.rest;
    are = append_assoc prefix deep.prefix deep.rest ∙ ap (λ l. prefix ++ l) deep.are;
    txn = deep.txn;
    holds = search (rules, put_rows-append);
    deep = subst (λ P. level_in (over deep.txn P) (txn_root deep.txn) ≡ 5) same deep.deep;
  }

  -- some rows were put, and then others were not
  pub then_unchanged : (f : KeyMap → KeyMap) (x y : ℕ) (can more : KeyMap → Type 0) (t u : Txn) (a b c : Pages D g) (e : TreeError) → IsByRows f x → ((m : KeyMap) → can m → more (f m))
      → HasChanged f x t u a b → IsQuiet b c → MapErr more y u b c e → MapErr can (x + y) t a c e
  then_unchanged f x y can more t u a b c NotAStore by gives did quiet why = λ honest m holds is.
      let before = quiet.honest honest in
      why honest (f m) (subst (λ P. InTxn u P (f m)) (sym (did.passed.quiet.same before)) (did.changed before m holds)) (gives m is)
  then_unchanged f x y can more t u a b c TooDeep by gives did quiet why = λ honest m holds.
      let before = quiet.honest honest in
      let same = did.passed.quiet.same before in
      let prefix = by m in
      let deep = why honest (f m) (subst (λ P. InTxn u P (f m)) (sym same) (did.changed before m holds)) in
      let few = prefix.1 in
      let long = length-append prefix.0 deep.put in
      let fewer = deep.few in
      record {
        put = prefix.0 ++ deep.put;
        few = omega arith;
        deep = deep_after prefix.0 deep.put t u a b m (f m) same prefix.2 deep.deep;
        near = near_before x y t u a b same (did.nearer before m holds) deep.near;
      }
  then_unchanged f x y can more t u a b c _ by gives did quiet why = search (arith, failed_more)

  -- no rows are put where the first of them are not
  pub prefix_unchanged : (x y : ℕ) (can more : KeyMap → Type 0) (t : Txn) (a b : Pages D g) (e : TreeError) → x ≤ y → ((m : KeyMap) → can m → more m) → MapErr more x t a b e → MapErr can y t a b e
  prefix_unchanged x y can more t a b TooDeep less gives why = λ honest m holds.
      let deep = why honest m holds in
      let few = deep.few in
      let near = deep.near in record { put = deep.put; few = omega arith; deep = deep.deep; near = omega (arith, near, less) }
  prefix_unchanged x y can more t a b _ less gives why = search (arith, gives)

  -- a look before them changes nothing
  pub read_changed : (t : Txn) (a b : Pages D g) → Passed a b → HasChanged (λ m. m) 0 t t a b
  read_changed t a b passed = record { passed = passed; pages = refl; changed = λ honest m holds. holds; writes = omega arith; taken = omega arith; nearer = λ honest m holds. omega arith }

  pub unread_unchanged : (has can : KeyMap → Type 0) (x : ℕ) (t : Txn) (a b : Pages D g) → ((m : KeyMap) → can m → has m) → (e : TreeError) → ReadErr has t a b e → MapErr can x t a b e
  unread_unchanged has can x t a b gives e why = search (arith, why, gives)

-- ---- changes by rows
pub rows_by_rows : (rows : List Row) → IsByRows (λ m. put_rows m rows) (length rows)
rows_by_rows rows m = (rows, omega arith, refl)

pub more_by_rows : (f h : KeyMap → KeyMap) (x y : ℕ) → IsByRows f x → IsByRows h y → IsByRows (λ m. h (f m)) (x + y)
more_by_rows f h x y first then m =
    let one = first m in
    let rest = then (f m) in
    let few = one.1 in
    let also = rest.1 in
    let long = length-append one.0 rest.0 in
    (one.0 ++ rest.0, omega arith, rest.2 ∙ ap (λ (n : KeyMap). put_rows n rest.0) one.2 ∙ sym (put_rows-append m one.0 rest.0))

-- A plan comes to hold chunks, one after the other.
use Rattle.{std.{specs.Prelude.Contains, proofs.lemmas.List.{append-nil, Elements.{Contains-append_left, Contains-append_right}}}, desk_store_rows.specs.ForkLaws.ChunksAreHeld}
use Rattle.std.proofs.Common.{rules, ◌≡◌, ◌≤◌, ◌+◌, ◌*◌, ℕ, suc, List, [], ◌∷◌, ◌++◌, length, Option, Some, None, refl, sym, ap, subst, ◌∙◌, arith, append_assoc, length-append}
use Rattle.{chunk_table.specs.{ChunkChanging.{IsByRows, HasChanged, MapErr}, Holding.{HasHeldWith, HoldErrWith, IsFreeFrom, CanHoldAll}}, desk_store_rows.specs.Shares.hold_all}
use Rattle.desk_store_rows.specs.claim.{Holders.holding_rows, Keys.{holding, holder_count}, Puts.{Row, put_rows}, Rows.{KeyMap, row_in}, Shares.{count_of, hold_by, hold}}
use Rattle.page_btree.specs.{gets.{claim.Map.InTxn, declared.error.TreeError.{TreeError, TheVariants.{NotAStore, TooDeep}}}, puts.{Fingers.Stand, declared.finger.Fingers.Fingers}}
use Rattle.{page_store.specs.{claim.Transactions.{stored, disk_in, IsQuiet, Passed}, declared.{pages.Pages.Pages, txn.Txn.Txn}}, sector_device.specs.declared.SectorDevice.Ghosts}
use Rattle.{chunk_table.proofs.Changed.{read_changed, changed_as, deep_after, nears_as, near_before, prefix_unchanged, more_by_rows}, desk_store_pages.proofs.Rising.fresh_stand}
use Rattle.page_store.proofs.Stops.{passed_more, failed_more}

-- ---- by how many rows
held_by_two : (o : Option (List ℕ)) (m : KeyMap) (plan number : ℕ) → (put : List Row) × (length put ≤ 2) × (hold_by o m plan number ≡ put_rows m put)
held_by_two None m plan number = (holding_rows plan number (count_of (row_in m (holder_count number))), omega arith, refl)
held_by_two (Some value) m plan number = ([], omega arith, refl)

pub held_by_rows : (plan : ℕ) (numbers : List ℕ) → IsByRows (λ m. hold_all m plan numbers) (2 * length numbers)
held_by_rows plan [] m = ([], omega arith, refl)
held_by_rows plan (number ∷ numbers) m =
    let all = more_by_rows (λ m. hold m plan number) (λ m. hold_all m plan numbers) 2 (2 * length numbers) (λ n. held_by_two (row_in n (holding plan number)) n plan number) (held_by_rows plan numbers) m in
    let few = all.1 in
    (all.0, omega arith, all.2)

held-append : (m : KeyMap) (plan : ℕ) (xs ys : List ℕ) → hold_all m plan (xs ++ ys) ≡ hold_all (hold_all m plan xs) plan ys
held-append m plan [] ys = refl
held-append m plan (x ∷ xs) ys = held-append (hold m plan x) plan xs ys

-- ---- one after the other
module _ {D : Type 0} {g : Ghosts D} where
  -- a change was made, of which it is known what it says, and then a chunk was not held
  then_not_held : (f : KeyMap → KeyMap) (x : ℕ) (can says : KeyMap → Type 0) (fs : Fingers) (plan number : ℕ) (t u : Txn) (a b c : Pages D g) (e : TreeError) → IsByRows f x → ((m : KeyMap) → can m → CanHoldAll plan (number ∷ []) (f m))
      → ((disk_in b).is_honest → (m : KeyMap) → InTxn t (stored a) m → says (f m) × Stand u (stored a) fs) → HasChanged f x t u a b → IsQuiet b c → HoldErrWith fs says plan number u b c e → MapErr can (x + 2) t a c e
  then_not_held f x can says fs plan number t u a b c NotAStore by gives known did quiet why = λ honest m holds is.
      let before = quiet.honest honest in
      let same = did.passed.quiet.same before in
      let is_then = gives m is in
      let says_then = known before m holds in
      why honest (f m) is_then.0 (rw same (did.changed before m holds)) (says_then.0, rw same says_then.1) is_then.1 (is_then.2 number ((0, omega arith, refl)))
  then_not_held f x can says fs plan number t u a b c TooDeep by gives known did quiet why = λ honest m holds.
      let before = quiet.honest honest in
      let same = did.passed.quiet.same before in
      let says_then = known before m holds in
      let prefix = by m in
      let deep = why honest (f m) (rw same (did.changed before m holds)) (says_then.0, rw same says_then.1) in
      let rows = holding_rows plan number deep.0 in
      let few = prefix.1 in
      let long = length-append prefix.0 rows in
      record { put = prefix.0 ++ rows; few = omega arith; deep = deep_after prefix.0 rows t u a b m (f m) same prefix.2 deep.1; near = near_before x 2 t u a b same (did.nearer before m holds) deep.2 }
  then_not_held f x can says fs plan number t u a b c _ by gives known did quiet why = search (arith, failed_more)

  -- of all chunks only the rest is not held yet, the plan holds none from a number on, and both fingers stand
  pub record HasHeldTo (plan : ℕ) (all rest : List ℕ) (free : Option ℕ) (fs : Fingers) (t u : Txn) (old new : Pages D g) : Type 0 where
    pub prefix : List ℕ
    pub are : prefix ++ rest ≡ all
    pub held : HasChanged (λ m. hold_all m plan prefix) (2 * length prefix) t u old new
    pub none : (disk_in new).is_honest → (m : KeyMap) → InTxn t (stored old) m → IsFreeFrom free plan (hold_all m plan prefix) × Stand u (stored old) fs

  pub begun_held : (plan : ℕ) (all : List ℕ) (free : Option ℕ) (fs : Fingers) (t : Txn) (a b : Pages D g) → Passed a b → fs.first.page ≡ 0 → fs.second.page ≡ 0
      → ((disk_in b).is_honest → (m : KeyMap) → InTxn t (stored a) m → IsFreeFrom free plan m) → HasHeldTo plan all all free fs t t a b
  begun_held plan all free fs t a b passed first second none = search (arith, read_changed, none, fresh_stand)

  pub next_held : (plan number : ℕ) (all rest now : List ℕ) (free then : Option ℕ) (fs fs_then : Fingers) (t u v : Txn) (a b c : Pages D g) → now ≡ number ∷ rest → ((m : KeyMap) → IsFreeFrom free plan m → IsFreeFrom then plan (hold m plan number))
      → HasHeldTo plan all now free fs t u a b → HasHeldWith fs fs_then (IsFreeFrom free plan) plan number u v b c → HasHeldTo plan all rest then fs_then t v a c
  next_held plan number all rest now free then fs fs_then t u v a b c is moves before did =
      let prefix = before.prefix in
      let both = λ (honest : (disk_in c).is_honest) (m : KeyMap) (holds : InTxn t (stored a) m).
      let earlier = did.passed.quiet.honest honest in
      let same = before.held.passed.quiet.same earlier in
      let m_then = hold_all m plan prefix in
      let known = before.none earlier m holds in
      did.held honest m_then (rw same (before.held.changed earlier m holds)) known.0 (rw same known.1) in
      let long = length-append prefix (number ∷ []) in
      let one : HasChanged (λ m. hold (hold_all m plan prefix) plan number) (2 * length prefix + 2) t v a c = record {
        passed = passed_more a b c before.held.passed did.passed;
        pages = did.pages ∙ before.held.pages;
        changed = λ honest m holds. rw (before.held.passed.quiet.same (did.passed.quiet.honest honest)) at (both honest m holds).0;
        writes = let first = before.held.writes in let more = did.writes in omega arith;
        taken = let first = before.held.taken in let more = did.taken in omega arith;
        nearer = λ honest m holds.
            let earlier = did.passed.quiet.honest honest in
            let same = before.held.passed.quiet.same earlier in
            let known = before.none earlier m holds in
            let first = before.held.nearer earlier m holds in
            let more = nears_as 2 u v b a same (did.nearer honest (hold_all m plan prefix) (rw same (before.held.changed earlier m holds)) known.0 (rw same known.1)) in
            omega (arith, first, more);
      } in
      record {
        prefix = prefix ++ number ∷ [];
        are = append_assoc prefix (number ∷ []) rest ∙ ap (λ (l : List ℕ). prefix ++ l) (sym is) ∙ before.are;
        held = changed_as (λ m. hold (hold_all m plan prefix) plan number) (λ m. hold_all m plan (prefix ++ number ∷ [])) (2 * length prefix + 2) (2 * length (prefix ++ number ∷ [])) t v a c
            (λ m. sym (held-append m plan prefix (number ∷ []))) (omega arith) one;
        none = λ honest m holds.
            let earlier = did.passed.quiet.honest honest in
            (rw held-append (moves (hold_all m plan prefix) (before.none earlier m holds).0), rw (before.held.passed.quiet.same earlier) at (both honest m holds).1);
      }

  pub all_held : (plan : ℕ) (all rest : List ℕ) (free : Option ℕ) (fs : Fingers) (t u : Txn) (a b : Pages D g) → rest ≡ [] → HasHeldTo plan all rest free fs t u a b → HasChanged (λ m. hold_all m plan all) (2 * length all) t u a b
  all_held plan all rest free fs t u a b none before = search (rules, append-nil)

  pub next_not_held : ChunksAreHeld → (plan number : ℕ) (all rest now : List ℕ) (free : Option ℕ) (fs : Fingers) (t u : Txn) (a b c : Pages D g) (e : TreeError) → now ≡ number ∷ rest → HasHeldTo plan all now free fs t u a b → IsQuiet b c
      → HoldErrWith fs (IsFreeFrom free plan) plan number u b c e → MapErr (CanHoldAll plan all) (2 * length all) t a c e
  next_not_held law plan number all rest now free fs t u a b c e is before quiet why =
      let prefix = before.prefix in
      let are : prefix ++ number ∷ rest ≡ all = ap (λ (l : List ℕ). prefix ++ l) (sym is) ∙ before.are in
      let long : length all ≡ length prefix + suc (length rest) = ap length (sym are) ∙ length-append prefix (number ∷ rest) in
      let among = λ (x : ℕ) (there : Contains (prefix ++ number ∷ rest) x). subst (λ (l : List ℕ). Contains l x) are there in
      prefix_unchanged (2 * length prefix + 2) (2 * length all) (CanHoldAll plan all) (CanHoldAll plan all) t a c e (omega arith) (λ m is. is)
      (then_not_held (λ m. hold_all m plan prefix) (2 * length prefix) (CanHoldAll plan all) (IsFreeFrom free plan) fs plan number t u a b c e (held_by_rows plan prefix)
      (λ m is. (
        is.0,
        (law m is.0 plan prefix is.1 (λ x there. is.2 x (among x (Contains-append_left prefix (number ∷ rest) x there)))).can,
        λ x there. is.2 x (among x (Contains-append_right prefix (number ∷ rest) x (Contains-append_left (number ∷ []) rest x there))),
      ))
      before.none before.held quiet why)

-- Turns that are taken one after the other.
use Rattle.std.{specs.{FinMap.remove, Prelude.{Option, Some, None, Ok}}, proofs.Common.{◌≡◌, ◌≤◌, ◌+◌, ◌++◌, ℕ, zero, List, [], ◌∷◌, refl, sym, ap, subst, ◌∙◌, arith}}
use Rattle.{chunk_table.specs.Releasing.{HasReleased, ReleaseErr}, desk_model.specs.claim.Desk.Desk, desk_store_pages.specs.{Looking.Looks, Reading.ReadErr, claim.Desks.IsDeskMap}}
use Rattle.desk_store_rows.specs.{HolderLaws.HeldIsTallied, Holders.released, TurnLaws.{Turn, goes, lets_go, rows_in, CanTurn, turned, take_turns, AreTurns, TurnsAreSwept}}
use Rattle.{desk_store_rows.specs.claim.{Keys.key_of, Rows.KeyMap, Tidy.Tidy}, page_btree.specs.gets.{claim.{Errors.RemoveErr, Map.InTxn}, declared.error.TreeError.TreeError}}
use Rattle.{page_btree.specs.gets.declared.error.TreeError.TheVariants.{DeviceFault, NotAStore, Halted, NoPages, TooDeep, Memory}, page_store.specs.declared.pages.Pages.Pages}
use Rattle.page_store.specs.{claim.Transactions.{stored, disk_in, txn_pages, txn_free, txn_writes, IsQuiet, Passed}, declared.txn.Txn.Txn}
use Rattle.plan_revisions_sweeps.specs.{Finding.{IsLeftHolding, IsNextLeft}, Leftovers.{IsApart, AreNotSpared, rows_of, IsSweptBy}, declared.leftovers.Left.Left}
use Rattle.plan_revisions_sweeps.specs.{Sweeping.{IsSweptMap, HasSwept, IsTurn, TakeErr, HasDesk}, declared.leftovers.Left.TheVariants.{Row, Holding}}
use Rattle.{sector_device.specs.declared.SectorDevice.Ghosts, page_store.proofs.Stops.{passed_more, failed_more}}

turns_more : (running : Option ℕ) (m : KeyMap) (turns more : List Turn) → AreTurns m turns → AreNotSpared running turns
    → AreTurns (take_turns m turns) more → AreNotSpared running more → AreTurns m (turns ++ more) × AreNotSpared running (turns ++ more)
    × (take_turns (take_turns m turns) more ≡ take_turns m (turns ++ more)) × (rows_of (turns ++ more) ≡ rows_of turns + rows_of more)
turns_more running m [] more left apart next others = (next, others, refl, omega arith)
turns_more running m (turn ∷ turns) more left apart next others =
    let rest = turns_more running (turned m turn) turns more left.1 apart.1 next others in
    ((left.0, rest.0), (apart.0, rest.1), rest.2, (let rows = rest.3 in omega arith))

pub then_by : (running : Option ℕ) (count more : ℕ) (m n k : KeyMap) → IsSweptBy running count m n → IsSweptBy running more n k → IsSweptBy running (count + more) m k
then_by running count more m n k one next =
    let all = turns_more running m one.turns next.turns one.left one.apart
    (subst (λ (x : KeyMap). AreTurns x next.turns) one.rest next.left) next.apart in
    let count_is : rows_of (one.turns ++ next.turns) ≡ count + more = omega (arith, all.3, one.count_is, next.count_is) in
    let rest = next.rest ∙ ap (λ (x : KeyMap). take_turns x next.turns) one.rest ∙ all.2 in
    record { turns = one.turns ++ next.turns; count_is = count_is; left = all.0; apart = all.1; rest = rest }

-- one turn
turn_swept : TurnsAreSwept → (running : Option ℕ) (m : KeyMap) (d : Desk) (turn : Turn) → IsDeskMap m d → CanTurn m turn → IsApart running turn → IsSweptMap running (rows_in turn) m d (turned m turn)
turn_swept law running m d turn is can apart =
    let swept = law m is.tidy is.version d (turn ∷ []) is.desk (can, tt) in
    record {
      is = record { desk = swept.desk; tidy = swept.tidy.0; version = swept.tidy.2 ∙ is.version; limits = is.limits };
      by = record { turns = turn ∷ []; count_is = omega arith; left = (can, tt); apart = (apart, tt); rest = refl };
    }

module _ {D : Type 0} {g : Ghosts D} where
  pub none_swept : (running : Option ℕ) (t : Txn) (a b : Pages D g) → Passed a b → HasSwept running 0 t t a b
  none_swept running t a b passed = record {
    passed = passed;
    pages = refl;
    swept = λ honest m d holds is. (m, holds, record { is = is; by = record { turns = []; count_is = refl; left = tt; apart = tt; rest = refl } });
    writes = omega arith;
    given = λ honest m d holds is. omega arith;
  }

  pub more_swept : (running : Option ℕ) (count more : ℕ) (t u v : Txn) (a b c : Pages D g) → HasSwept running count t u a b → HasSwept running more u v b c → HasSwept running (count + more) t v a c
  more_swept running count more t u v a b c one next = record {
    passed = passed_more a b c one.passed next.passed;
    pages = next.pages ∙ one.pages;
    swept = λ honest m d holds is.
        let middle = next.passed.quiet.honest honest in
        let same = one.passed.quiet.same middle in
        let (n, reads, was) = one.swept middle m d holds is in
        let (k, reads_then, now) = next.swept honest n d (subst (λ P. InTxn u P n) (sym same) reads) was.is in
        (k, subst (λ P. InTxn v P k) same reads_then, record { is = now.is; by = then_by running count more m n k was.by now.by });
    writes = let first = one.writes in let last = next.writes in omega arith;
    given = λ honest m d holds is.
        let middle = next.passed.quiet.honest honest in
        let (n, reads, was) = one.swept middle m d holds is in
        let first = one.given middle m d holds is in
        let last = next.given honest n d (subst (λ P. InTxn u P n) (sym (one.passed.quiet.same middle)) reads) was.is in
        omega arith;
  }

  -- ---- refusals
  pub not_found : (t : Txn) (a b : Pages D g) (e : TreeError) → ReadErr Tidy t a b e → TakeErr HasDesk t a b e
  not_found t a b NotAStore why = λ honest m holds has. why honest m holds has.1.tidy
  not_found t a b NoPages why = absurd why
  not_found t a b TooDeep why = absurd why
  not_found t a b Memory why = tt
  not_found t a b _ why = why

  -- after turns
  pub not_later : (running : Option ℕ) (count : ℕ) (t u : Txn) (a b c : Pages D g) (e : TreeError) → HasSwept running count t u a b → IsQuiet b c → TakeErr HasDesk u b c e → TakeErr HasDesk t a c e
  not_later running count t u a b c DeviceFault one quiet why = failed_more a b c one.passed quiet why
  not_later running count t u a b c Halted one quiet why = sym one.passed.halted ∙ why
  not_later running count t u a b c Memory one quiet why = tt
  not_later running count t u a b c _ one quiet why = λ honest m holds has.
      let middle = quiet.honest honest in
      let (n, reads, was) = one.swept middle m has.0 holds has.1 in
      why honest n (subst (λ P. InTxn u P n) (sym (one.passed.quiet.same middle)) reads) (has.0, was.is)

-- ---- a turn after a look for what is left over next
module _ {D : Type 0} {g : Ghosts D} (running : Option ℕ) (key : List ℕ) (t : Txn) (a b : Pages D g) (next : Option Left) (looks : Looks (λ m found. Tidy m → IsNextLeft running key m found) Tidy t a b (Ok next)) where
  -- nothing is
  pub turn_none : next ≡ None → IsTurn running 0 t t a b
  turn_none is =
      let swept = none_swept running t a b looks.passed in
      let there = looks.there in
      record { few = omega arith; swept = swept; clean = λ honest m holds tidy zero. subst (IsNextLeft running key m) is (there honest m holds tidy) }

  -- a row that nothing needs is taken out
  pub turn_row : TurnsAreSwept → next ≡ Some Row → (u : Txn) (c : Pages D g) → Passed b c → txn_pages u ≡ txn_pages t
      → ((disk_in c).is_honest → (m : KeyMap) → InTxn t (stored b) m → InTxn u (stored b) (remove m key)) → txn_writes u ≤ txn_writes t + 6 → txn_free t ≤ txn_free u → IsTurn running 1 t u a c
  turn_row law is_row u c bc pages removes writes given = record {
    few = omega arith;
    swept = record {
      passed = passed_more a b c looks.passed bc;
      pages = pages;
      swept = λ honest m d holds is.
          let same = looks.passed.quiet.same (bc.quiet.honest honest) in
          let one : IsNextLeft running key m (Some Row) = subst (IsNextLeft running key m) is_row
          (looks.there (bc.quiet.honest honest) m holds is.tidy) in
          let after = subst (λ P. InTxn u P (remove m key)) same (removes honest m (subst (λ P. InTxn t P m) (sym same) holds)) in
          let after_row = subst (λ (k : List ℕ). InTxn u (stored a) (remove m k)) one.key_is after in
          (remove m (key_of one.row), after_row, turn_swept law running m d (goes one.row) is (one.fits, one.left) one.is_apart);
      writes = omega arith;
      given = λ honest m d holds is. given;
    };
    clean = λ honest m holds tidy zero. absurd (omega arith);
  }

  pub not_removed : (c : Pages D g) (e : TreeError) → IsQuiet b c → RemoveErr t b c e → TakeErr HasDesk t a c e
  not_removed c DeviceFault quiet why = failed_more a b c looks.passed quiet why
  not_removed c NotAStore quiet why = λ honest m holds has. why honest m (subst (λ P. InTxn t P m) (sym (looks.passed.quiet.same (quiet.honest honest))) holds)
  not_removed c Halted quiet why = sym looks.passed.halted ∙ why
  not_removed c Memory quiet why = tt
  not_removed c _ quiet why = absurd why

  -- a plan that was taken away lets a chunk go
  module _ (plan number : ℕ) (is_held : next ≡ Some (Holding plan number)) (c : Pages D g) where
    finds_held : (disk_in b).is_honest → (m : KeyMap) → InTxn t (stored a) m → Tidy m → IsLeftHolding m plan number
    finds_held honest m holds tidy = subst (IsNextLeft running key m) is_held (looks.there honest m holds tidy)

    pub turn_hold : TurnsAreSwept → (u : Txn) → HasReleased plan number t u b c → IsTurn running 2 t u a c
    turn_hold law u release = record {
      few = omega arith;
      swept = record {
        passed = passed_more a b c looks.passed release.passed;
        pages = release.pages;
        swept = λ honest m d holds is.
            let middle = release.passed.quiet.honest honest in
            let same = looks.passed.quiet.same middle in
            let one = finds_held middle m holds is.tidy in
            let done = release.released honest m (subst (λ P. InTxn t P m) (sym same) holds) in
            let count = done.before.count in
            let can : CanTurn m (lets_go plan number count) =
            record { plan_fits = one.fits.0; fits = one.fits.1; count_fits = done.before.fits; mark = one.mark; held = one.held; counted_by_holders = done.before.told } in
            let after = subst (λ P. InTxn u P (released m plan number count)) same done.holds in
            (released m plan number count, after, turn_swept law running m d (lets_go plan number count) is can tt);
        writes = let most = release.writes in omega arith;
        given = λ honest m d holds is. release.given honest m (subst (λ P. InTxn t P m) (sym (looks.passed.quiet.same (release.passed.quiet.honest honest))) holds);
      };
      clean = λ honest m holds tidy zero. absurd (omega arith);
    }

    pub not_released : HeldIsTallied → (e : TreeError) → IsQuiet b c → ReleaseErr number t b c e → TakeErr HasDesk t a c e
    not_released law DeviceFault quiet why = failed_more a b c looks.passed quiet why
    not_released law NotAStore quiet why = λ honest m holds has.
        let middle = quiet.honest honest in
        let one = finds_held middle m holds has.1.tidy in
        let (count, fits, told) = law m plan number has.1.tidy.holdings.counted_by_holders one.fits.0 one.fits.1 one.held in
        why honest m (subst (λ P. InTxn t P m) (sym (looks.passed.quiet.same middle)) holds) (record { count = count; fits = fits; told = told })
    not_released law Halted quiet why = sym looks.passed.halted ∙ why
    not_released law Memory quiet why = tt
    not_released law _ quiet why = λ honest m holds has. why honest m (subst (λ P. InTxn t P m) (sym (looks.passed.quiet.same (quiet.honest honest))) holds)

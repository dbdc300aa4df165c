-- Lemmas on the definitions of Rising.
use Rattle.{std.specs.{FinMap.insert, Prelude.{length, ◌≡◌, ◌<◌, ◌≤◌, ◌+◌, ℕ, List, [], ◌∷◌, ◌++◌}}, desk_store_pages.specs.Rising.{HasPutWith, PutsErrWith}}
use Rattle.{std.proofs.Common.{rules, suc, refl, sym, ap, subst, ◌∙◌, arith, append_assoc, length-append}, desk_store_pages.specs.claim.Puts.{HasPut, PutsErr}}
use Rattle.{desk_store_rows.specs.{Puts.rows_told, claim.{Puts.{Row, put_rows}, Rows.KeyMap}}, page_btree.specs.gets.claim.{Errors.{reach_in, top_reach, level_in}, Map.InTxn}}
use Rattle.page_btree.specs.{gets.declared.error.TreeError.{TreeError, TheVariants.{DeviceFault, NotAStore, Halted, NoPages, TooDeep, Memory}}, puts.declared.finger.Finger.Finger}
use Rattle.{page_btree.specs.puts.{Fingers.{Stand, StandsIn, PutByErr}, declared.finger.Fingers.Fingers}, page_store.specs.declared.{pages.Pages.Pages, txn.Txn.Txn}}
use Rattle.{page_store.specs.claim.Transactions.{stored, disk_in, txn_pages, txn_root, txn_free, txn_writes, over, IsQuiet, Passed}, sector_device.specs.claim.Disk.Image}
use Rattle.{sector_device.specs.declared.SectorDevice.Ghosts, desk_store_rows.proofs.Puts.{put_rows-append, told_prefix}}
use Rattle.page_store.proofs.Stops.{passed_none, passed_more, failed_more}

-- where no leaf is known, a finger stands, and so do both
pub none_stands : (t : Txn) (S : Image) (f : Finger) → f.page ≡ 0 → StandsIn t S f
none_stands t S f none = λ some. absurd (some none)

pub fresh_stand : (t : Txn) (S : Image) (fs : Fingers) → fs.first.page ≡ 0 → fs.second.page ≡ 0 → Stand t S fs
fresh_stand t S fs first second = (none_stands t S fs.first first, none_stands t S fs.second second)

module _ {D : Type 0} {g : Ghosts D} where
  -- calls that read at most put no row
  none_put_with : (fs : Fingers) (t : Txn) (a b : Pages D g) → Passed a b → HasPutWith fs fs [] t t a b
  none_put_with fs t a b read = record {
    passed = read;
    pages = refl;
    put = λ honest m holds stand. (holds, stand);
    writes = omega arith;
    taken = omega arith;
    nearer = λ honest m holds stand. omega arith;
  }

  -- what holds after some rows
  held_with : (f h : Fingers) (rows : List Row) (t u : Txn) (a b : Pages D g) → HasPutWith f h rows t u a b → (disk_in b).is_honest → (m : KeyMap)
      → InTxn t (stored a) m → Stand t (stored a) f → InTxn u (stored b) (put_rows m rows) × Stand u (stored b) h
  held_with f h rows t u a b put honest m holds stand = subst (λ P. InTxn u P (put_rows m rows) × Stand u P h) (sym (put.passed.quiet.same honest)) (put.put honest m holds stand)

  pub more_put_with : (f h k : Fingers) (rows more : List Row) (t u v : Txn) (a b c : Pages D g) → HasPutWith f h rows t u a b → HasPutWith h k more u v b c → HasPutWith f k (rows ++ more) t v a c
  more_put_with f h k rows more t u v a b c first then =
      let count = length-append rows more in
      record {
        passed = passed_more a b c first.passed then.passed;
        pages = then.pages ∙ first.pages;
        put = λ honest m holds stand.
            let before = then.passed.quiet.honest honest in
            let half = held_with f h rows t u a b first before m holds stand in
            let whole = then.put honest (put_rows m rows) half.0 half.1 in
            subst (λ P. InTxn v P (put_rows m (rows ++ more)) × Stand v P k) (first.passed.quiet.same before)
            (subst (λ n. InTxn v (stored b) n) (sym (put_rows-append m rows more)) whole.0, whole.1);
        writes = let one = first.writes in let other = then.writes in omega arith;
        taken = let one = first.taken in let other = then.taken in omega arith;
        nearer = λ honest m holds stand.
            let before = then.passed.quiet.honest honest in
            let half = held_with f h rows t u a b first before m holds stand in
            let one = first.nearer before m holds stand in
            let other = subst (λ (P : Image). reach_in (over v P) (txn_root v) ≤ reach_in (over u P) (txn_root u) + length more) (first.passed.quiet.same before) (then.nearer honest (put_rows m rows) half.0 half.1) in
            omega (arith, count, one, other);
      }

  -- after calls that read at most
  pub put_with_after : (f h : Fingers) (rows : List Row) (t u : Txn) (a b c : Pages D g) → Passed a b → HasPutWith f h rows t u b c → HasPutWith f h rows t u a c
  put_with_after f h rows t u a b c read then = more_put_with f f h [] rows t t u a b c (none_put_with f t a b read) then

  -- one row was put
  pub one_put_with : (f h : Fingers) (key value : List ℕ) (t u : Txn) (a b : Pages D g) → Passed a b → txn_pages u ≡ txn_pages t → ((disk_in b).is_honest → (m : KeyMap) → InTxn t (stored a) m → Stand t (stored a) f → InTxn u (stored a) (insert m key value) × Stand u (stored a) h)
      → txn_writes u ≤ txn_writes t + 11 → txn_free t ≤ txn_free u + 6
      → ((disk_in b).is_honest → (m : KeyMap) → InTxn t (stored a) m → Stand t (stored a) f → reach_in (over u (stored a)) (txn_root u) ≤ reach_in (over t (stored a)) (txn_root t) + 1) → HasPutWith f h ((key, value) ∷ []) t u a b
  one_put_with f h key value t u a b passed pages put writes taken nearer = search rules

  -- or it was not, by one that stands where both do
  pub one_not_put_with : (f : Fingers) (was : Finger) (row : Row) (t : Txn) (a b : Pages D g) → ((S : Image) → Stand t S f → StandsIn t S was) → (e : TreeError)
      → ((disk_in b).is_honest → (m : KeyMap) → InTxn t (stored a) m → e ≡ TooDeep → top_reach ≤ reach_in (over t (stored a)) (txn_root t)) → PutByErr was t a b e → PutsErrWith f (row ∷ []) t a b e
  one_not_put_with f was row t a b stands NotAStore tall why = λ honest m holds stand. why honest m holds (stands (stored a) stand)
  one_not_put_with f was row t a b stands NoPages tall why = omega arith
  one_not_put_with f was row t a b stands TooDeep tall why = λ honest m holds stand.
      let near = tall honest m holds refl in
      (record { prefix = []; rest = row ∷ []; are = refl; txn = t; holds = holds; deep = why honest }, omega (arith, near))
  one_not_put_with f was row t a b stands Memory tall why = tt
  one_not_put_with f was row t a b stands _ tall why = why

  -- some were put, and then others were not
  pub then_not_put_with : (f h : Fingers) (rows more : List Row) (t u : Txn) (a b c : Pages D g) (e : TreeError) → HasPutWith f h rows t u a b → IsQuiet b c → PutsErrWith h more u b c e → PutsErrWith f (rows ++ more) t a c e
  then_not_put_with f h rows more t u a b c DeviceFault put quiet why = failed_more a b c put.passed quiet why
  then_not_put_with f h rows more t u a b c NotAStore put quiet why = λ honest m holds stand.
      let half = held_with f h rows t u a b put (quiet.honest honest) m holds stand in
      why honest (put_rows m rows) half.0 half.1
  then_not_put_with f h rows more t u a b c Halted put quiet why = sym put.passed.halted ∙ why
  then_not_put_with f h rows more t u a b c NoPages put quiet why = search (rules, length-append)
  then_not_put_with f h rows more t u a b c TooDeep put quiet why = λ honest m holds stand.
      let before = quiet.honest honest in
      let same = put.passed.quiet.same before in
      let half = held_with f h rows t u a b put before m holds stand in
      let both = why honest (put_rows m rows) half.0 half.1 in
      let deep = both.0 in
      let first = put.nearer before m holds stand in
      let then = subst (λ (P : Image). top_reach ≤ reach_in (over u P) (txn_root u) + length more) same both.1 in
      let count = length-append rows more in (
        record {
          prefix = rows ++ deep.prefix;
          rest = deep.rest;
          are = append_assoc rows deep.prefix deep.rest ∙ ap (λ l. rows ++ l) deep.are;
          txn = deep.txn;
          holds = subst (λ P. InTxn deep.txn P (put_rows m (rows ++ deep.prefix))) same
              (subst (λ n. InTxn deep.txn (stored b) n) (sym (put_rows-append m rows deep.prefix)) deep.holds);
          deep = subst (λ P. level_in (over deep.txn P) (txn_root deep.txn) ≡ 5) same deep.deep;
        },
        omega (arith, first, then, count),
      )
  then_not_put_with f h rows more t u a b c Memory put quiet why = tt

  -- nothing is put after calls that read at most
  pub not_put_with_after : (f : Fingers) (rows : List Row) (t : Txn) (a b c : Pages D g) (e : TreeError) → Passed a b → IsQuiet b c → PutsErrWith f rows t b c e → PutsErrWith f rows t a c e
  not_put_with_after f rows t a b c e read quiet why = then_not_put_with f f [] rows t t a b c e (none_put_with f t a b read) quiet why

  -- rows are not all put where the first of them are not
  pub prefix_not_put_with : (f : Fingers) (rows more : List Row) (t : Txn) (a b : Pages D g) (e : TreeError) → PutsErrWith f rows t a b e → PutsErrWith f (rows ++ more) t a b e
  prefix_not_put_with f rows more t a b NoPages why = let count = length-append rows more in omega arith
  prefix_not_put_with f rows more t a b TooDeep why = λ honest m holds stand.
      let both = why honest m holds stand in
      let deep = both.0 in
      let near = both.1 in
      let count = length-append rows more in (
        record {
          prefix = deep.prefix;
          rest = deep.rest ++ more;
          are = sym (append_assoc deep.prefix deep.rest more) ∙ ap (λ l. l ++ more) deep.are;
          txn = deep.txn;
          holds = deep.holds;
          deep = deep.deep;
        },
        omega (arith, near, count),
      )
  prefix_not_put_with f rows more t a b Memory why = tt
  prefix_not_put_with f rows more t a b _ why = why

  -- ---- where no leaf was known at first
  pub fresh_put : (f h : Fingers) (rows : List Row) (t u : Txn) (a b : Pages D g) → f.first.page ≡ 0 → f.second.page ≡ 0 → HasPutWith f h rows t u a b → HasPut rows t u a b
  fresh_put f h rows t u a b first second did = record {
    passed = did.passed;
    pages = did.pages;
    put = λ honest m holds. (did.put honest m holds (fresh_stand t (stored a) f first second)).0;
    writes = did.writes;
    taken = did.taken;
    nearer = λ honest m holds. did.nearer honest m holds (fresh_stand t (stored a) f first second);
  }

  pub fresh_not_put : (f : Fingers) (rows : List Row) (t : Txn) (a b : Pages D g) (e : TreeError) → f.first.page ≡ 0 → f.second.page ≡ 0 → PutsErrWith f rows t a b e → PutsErr rows t a b e
  fresh_not_put f rows t a b NotAStore first second why = λ honest m holds. why honest m holds (fresh_stand t (stored a) f first second)
  fresh_not_put f rows t a b TooDeep first second why = λ honest m holds. why honest m holds (fresh_stand t (stored a) f first second)
  fresh_not_put f rows t a b _ first second why = why

  -- so many of the rows that a place tells were put, from no known leaf on
  pub record HasPutFrom (fs : Fingers) (rows : List Row) (t u : Txn) (old new : Pages D g) : Type 0 where
    pub were : Fingers
    pub first : were.first.page ≡ 0
    pub second : were.second.page ≡ 0
    pub put : HasPutWith were fs rows t u old new

  pub from_none : (fs : Fingers) (t : Txn) (a : Pages D g) → fs.first.page ≡ 0 → fs.second.page ≡ 0 → HasPutFrom fs [] t t a a
  from_none fs t a first second = record { were = fs; first = first; second = second; put = none_put_with fs t a a (passed_none a) }

  pub told_more_from : (row : ℕ → Row) (k : ℕ) (f h : Fingers) (t u v : Txn) (a b c : Pages D g) → HasPutFrom f (rows_told row k) t u a b → HasPutWith f h (row k ∷ []) u v b c → HasPutFrom h (rows_told row (k + 1)) t v a c
  told_more_from row k f h t u v a b c did more =
      let next : suc k ≡ k + 1 = omega arith in
      search (rules, more_put_with did.were f h (rows_told row k) (row k ∷ []) t u v a b c did.put more)

  pub told_not_put_from : (row : ℕ → Row) (k n : ℕ) (f : Fingers) (t u : Txn) (a b c : Pages D g) (e : TreeError) → k < n → HasPutFrom f (rows_told row k) t u a b → IsQuiet b c → PutsErrWith f (row k ∷ []) u b c e → PutsErr (rows_told row n) t a c e
  told_not_put_from row k n f t u a b c e less did quiet why =
      let rest = told_prefix row (suc k) n (omega arith) in
      fresh_not_put did.were (rows_told row n) t a c e did.first did.second
      (subst (λ rows. PutsErrWith did.were rows t a c e) rest.1 (prefix_not_put_with did.were (rows_told row (suc k)) rest.0 t a c e (then_not_put_with did.were f (rows_told row k) (row k ∷ []) t u a b c e did.put quiet why)))

  pub all_from : (fs : Fingers) (rows : List Row) (t u : Txn) (a b : Pages D g) → HasPutFrom fs rows t u a b → HasPut rows t u a b
  all_from fs rows t u a b did = fresh_put did.were fs rows t u a b did.first did.second did.put

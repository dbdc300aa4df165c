-- The people of numbers, in a run and among the others.
use Rattle.std.{specs.{BTreeMap.{BTreeMap, get, Updates}, Cmp.unsigned_ties, Ordering.nat_cmp, declared.alloc.Global.Global}, proofs.lemmas.Bool.Decides.nat_tests}
use Rattle.std.proofs.Common.{◌≡◌, ℕ, ◌-◌, ◌≤◌, Vec, Bool, true, false, cond, eqb, ltb, [], get_or, Option, Some, None, refl, sym, ap, ◌∙◌, arith, rules}
use Rattle.pl94_segment.specs.{SegFile.{Grows, Holds}, claim.SegFile.{in_run, or_else, people_of}, declared.record.SegRecord.SegRecord, declared.segment.SegRows.SegRows}

-- a look into both
pub people_by : (rows : SegRows) (n : ℕ) (o : Option ℕ) → o ≡ in_run rows n → or_else o (get nat_cmp rows.others n) ≡ people_of rows n
unfolding people_of
people_by rows n o is = ap (λ (o : Option ℕ). or_else o (get nat_cmp rows.others n)) is

either_none : (b : Bool) (o : Option ℕ) → o ≡ None → cond b None o ≡ None
either_none b o none = grind arith

-- no record yet
pub holds_none : (rows : SegRows) → rows.run.items ≡ [] → rows.others.entries ≡ [] → Holds rows []
unfolding people_of
holds_none rows run others = record {
  people = λ n. ap (λ (o : Option ℕ). or_else o (get nat_cmp rows.others n)) (either_none (ltb n rows.first) (get_or rows.run.items (n - rows.first) None) (rw run refl))
      ∙ rw others refl;
}

-- a run without a number holds none, wherever it begins
pub same_begun : (old new : SegRows) → old.run.items ≡ [] → new.run.items ≡ [] → new.others ≡ old.others → (n : ℕ) → people_of new n ≡ people_of old n
unfolding people_of
same_begun old new run run_new others n = search (rules, either_none)

-- ---- one number more

in_place : (first number n : ℕ) → first ≤ number → ltb n first ≡ false → eqb (number - first) (n - first) ≡ eqb number n
in_place first number n from inside = by_case (eqb number n) refl
  where
    by_case : (b : Bool) → eqb number n ≡ b → eqb (number - first) (n - first) ≡ b
    by_case true is = let same : number ≡ n = grind (arith, nat_tests) in grind (arith, nat_tests)
    by_case false is = grind (arith, nat_tests)

or_else-cond : (b : Bool) (p : ℕ) (o other : Option ℕ) → or_else (cond b (Some p) o) other ≡ cond b (Some p) (or_else o other)
or_else-cond b p o other = grind arith

-- in the run
pub grows_in_run : (old mid new : SegRows) (r : SegRecord) → ((n : ℕ) → people_of mid n ≡ people_of old n) → mid.first ≤ r.number → new.first ≡ mid.first → new.others ≡ mid.others
    → ((k : ℕ) → get_or new.run.items k None ≡ cond (eqb (r.number - mid.first) k) (Some r.people) (get_or mid.run.items k None)) → Grows old r new
unfolding people_of
grows_in_run old mid new r same from first others run = λ none n. by_place n (ltb n mid.first) refl ∙ ap (cond (eqb r.number n) (Some r.people)) (same n)
  where
    placed : (n : ℕ) → in_run new n ≡ cond (ltb n mid.first) None (get_or new.run.items (n - mid.first) None)
    placed n = ap (λ (m : ℕ). cond (ltb n m) None (get_or new.run.items (n - m) None)) first

    outside : (n : ℕ) → get nat_cmp new.others n ≡ get nat_cmp mid.others n
    outside n = ap (λ (m : BTreeMap ℕ ℕ). get nat_cmp m n) others

    by_place : (n : ℕ) (b : Bool) → ltb n mid.first ≡ b → or_else (in_run new n) (get nat_cmp new.others n) ≡ cond (eqb r.number n) (Some r.people) (or_else (in_run mid n) (get nat_cmp mid.others n))
    by_place n true is = search (rules, nat_tests)
    by_place n false is = search (rules, in_place, or_else-cond)

first_none : (o other : Option ℕ) → or_else o other ≡ None → o ≡ None
first_none o other none = grind arith

-- among the others
pub grows_outside : (old mid new : SegRows) (r : SegRecord) → ((n : ℕ) → people_of mid n ≡ people_of old n) → new.first ≡ mid.first → new.run ≡ mid.run
    → Updates nat_cmp mid.others new.others r.number (Some r.people) → Grows old r new
unfolding people_of
grows_outside old mid new r same first run updates = λ none n. by_number none n (eqb r.number n) refl ∙ ap (cond (eqb r.number n) (Some r.people)) (same n)
  where
    placed : (n : ℕ) → in_run new n ≡ in_run mid n
    placed n = ap (λ (m : ℕ). cond (ltb n m) None (get_or new.run.items (n - m) None)) first ∙ ap (λ (v : Vec (Option ℕ) Global). cond (ltb n mid.first) None (get_or v.items (n - mid.first) None)) run

    outside : (n : ℕ) → get nat_cmp new.others n ≡ cond (eqb r.number n) (Some r.people) (get nat_cmp mid.others n)
    outside n = updates.0 n ∙ ap (λ (b : Bool). cond b (Some r.people) (get nat_cmp mid.others n)) (sym (unsigned_ties r.number n))

    by_number : people_of old r.number ≡ None → (n : ℕ) (b : Bool) → eqb r.number n ≡ b
        → or_else (in_run new n) (get nat_cmp new.others n) ≡ cond b (Some r.people) (or_else (in_run mid n) (get nat_cmp mid.others n))
    by_number none n true is = search (rules, nat_tests, first_none)
    by_number none n false is = rw (placed n, outside n, is) refl

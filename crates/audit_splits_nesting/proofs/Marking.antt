-- The marks, block by block.
use Rattle.std.proofs.{Common.{◌≡◌, ◌≢◌, ℕ, ◌+◌, ◌<◌, ◌≤◌, ⊎_elim, List, get_or, set, replicate, sym, ap, ◌∙◌, refl, arith, eq-eqb, ne_eqb, rules}, lemmas.Bool.cases_eq}
use Rattle.std.proofs.lemmas.List.{length-set, get_or-set_same, get_or-set_other, get_or-replicate, length-replicate}
use Rattle.audit_splits_nesting.specs.{Marks.{mark_at, AreUnseen, marked, IsWhole, IsSplit, IsMark, AreMarks}, declared.mark.GroupMark.GroupMark}
use Rattle.audit_splits_nesting.specs.declared.mark.GroupMark.TheVariants.{Unseen, Seen, Divided}

pub unseen_are : (wide : ℕ) (marks : List GroupMark) → marks ≡ replicate wide Unseen → AreUnseen wide marks
unseen_are wide marks same = search (rules, length-replicate, get_or-replicate)

-- one block more
before : (i count : ℕ) → i < count + 1 → i ≢ count → i < count
before i count less other = omega (arith, other)

-- the first block, or the first block of a part
begun : (Holds : ℕ → Type 0) (part value : ℕ → ℕ) (count : ℕ) → Holds count → ((i : ℕ) → i < count → Holds i → part i < part count)
    → ((i j : ℕ) → i < count → j < count → Holds i → Holds j → part i ≡ part j → value i ≡ value j) → IsWhole Holds part value (count + 1) (part count) (value count)
begun Holds part value count here lower whole = search (rules, before, cases_eq)

-- a block of the last part with its value
went_on : (Holds : ℕ → Type 0) (part value : ℕ → ℕ) (count p v : ℕ) → Holds count → part count ≡ p → value count ≡ v → IsWhole Holds part value count p v
    → IsWhole Holds part value (count + 1) p v
went_on Holds part value count p v here part_is value_is was = record {
  place = was.place;
  early = omega (arith, was.early);
  holds = was.holds;
  part_is = was.part_is;
  value_is = was.value_is;
  latest = λ i less is. ⊎_elim (λ (e : i ≡ count). omega (arith, ap part e)) (λ (ne : i ≢ count). was.latest i (before i count less ne) is) (cases_eq i count);
  whole = λ i j i_less j_less i_is j_is same. ⊎_elim
      (λ (e : i ≡ count). ⊎_elim (λ (f : j ≡ count). ap value (e ∙ sym f))
      (λ (nf : j ≢ count). ap value e ∙ value_is ∙ sym (last_has j (before j count j_less nf) j_is (sym same ∙ ap part e ∙ part_is))) (cases_eq j count))
      (λ (ne : i ≢ count). ⊎_elim (λ (f : j ≡ count). last_has i (before i count i_less ne) i_is (same ∙ ap part f ∙ part_is) ∙ sym value_is ∙ ap value (sym f))
      (λ (nf : j ≢ count). was.whole i j (before i count i_less ne) (before j count j_less nf) i_is j_is same) (cases_eq j count))
      (cases_eq i count);
}
  where
    last_has : (j : ℕ) → j < count → Holds j → part j ≡ p → value j ≡ v
    last_has j less is in_last = was.whole j was.place less was.early is was.holds (in_last ∙ sym was.part_is) ∙ was.value_is

-- a block of the last part with another value
fell_apart : (Holds : ℕ → Type 0) (part value : ℕ → ℕ) (count p v : ℕ) → Holds count → part count ≡ p → value count ≢ v → IsWhole Holds part value count p v
    → IsSplit Holds part value
fell_apart Holds part value count p v here part_is other was = search rules

marked_same : (p v part value : ℕ) → p ≡ part → v ≡ value → marked (Seen p v) part value ≡ Seen p v
marked_same p v part value e f = rw (eq-eqb p part e, eq-eqb v value f) refl

marked_apart : (p v part value : ℕ) → p ≡ part → v ≢ value → marked (Seen p v) part value ≡ Divided
marked_apart p v part value e ne = rw (eq-eqb p part e, ne_eqb v value ne) refl

marked_anew : (p v part value : ℕ) → p ≢ part → marked (Seen p v) part value ≡ Seen part value
marked_anew p v part value ne = rw (ne_eqb p part ne) refl

pub mark_more : (Holds : ℕ → Type 0) (part value : ℕ → ℕ) (count : ℕ) (mark : GroupMark) → Holds count → ((i : ℕ) → i < count → Holds i → part i ≤ part count)
    → IsMark Holds part value count mark → IsMark Holds part value (count + 1) (marked mark (part count) (value count))
mark_more Holds part value count Unseen here rising was = search (rules, begun)
mark_more Holds part value count (Seen p v) here rising was = search (rules, marked_same, went_on, marked_apart, fell_apart, cases_eq, marked_anew, begun)
mark_more Holds part value count Divided here rising was = was

mark_pass : (Holds : ℕ → Type 0) (part value : ℕ → ℕ) (count : ℕ) (mark : GroupMark) → ¬ Holds count → IsMark Holds part value count mark → IsMark Holds part value (count + 1) mark
mark_pass Holds part value count mark not_here was = by_case mark was
  where
    earlier : (i : ℕ) → i < count + 1 → Holds i → i < count
    earlier i less is = before i count less (λ e. not_here (rw e at is))

    by_case : (m : GroupMark) → IsMark Holds part value count m → IsMark Holds part value (count + 1) m
    by_case Unseen had = λ i less is. had i (earlier i less is) is
    by_case (Seen p v) had = search rules
    by_case Divided had = had

-- the block lies in no group
pub marks_pass : (Holds : ℕ → ℕ → Type 0) (part value : ℕ → ℕ) (count wide : ℕ) (marks : List GroupMark) → ((k : ℕ) → k < wide → ¬ Holds k count)
    → AreMarks Holds part value count wide marks → AreMarks Holds part value (count + 1) wide marks
marks_pass Holds part value count wide marks none was = search (rules, mark_pass)

-- the block lies in one group
pub marks_take : (Holds : ℕ → ℕ → Type 0) (part value : ℕ → ℕ) (count wide place : ℕ) (marks : List GroupMark) → place < wide → Holds place count → ((k : ℕ) → Holds k count → k ≡ place)
    → ((i : ℕ) → i < count → Holds place i → part i ≤ part count) → AreMarks Holds part value count wide marks
    → AreMarks Holds part value (count + 1) wide (set marks place (marked (mark_at marks place) (part count) (value count)))
marks_take Holds part value count wide place marks inside here one rising was = record {
  long = length-set marks place new ∙ was.long;
  each = λ k less. ⊎_elim
      (λ (e : k ≡ place). let there : get_or (set marks place new) place Unseen ≡ new = get_or-set_same marks place new Unseen (rw was.long inside) in
      rw (e, there) (mark_more (Holds place) part value count (mark_at marks place) here rising (was.each place inside)))
      (λ (ne : k ≢ place). let there = get_or-set_other marks place k new Unseen ne in
      rw there (mark_pass (Holds k) part value count (mark_at marks k) (λ is. ne (one k is)) (was.each k less)))
      (cases_eq k place);
}
  where
    new : GroupMark
    new = marked (mark_at marks place) (part count) (value count)

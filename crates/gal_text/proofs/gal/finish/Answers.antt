use Rattle.std.{specs.{List.Sorted.IsStrictlyIncreasing, declared.alloc.Global.Global}, proofs.lemmas.{Bool.cases_lt, Grind.get_or_default_zero, List.{length-map, get_or-map}}}
use Rattle.std.proofs.Common.{◌≡◌, true, sym, ◌∙◌, arith, rules, ℕ, ◌<◌, ◌≤◌, Bool, false, List, length, get_or, Vec, Result, Ok, Err, All, Contains, ap, subst, ⊎_elim}
use Rattle.{std.proofs.lemmas.Map.Keys.{sorted_from_strictly_increasing, below_from_sorted}, desk_model.specs.{claim.Geography.{ids_of, id_at}, declared.block.BlockRow.BlockRow}}
use Rattle.gal_text.specs.{Holding.Holds, Links.IsFirstFalse, Parts.{PairsUp, Finishes}, claim.Links.{AreComplete, IsLeastMissing, AreMutual, ArePairsOf}, declared.units.Link.Link}
use Rattle.gal_text.specs.{claim.Units.{Progress, has_number, is_done}, declared.{fault.GalFault.GalFault, units.Graph.Graph}}
use Rattle.gal_text.proofs.RelationLemmas.{contains_from_has, not_contains}
use Rattle.gal_text.specs.declared.fault.GalFault.TheVariants as fault
use Rattle.gal_text.proofs.gal.finish.Goals as goal

-- What the marks and the links say once all words are read.
rises : (blocks : List BlockRow) → IsStrictlyIncreasing (ids_of blocks) → (i j : ℕ) → i ≤ j → j < length (ids_of blocks) → id_at blocks i ≤ id_at blocks j
rises blocks rising i j most within = search (rules, below_from_sorted, sorted_from_strictly_increasing, cases_lt)

id_there : (blocks : List BlockRow) (k : ℕ) (row : BlockRow) → k < length blocks → (get_or blocks k row).id ≡ id_at blocks k
id_there blocks k row within = sym (get_or-map (λ (b : BlockRow). b.id) blocks k row 0 within)

module _ (blocks : List BlockRow) (g : Graph) (p : Progress) (holds : Holds blocks g p) where
  marked : length g.seen.items ≡ length (ids_of blocks)
  marked = omega (arith, g.seen.ok.0, holds.marked, length-map {A = BlockRow} {B = ℕ})

  mark_is : (k : ℕ) → k < length (ids_of blocks) → get_or g.seen.items k false ≡ has_number p.units (id_at blocks k)
  mark_is k inside = holds.marks k (rw length-map at inside)

  all_there : All (λ mark. mark ≡ true) g.seen.items → AreComplete (ids_of blocks) p.units
  all_there each = search (rules, get_or_default_zero, contains_from_has, mark_is, marked)

  least_missing : (place : ℕ) (marks : List Bool) (id : ℕ) → IsStrictlyIncreasing (ids_of blocks) → marks ≡ g.seen.items → IsFirstFalse marks place → id ≡ id_at blocks place
      → IsLeastMissing (ids_of blocks) p.units id
  least_missing place marks id rising same first is = record {
    known = (place, inside, get_or_default_zero (ids_of blocks) place id inside ∙ sym is);
    missing = subst (λ (x : ℕ). ¬ Contains p.units x) (sym is) (not_contains p.units (id_at blocks place) (sym (mark_is place inside) ∙ sym (ap (λ (ms : List Bool). get_or ms place false) same) ∙ first.missing false));
    least = λ k d within lacks. ⊎_elim
        (λ (less : k < place). absurd (lacks (subst (Contains p.units) (sym (get_or_default_zero (ids_of blocks) k d within)) (contains_from_has p.units (id_at blocks k) (sym (mark_is k within) ∙ sym (ap (λ (ms : List Bool). get_or ms k false) same) ∙ first.before k false (omega arith) less)))))
        (λ (more : place ≤ k). rw (get_or_default_zero (ids_of blocks) k d within, is) (rises blocks rising place k more within))
        (cases_lt k place);
  }
    where
      inside : place < length (ids_of blocks)
      inside = omega (arith, first.inside, marked, ap (λ (ms : List Bool). length ms) same)

  finished : (marks : List Bool) (links : List Link) (result : Result (Vec (ℕ × ℕ) Global) GalFault) → is_done p ≡ true → marks ≡ g.seen.items → links ≡ p.links → All (λ mark. mark ≡ true) marks → PairsUp links result
      → Finishes (ids_of blocks) p result
  finished marks links (Ok pairs) done same linked each up =
      let complete = all_there (subst (All (λ mark. mark ≡ true)) same each) in
      let pairs_are = subst (λ (ls : List Link). ArePairsOf ls pairs.items) linked up.1 in
      record { done = done; complete = complete; back = subst AreMutual linked up.0; pairs_are = pairs_are }
  finished marks links (Err (fault.OneWay a b)) done same linked each up = search (rules, all_there)
  finished marks links (Err fault.Memory) done same linked each up = tt
  finished marks links _ done same linked each up = absurd up

pub returns-in-Some : goal.returns-in-Some
returns-in-Some c = λ p holds.
    let done : c.is_done.result ≡ true = search rules in
    record {
      done = sym (c.is_done.ensures c.args.blocks.now p holds) ∙ done;
      missing = least_missing c.args.blocks.now c.args.graph p holds c.in-Some.place c.as_slice.result.now _ c.requires.valid.rising c.as_slice.ensures.value c.in-Some.ensures
          (id_there c.args.blocks.now c.in-Some.place c.index-blocks-place.result (omega (arith, c.in-Some.ensures.inside, c.as_slice.ensures.len, holds.marked)));
    }

pub returns-in-None : goal.returns-in-None
returns-in-None c = λ p holds.
    let done : c.is_done.result ≡ true = search rules in
    finished c.args.blocks.now c.args.graph p holds c.as_slice.result.now c.args.graph.links.items c.paired.result (sym (c.is_done.ensures c.args.blocks.now p holds) ∙ done) c.as_slice.ensures.value holds.links c.in-None.ensures c.paired.ensures

-- A revision of a geography's blocks, county by county.
use Rattle.{std.{specs.Prelude.{Option, IfSome}, proofs.lemmas.List.{take_more, drop-drop}}, desk_model.specs.{Ranges.{ranges_of, laid}, claim.{Desk.Plan, Ranges.parts}}}
use Rattle.std.proofs.Common.{rules, ◌≡◌, ◌<◌, ◌+◌, ◌-◌, ℕ, zero, suc, List, [], ◌∷◌, ◌++◌, length, get_or, take, drop, Some, refl, sym, ap, subst, ◌∙◌, arith, length-append}
use Rattle.{desk_model.specs.{claim.{Geography.GeographyModel, Subject.revision_at}, declared.ranges.CountyRange.CountyRange}, desk_store_pages.specs.claim.Desks.AreWithin}
use Rattle.desk_store_opening.specs.Reading.{AreChunksRead, AreKnown, AreNamed, BecomesKnown, BecomesLast, IsAfter, IsLast, IsNext, IsOfBlocks, IsPlanRow, IsRevisionRead, IsTold, NamesLast}
use Rattle.{desk_store_rows.specs.{Changes.with_revision, claim.Rows.KeyMap, declared.value.StoredPlan.StoredPlan}, desk_store_catalogue.proofs.{Counted.laid_long, Drafted.end_of}}
use Rattle.plan_revisions.specs.RevisionReading.{AppendsParts, AreNames, HasParts}

parts_long : (ns xs : List ℕ) → length (parts ns xs) ≡ length ns
parts_long [] xs = refl
parts_long (n ∷ ns) xs = ap suc (parts_long ns (drop n xs))

-- a part of a list is what stands at its place
part_at : (ns : List ℕ) (first : ℕ) (xs : List ℕ) (k : ℕ) (c : CountyRange) → k < length ns → get_or (parts ns (drop first xs)) k [] ≡ take (get_or (laid first ns) k c).count (drop (get_or (laid first ns) k c).first xs)
part_at [] first xs k c less = absurd (omega arith)
part_at (n ∷ ns) first xs zero c less = refl
part_at (n ∷ ns) first xs (suc k) c less = ap (λ (l : List ℕ). get_or (parts ns l) k []) (drop-drop n first xs) ∙ part_at ns (first + n) xs k c (omega arith)

-- ---- the numbers of a revision's chunks
-- as many as there are counties
pub names_of : (g : GeographyModel) (ranges : List CountyRange) (plan revision : ℕ) (m : KeyMap) (districts : List ℕ) → ranges ≡ ranges_of g
    → (is : IsOfBlocks g plan revision m districts) → AreNames plan revision (length ranges) m is.has.numbers
names_of g ranges plan revision m districts same is = search (rules, laid_long, parts_long)

-- name its districts
now_known : (g : GeographyModel) (plan revision : ℕ) (m : KeyMap) (names districts : List ℕ) (is : IsOfBlocks g plan revision m districts)
    → names ≡ is.has.numbers → AreKnown names districts (ranges_of g) m
now_known g plan revision m names districts is same county c there within = search (rules, laid_long, part_at)

-- what was read of them
abbrev AreNamesRead : ℕ → ℕ → ℕ → List ℕ → List ℕ → KeyMap → Type 0
AreNamesRead plan revision count nothing names m = ((numbers : List ℕ) → AreNames plan revision count m numbers → names ≡ nothing ++ numbers) × AppendsParts plan revision count m nothing names

module _ (g : GeographyModel) (ranges : List CountyRange) (plan revision : ℕ) (last before nothing names : List ℕ) (m : KeyMap)
    (same : ranges ≡ ranges_of g) (none : nothing ≡ []) (named : AreNamesRead plan revision (length ranges) nothing names m) where
  are_names : (all : List ℕ) (is : IsOfBlocks g plan revision m all) → names ≡ is.has.numbers
  are_names all is = named.0 is.has.numbers (names_of g ranges plan revision m all same is) ∙ ap (λ (l : List ℕ). l ++ is.has.numbers) none

  pub so_many : (all : List ℕ) → IsOfBlocks g plan revision m all → length names ≡ length ranges
  so_many all is = ap (λ (l : List ℕ). length l) (are_names all is) ∙ (names_of g ranges plan revision m all same is).long

  -- with them the next revision is named
  module _ (n : ℕ) (whole : length before ≡ length g.blocks) (shown shown_last : List ℕ) (one : shown ≡ names) (other : shown_last ≡ last) where
    pub are_named : (all : List ℕ) → IsNext g n plan revision last before m all → AreNamed n ranges shown shown_last before m all
    are_named all said =
        let named = subst (λ (l : List CountyRange). AreKnown shown all l m) (sym same) (now_known g plan revision m shown all said.is (one ∙ are_names all said.is)) in
        record { long = said.is.whole ∙ sym whole; within = said.within; named = named; known = search rules }

    -- and what is read by them is it
    module _ (next : List ℕ) (is : IsTold (λ m all. AreChunksRead shown_last before ranges m → AreChunksRead shown all ranges m) (AreNamed n ranges shown shown_last before) (λ (all : List ℕ). all) m next) where
      next_is : (all : List ℕ) → IsNext g n plan revision last before m all → next ≡ all
      next_is all said = is.read all (are_named all said)

      known : BecomesKnown g n plan revision last before names m next
      known all said = search (rules, are_named)

      numbers : names ≡ named.1.xs
      numbers = named.1.is ∙ ap (λ (l : List ℕ). l ++ named.1.xs) none

      pub next_read : IsTold (λ m all. IsRevisionRead plan revision (ranges_of g) last before names m all × BecomesKnown g n plan revision last before names m all)
          (IsNext g n plan revision last before) (λ (all : List ℕ). all) m next
      next_read = record {
        there = (
          subst (λ (l : List CountyRange). IsRevisionRead plan revision l last before names m next) same (record {
            parts = subst (λ (l : List ℕ). HasParts plan revision (length ranges) m l) (sym numbers) named.1.stands;
            read = λ chunks. subst (λ (l : List ℕ). AreChunksRead l next ranges m) one (is.there (subst (λ (l : List ℕ). AreChunksRead l before ranges m) (sym other) chunks));
          }),
          known,
        );
        read = next_is;
      }

-- ---- a plan's last revision
-- of none the numbers are none
pub none_last : (names : List ℕ) (g : GeographyModel) (p : Plan) (m : KeyMap) → names ≡ [] → NamesLast g names p m
none_last names g p m none before is county c there within = search rules

revision_at_end : (p : Plan) (districts : List ℕ) → revision_at (with_revision p districts) (length (p.revisions ++ districts ∷ [])) ≡ Some districts
revision_at_end p districts = search (arith, length-append p.revisions (districts ∷ []), end_of p.revisions districts)

pub last_is : (p : Plan) (districts before : List ℕ) → IsLast (with_revision p districts) before → before ≡ districts
last_is p districts before is = subst (λ (o : Option (List ℕ)). IfSome o (λ last. before ≡ last)) (revision_at_end p districts) is

pub next_of : (g : GeographyModel) (plan revision : ℕ) (last before : List ℕ) (p : Plan) (m : KeyMap) (all : List ℕ) → IsLast p before
    → IsAfter g plan revision last p m all → IsNext g p.n plan revision last before m all
next_of g plan revision last before p m all is said = record { is = said.is; within = said.within; known = said.known before is }

pub becomes_last : (g : GeographyModel) (plan revision : ℕ) (last before : List ℕ) (p : Plan) (m : KeyMap) (names next : List ℕ) → IsLast p before
    → BecomesKnown g p.n plan revision last before names m next → BecomesLast g plan revision last p names m (with_revision p next)
becomes_last g plan revision last before p m names next was known all said other is =
    search (last_is p next other is, known all (next_of g plan revision last before p m all was said))

-- a plan's revisions, one after the other
of_blocks : (g : GeographyModel) (name : List ℕ) (row : StoredPlan) (m : KeyMap) (p : Plan) (i : ℕ) → IsPlanRow g name row m p → i < row.revisions → IsOfBlocks g row.number (i + 1) m (get_or p.revisions i [])
of_blocks g name row m p i is less = search rules

within_at : (g : GeographyModel) (name : List ℕ) (row : StoredPlan) (m : KeyMap) (p : Plan) (i : ℕ) → IsPlanRow g name row m p → i < row.revisions → AreWithin p.n (get_or p.revisions i [])
within_at g name row m p i is less = search rules

pub comes_after : (g : GeographyModel) (name : List ℕ) (row : StoredPlan) (m : KeyMap) (p : Plan) (i : ℕ) (last : List ℕ) (entry : Plan)
    → IsPlanRow g name row m p → i < row.revisions → entry.n ≡ row.districts
    → NamesLast g last entry m → IsAfter g row.number (i + 1) last entry m (get_or p.revisions i [])
comes_after g name row m p i last entry is less sized known =
    let within = subst (λ (n : ℕ). AreWithin n (get_or p.revisions i [])) (sym (sized ∙ is.districts)) (within_at g name row m p i is less) in
    record { is = of_blocks g name row m p i is less; within = within; known = known }

pub one_revision_more : (name : List ℕ) (p : Plan) (i : ℕ) (entry next : List ℕ × Plan) → i < length p.revisions → entry ≡ (name, record p { revisions = take i p.revisions }) → next ≡ (entry.0, with_revision entry.1 (get_or p.revisions i [])) → next ≡ (name, record p { revisions = take (i + 1) p.revisions })
one_revision_more name p i entry next within before is =
    is ∙ ap (λ (e : List ℕ × Plan). (e.0, with_revision e.1 (get_or p.revisions i []))) before
    ∙ ap (λ (l : List (List ℕ)). (name, record p { revisions = l })) (sym (take_more p.revisions i [] within))

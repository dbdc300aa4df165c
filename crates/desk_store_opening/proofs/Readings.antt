-- The revisions of a plan are what their rows say.
use Rattle.std.proofs.{Common.{rules, ◌≡◌, ◌<◌, ◌+◌, ◌++◌, ℕ, List, [], ◌∷◌, length, take, get_or, sym, subst, inl, inr, arith, length-append}, lemmas.Bool.cases_lt}
use Rattle.{std.proofs.lemmas.List.{get_or_append_left, get_or_at}, desk_model.specs.{Ranges.ranges_of, claim.{Desk.Plan, Geography.GeographyModel}}}
use Rattle.{desk_model.specs.declared.ranges.CountyRange.CountyRange, desk_store_rows.specs.{Changes.with_revision, claim.Rows.KeyMap, declared.value.StoredPlan.StoredPlan}}
use Rattle.desk_store_opening.{specs.Reading.{AreChunksRead, IsNextRead, IsPlanRow, IsRevisionShown, LastIsRead, NamesLast}, proofs.Revisions.last_is}

-- so are those that were read, and the numbers are those of the last one
pub record ReadSoFar (number : ℕ) (ranges : List CountyRange) (m : KeyMap) (last : List ℕ) (p : Plan) : Type 0 where
  pub read : (k : ℕ) → k < length p.revisions → IsRevisionShown number (k + 1) ranges m (get_or p.revisions k [])
  pub last_read : LastIsRead last p ranges m

-- an entry so far: its revisions are what their rows say, and where the map has the plan of a row, the first of that plan's
pub record IsEntryRead (g : GeographyModel) (name : List ℕ) (row : StoredPlan) (i : ℕ) (last : List ℕ) (m : KeyMap) (entry : List ℕ × Plan) : Type 0 where
  pub read : ReadSoFar row.number (ranges_of g) m last entry.1
  pub is : (p : Plan) → IsPlanRow g name row m p → entry ≡ (name, record p { revisions = take i p.revisions })
  pub known : (p : Plan) → IsPlanRow g name row m p → NamesLast g last entry.1 m

module _ (number : ℕ) (ranges : List CountyRange) (m : KeyMap) (last : List ℕ) (p : Plan) (revision : ℕ) (names : List ℕ) (next : Plan)
    (is_next : revision ≡ length p.revisions + 1) (so_far : ReadSoFar number ranges m last p) (read : IsNextRead number revision ranges last p names m next) where
  abbrev all : List (List ℕ)
  all = p.revisions ++ read.districts ∷ []

  chunks : AreChunksRead names read.districts ranges m
  chunks = read.read so_far.last_read

  shown_at : (k : ℕ) → k < length all → IsRevisionShown number (k + 1) ranges m (get_or all k [])
  shown_at k less = elim (cases_lt k (length p.revisions)) [
    | inl earlier ↦ subst (λ (l : List ℕ). IsRevisionShown number (k + 1) ranges m l) (sym (get_or_append_left p.revisions (read.districts ∷ []) [] k earlier)) (so_far.read k earlier)
    | inr not ↦
        let long = length-append p.revisions (read.districts ∷ []) in
        let here : length p.revisions ≡ k = omega arith in
        let same : revision ≡ k + 1 = omega arith in
        subst (λ (l : List ℕ). IsRevisionShown number (k + 1) ranges m l) (sym (get_or_at p.revisions read.districts [] [] k here))
        (subst (λ (r : ℕ). IsRevisionShown number r ranges m read.districts) same (record { numbers = names; parts = read.parts; chunks = chunks }))
  ]

  made : ReadSoFar number ranges m names (with_revision p read.districts)
  made = search (rules, shown_at, last_is)

  pub one_more_read : ReadSoFar number ranges m names next
  one_more_read = subst (λ (q : Plan). ReadSoFar number ranges m names q) (sym read.is) made

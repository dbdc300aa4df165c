-- Revisions that have a district for each block.
use Rattle.std.specs.{Cmp.Lexicographic.nat_list_cmp_total, FinMap.{get-empty, get-insert, get-remove}, List.slice_get, Ordering.eq_by_cmp, Prelude.{◌==◌, unwrap_or}}
use Rattle.std.proofs.Common.{◌≡◌, ◌-◌, ℕ, Bool, true, false, cond, List, [], ◌∷◌, ◌++◌, length, map, All, Option, Some, None, Result, Ok, Err, IsOkAnd, refl, ap, sym, ◌∙◌, inl, inr}
use Rattle.{std.proofs.lemmas.{List.Elements.{All-nil, All-cons, All-push}, Option.{get_or_from_slice_get, slice_get_cases}, Simd.map-map}, baf_text.specs.Listed.listed_of}
use Rattle.desk_model.specs.claim.{Baf.{Values, Fault, value_at, whole}, Desk.{Plan, name_cmp}, Geography.{GeographyModel, ids_of}, Subject.revision_at}
use Rattle.{desk_model.specs.declared.block.BlockRow.BlockRow, desk_store_catalogue.specs.Kept.{AreWhole, IsWhole, revision_in}}
use Rattle.std.specs.FinMap as map_of

pub none_whole : (geography : Option GeographyModel) → AreWhole geography map_of.empty
none_whole geography g name p geo there = let clash : None ≡ Some p = sym (get-empty name_cmp name) ∙ there in absurd (cc)

-- one of a list of revisions
at_place : (n : ℕ) (revisions : List (List ℕ)) (place : ℕ) (d : List ℕ) → All (λ (x : List ℕ). length x ≡ n) revisions → slice_get revisions place ≡ Some d → length d ≡ n
at_place n revisions place d all there = elim (slice_get_cases revisions place).1 [
  | inl found ↦ ap length (sym (get_or_from_slice_get revisions place d d there)) ∙ all place d found.1
  | inr past ↦ absurd (let clash : ◌≡◌ {A = Option (List ℕ)} None (Some d) = sym past.1 ∙ there in cc)
]

module _ (geography : Option GeographyModel) (plans : map_of.FinMap name_cmp Plan) (was : AreWhole geography plans) where
  -- where under one name there is another plan, or none
  by_name : (o : Option Plan) → ((g : GeographyModel) (p : Plan) → geography ≡ Some g → o ≡ Some p → All (λ (d : List ℕ). length d ≡ length g.blocks) p.revisions)
      → (g : GeographyModel) (q : List ℕ) (p : Plan) → geography ≡ Some g → (b : Bool) → cond b o (map_of.get plans q) ≡ Some p → All (λ (d : List ℕ). length d ≡ length g.blocks) p.revisions
  by_name o is g q p geo true there = is g p geo there
  by_name o is g q p geo false there = was g q p geo there

  pub inserted_whole : (name : List ℕ) (v : Plan) → ((g : GeographyModel) → geography ≡ Some g → All (λ (d : List ℕ). length d ≡ length g.blocks) v.revisions)
      → AreWhole geography (map_of.insert plans name v)
  inserted_whole name v is g q p geo there = by_name (Some v) (λ h r here same. let e : v ≡ r = cc in rw e at (is h here)) g q p geo
      (eq_by_cmp name_cmp q name) (sym (get-insert nat_list_cmp_total plans name v q) ∙ there)

  pub removed_whole : (name : List ℕ) → AreWhole geography (map_of.remove plans name)
  removed_whole name g q p geo there = by_name None (λ _ _ _ clash. absurd (cc)) g q p geo (eq_by_cmp name_cmp q name) (sym (get-remove nat_list_cmp_total plans name q) ∙ there)

  -- each revision, under a name and a number
  pub revision_whole : (name : List ℕ) (k : ℕ) → IsWhole geography (revision_in (map_of.get plans name) k)
  revision_whole name k g d geo = in_plan (map_of.get plans name) refl
    where
      numbered : (p : Plan) → map_of.get plans name ≡ Some p → (b : Bool) → cond b None (slice_get p.revisions (k - 1)) ≡ Some d → length d ≡ length g.blocks
      numbered p there true is = absurd (cc)
      numbered p there false is = at_place (length g.blocks) p.revisions (k - 1) d (was g name p geo there) is

      in_plan : (o : Option Plan) → map_of.get plans name ≡ o → revision_in o k ≡ Some d → length d ≡ length g.blocks
      in_plan None there is = absurd (cc)
      in_plan (Some p) there is = numbered p there (k == 0) is

  -- a plan with one revision more
  pub revised_whole : (name : List ℕ) (p : Plan) (districts : List ℕ) → map_of.get plans name ≡ Some p → IsWhole geography (Some districts)
      → AreWhole geography (map_of.insert plans name (record p { revisions = p.revisions ++ districts ∷ [] }))
  revised_whole name p districts found is = inserted_whole name (record p { revisions = p.revisions ++ districts ∷ [] })
      (λ g geo. All-push (λ (d : List ℕ). length d ≡ length g.blocks) p.revisions districts (was g name p geo found) (is g districts geo refl))

  -- a plan with a revision of another plan alone
  pub forked_whole : (name source : List ℕ) (p : Plan) (k : ℕ) (districts : List ℕ) → map_of.get plans source ≡ Some p → revision_at p k ≡ Some districts
      → AreWhole geography (map_of.insert plans name (record p { revisions = districts ∷ [] }))
  forked_whole name source p k districts found there = inserted_whole name (record p { revisions = districts ∷ [] }) (λ g geo. All-cons (λ (d : List ℕ). length d ≡ length g.blocks) districts []
      (revision_whole source k g districts geo (ap (λ (o : Option Plan). revision_in o k) found ∙ there)) (All-nil (λ (d : List ℕ). length d ≡ length g.blocks)))

pub in_turn : (values : Values) (blocks : List BlockRow) → map (λ (d : Option ℕ). unwrap_or d 0) (map (value_at values) (ids_of blocks)) ≡ map (λ (b : BlockRow). unwrap_or (value_at values b.id) 0) blocks
in_turn values blocks = simp map-map

-- what was read is the assignment of the whole
pub read_whole : (reading : Result Values Fault) (g : GeographyModel) (listed : List (Option ℕ)) (districts : List ℕ) → IsOkAnd reading (λ values. listed ≡ listed_of g values)
    → districts ≡ map (λ (d : Option ℕ). unwrap_or d 0) listed → IsOkAnd reading (λ values. districts ≡ whole g values)
read_whole (Err f) g listed districts said is = said
read_whole (Ok values) g listed districts said is = is ∙ ap (map (λ (d : Option ℕ). unwrap_or d 0)) said ∙ in_turn values g.blocks

-- districts of all blocks of the geography that is there
pub whole_of : (geography : Option GeographyModel) (g : GeographyModel) (districts : List ℕ) → geography ≡ Some g → length districts ≡ length g.blocks → IsWhole geography (Some districts)
whole_of geography g districts is long h d there same = cc

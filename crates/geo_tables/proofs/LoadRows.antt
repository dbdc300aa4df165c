-- What the rows of a load leave as it is.
use Rattle.std.{specs.{FinMap.{FinMap, insert}, Prelude.{◌≡◌, ◌<◌, ◌+◌, ◌^◌, ℕ, List, [], ◌∷◌, length, Option, MatchOption}}, proofs.lemmas.Bool.cases_lt}
use Rattle.{std.proofs.Common.{zero, suc, sym, subst, ◌∙◌, inl, inr, arith}, desk_model.specs.claim.{Desk.{Desk, Plan, name_cmp}, Geography.GeographyModel}}
use Rattle.{desk_model.specs.claim.GeographyModels.IsGeographyModel, desk_store_rows.specs.{Changes.desk_with, Rows.SameTag, Staging.desk_without, claim.DeskRows.IsDesk}}
use Rattle.desk_store_rows.specs.claim.{GeographyRows.{IsSealed, IsStaged, geography_rows}, Keys.{key_of, begun, block, in_eight, pair, seal}, Puts.{Row, put_rows}}
use Rattle.desk_store_rows.specs.{claim.{Rows.{KeyMap, Has, Lacks}, Tidy.{IsNext, no_numbers}, Values.counters_bytes}, declared.value.Counters.Counters}
use Rattle.{geo_tables.specs.{Loads.sealed_rows, Rows.{begun_rows, load_taken, seal_row, staged_row, staged_rows}}, desk_store_rows.proofs.Puts.{put_rows-append, told_keep}}
use Rattle.desk_store_rows.proofs.Frames.{desk_stays, put_is_there, put_keeps_tag, remove_keeps_tag, removed_is_gone, staged_stays, tag_follows}
use Rattle.{desk_store_rows.proofs.Staging.{load_sealed, none_staged, staged_unseen}, geo_tables.proofs.Staging.{is_block, is_pair}}

-- ---- a load that is begun
module _ (m : KeyMap) (next : Counters) where
  begun_tag : (tag : ℕ) → (tag ≡ 76 → ⊥) → (tag ≡ 65 → ⊥) → SameTag tag m (put_rows m (begun_rows next))
  begun_tag tag not_begun not_counters = search (arith, next.load, tag_follows, put_keeps_tag)

  pub begun_desk : (d : Desk) → IsDesk m d → IsDesk (put_rows m (begun_rows next)) d
  begun_desk d is = desk_stays m (put_rows m (begun_rows next)) d (begun_tag 80 (λ same. absurd (omega arith)) (λ same. absurd (omega arith))) (begun_tag 82 (λ same. absurd (omega arith)) (λ same. absurd (omega arith))) (begun_tag 83 (λ same. absurd (omega arith)) (λ same. absurd (omega arith))) (begun_tag 103 (λ same. absurd (omega arith)) (λ same. absurd (omega arith))) (begun_tag 107 (λ same. absurd (omega arith)) (λ same. absurd (omega arith))) is

  pub begun_mark : Has (put_rows m (begun_rows next)) (begun next.load) []
  begun_mark = search (arith, next.load, put_keeps_tag, put_is_there)

  pub begun_next : IsNext (put_rows m (begun_rows next)) (load_taken next)
  begun_next = search (arith, put_is_there)

  pub begun_unsealed : Lacks m seal → Lacks (put_rows m (begun_rows next)) seal
  begun_unsealed none = begun_tag 83 (λ same. absurd (omega arith)) (λ same. absurd (omega arith)) [] ∙ none

  pub begun_staged : (g : GeographyModel) → ((place : ℕ) → place < 2 ^ 32 → Lacks m (block next.load place)) → ((place : ℕ) → place < 2 ^ 32 → Lacks m (pair next.load place)) → IsStaged (put_rows m (begun_rows next)) next.load g 0
  begun_staged g blocks pairs = none_staged (put_rows m (begun_rows next)) next.load g
      (λ place small. begun_tag 103 (λ same. absurd (omega arith)) (λ same. absurd (omega arith)) _ ∙ blocks place small)
      (λ place small. begun_tag 103 (λ same. absurd (omega arith)) (λ same. absurd (omega arith)) _ ∙ pairs place small)

-- ---- a batch of its rows
not_staged : (load : ℕ) (g : GeographyModel) (place tag : ℕ) (rest : List ℕ) → (tag ≡ 103 → ⊥) → tag ∷ rest ≡ (staged_row load g place).0 → ⊥
not_staged load g place tag rest apart same = search (arith, cases_lt, g.blocks, is_block, is_pair)

pub batch_tag : (m : KeyMap) (load : ℕ) (g : GeographyModel) (done rows tag : ℕ) → (tag ≡ 103 → ⊥) → SameTag tag m (put_rows m (staged_rows load g done rows))
batch_tag m load g done rows tag apart rest = told_keep m (λ k. staged_row load g (done + k)) rows (tag ∷ rest) (λ k less same. not_staged load g (done + k) tag rest apart same)

row_unseen : (m : KeyMap) (load : ℕ) (g : GeographyModel) (place : ℕ) (plans : FinMap name_cmp Plan) → IsDesk m (desk_without plans) → IsDesk (put_rows m (staged_row load g place ∷ [])) (desk_without plans)
row_unseen m load g place plans is = elim (cases_lt place (length g.blocks)) [
  | inl less ↦ subst (λ (r : Row). IsDesk (put_rows m (r ∷ [])) (desk_without plans)) (sym (is_block load g place less)) (staged_unseen m plans _ _ is)
  | inr more ↦ subst (λ (r : Row). IsDesk (put_rows m (r ∷ [])) (desk_without plans)) (sym (is_pair load g place more)) (staged_unseen m plans _ _ is)
]

pub batch_unseen : (m : KeyMap) (load : ℕ) (g : GeographyModel) (done rows : ℕ) (plans : FinMap name_cmp Plan) → IsDesk m (desk_without plans) → IsDesk (put_rows m (staged_rows load g done rows)) (desk_without plans)
batch_unseen m load g done zero plans is = is
batch_unseen m load g done (suc rows) plans is = search (arith, put_rows-append, row_unseen, (batch_unseen m load g done rows plans is))

pub batch_next : (m : KeyMap) (load : ℕ) (g : GeographyModel) (done rows : ℕ) (next : Counters) → IsNext m next → IsNext (put_rows m (staged_rows load g done rows)) next
batch_next m load g done rows next is = subst (λ (row : Option (List ℕ)). MatchOption row (next ≡ no_numbers) (λ value. value ≡ counters_bytes next)) (sym (batch_tag m load g done rows 65 (λ same. absurd (omega arith)) [])) is

-- ---- the seal
module _ (m : KeyMap) (load : ℕ) (g : GeographyModel) where
  seal_tag : (tag : ℕ) → (tag ≡ 83 → ⊥) → (tag ≡ 76 → ⊥) → SameTag tag m (sealed_rows load g m)
  seal_tag tag not_seal not_begun =
      let first = insert m (key_of seal) (seal_row load g).1 in
      tag_follows tag m first (sealed_rows load g m) (put_keeps_tag m tag 83 [] (seal_row load g).1 not_seal) (remove_keeps_tag first tag 76 (in_eight load) not_begun)

  pub sealed_is : IsStaged m load g (geography_rows g) → IsGeographyModel g → load < 2 ^ 64 → length g.pairs < 2 ^ 32 → IsSealed (sealed_rows load g m) load g
  sealed_is staged sound load_fits pairs_fit =
      let first = insert m (key_of seal) (seal_row load g).1 in
      let named = remove_keeps_tag first 83 76 (in_eight load) (λ same. absurd (omega arith)) [] ∙ put_is_there m (key_of seal) (seal_row load g).1 in
      let rows = staged_stays m (sealed_rows load g m) load g (geography_rows g) (seal_tag 103 (λ same. absurd (omega arith)) (λ same. absurd (omega arith))) staged in
      record { sound = sound; load_fits = load_fits; pairs_fit = pairs_fit; named = named; rows = rows }

  pub sealed_desk : (plans : FinMap name_cmp Plan) → IsStaged m load g (geography_rows g) → IsGeographyModel g → load < 2 ^ 64 → length g.pairs < 2 ^ 32 → IsDesk m (desk_without plans) → IsDesk (sealed_rows load g m) (desk_with g plans)
  sealed_desk plans staged sound load_fits pairs_fit is =
      let first = insert m (key_of seal) (seal_row load g).1 in
      let keeps = λ (tag : ℕ) (apart : tag ≡ 76 → ⊥). remove_keeps_tag first tag 76 (in_eight load) apart in
      desk_stays first (sealed_rows load g m) (desk_with g plans) (keeps 80 (λ same. absurd (omega arith))) (keeps 82 (λ same. absurd (omega arith))) (keeps 83 (λ same. absurd (omega arith))) (keeps 103 (λ same. absurd (omega arith))) (keeps 107 (λ same. absurd (omega arith))) (load_sealed m plans load g is staged sound load_fits pairs_fit)

  pub sealed_unmarked : Lacks (sealed_rows load g m) (begun load)
  sealed_unmarked = removed_is_gone (insert m (key_of seal) (seal_row load g).1) (key_of (begun load))

  pub sealed_next : (next : Counters) → IsNext m next → IsNext (sealed_rows load g m) next
  sealed_next next is = subst (λ (row : Option (List ℕ)). MatchOption row (next ≡ no_numbers) (λ value. value ≡ counters_bytes next)) (sym (seal_tag 65 (λ same. absurd (omega arith)) (λ same. absurd (omega arith)) [])) is

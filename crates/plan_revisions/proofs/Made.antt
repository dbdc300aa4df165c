-- The rows of plans, with the row of numbers after them, make the desk that the plans' rows make.
use Rattle.std.{specs.{FinMap.{FinMap, get, insert}, Prelude.{Option, MatchOption}}, proofs.Common.{◌≡◌, ◌<◌, ℕ, List, [], length, Some, ap, ◌∙◌, arith, length-append}}
use Rattle.{desk_model.specs.claim.{Desk.{Desk, Plan, name_cmp}, Geography.GeographyModel}, desk_store_rows.specs.Changes.{IsRevised, desk_with, plan_row_of, with_revision}}
use Rattle.desk_store_rows.specs.{Rows.SameTag, Steps.one_revision_more, claim.{DeskRows.{HasPlan, IsDesk, most_revisions}, Keys.{key_of, counters, named}, Puts.put_rows}}
use Rattle.desk_store_rows.specs.{claim.{Rows.KeyMap, Tidy.{IsNext, no_numbers}, Values.{counters_bytes, plan_bytes}}, declared.value.{Counters.Counters, StoredPlan.StoredPlan}}
use Rattle.plan_revisions.specs.{PlanLaws.{MakesAndTakes, HasRevisionRows}, PlanRows.{plan_rows, revised_rows}}
use Rattle.desk_store_rows.proofs.Changes.{plan_created, plan_retired, plan_revised, other_row as other_name}
use Rattle.desk_store_rows.proofs.Frames.{put_is_there, put_keeps, put_keeps_tag, tag_follows, desk_stays, revision_stays}

-- ---- the row of numbers says nothing of the desk
numbers_keep : (m : KeyMap) (d : Desk) (value : List ℕ) → IsDesk m d → IsDesk (insert m (key_of counters) value) d
numbers_keep m d value is =
    let same = λ (tag : ℕ) (apart : tag ≡ 65 → ⊥). put_keeps_tag m tag 65 [] value apart in
    desk_stays m (insert m (key_of counters) value) d (same 80 (λ e. absurd (omega arith))) (same 82 (λ e. absurd (omega arith))) (same 83 (λ e. absurd (omega arith))) (same 103 (λ e. absurd (omega arith))) (same 107 (λ e. absurd (omega arith))) is

pub plans_made : (m : KeyMap) (g : GeographyModel) (plans : FinMap name_cmp Plan) (name : List ℕ) → IsDesk m (desk_with g plans) → MakesAndTakes m g plans name
plans_made m g plans name is = record {
  created = λ kind districts next is_name fits small. numbers_keep _ _ _ (plan_created m g plans name kind districts next.plan is is_name fits.plan_fits small);
  taken_away = λ number. plan_retired m g plans name number is;
}

-- ---- what stays where the two rows are put
pub rows_keep : (tag : ℕ) (m : KeyMap) (name : List ℕ) (row : StoredPlan) (next : Counters) → (tag ≡ 80 → ⊥) → (tag ≡ 65 → ⊥) → SameTag tag m (put_rows m (plan_rows name row next))
rows_keep tag m name row next no_plan no_counters = search (arith, tag_follows, put_keeps_tag)

names_keep : (m : KeyMap) (name : List ℕ) (row : StoredPlan) (next : Counters) → SameTag 80 (insert m (key_of (named name)) (plan_bytes row)) (put_rows m (plan_rows name row next))
names_keep m name row next = put_keeps_tag (insert m (key_of (named name)) (plan_bytes row)) 80 65 [] (counters_bytes next) (λ same. absurd (omega arith))

one_more : (number : ℕ) (p : Plan) (row : StoredPlan) (districts : List ℕ) → row ≡ plan_row_of number p → one_revision_more row ≡ plan_row_of number (with_revision p districts)
one_more number p row districts is = search (arith, p.revisions, length-append, p.kind, p.n)

module _ (m n : KeyMap) (g : GeographyModel) (plans : FinMap name_cmp Plan) (name : List ℕ) (row : StoredPlan) (p : Plan) (districts : List ℕ) (used : ℕ) (next : Counters) where
  is_revised : row ≡ plan_row_of row.number p → HasRevisionRows m n g plans row.number p districts → IsRevised m (put_rows n (revised_rows name row used next)) g plans name row.number p districts
  is_revised told rows =
      let then = put_rows n (revised_rows name row used next) in
      let more = one_revision_more row in
      let parts : SameTag 82 n then = rows_keep 82 n name more _ (λ same. absurd (omega arith)) (λ same. absurd (omega arith)) in
      let chunks : SameTag 107 n then = rows_keep 107 n name more _ (λ same. absurd (omega arith)) (λ same. absurd (omega arith)) in
      record {
        seals = tag_follows 83 m n then rows.seals (rows_keep 83 n name more _ (λ same. absurd (omega arith)) (λ same. absurd (omega arith)));
        rows = tag_follows 103 m n then rows.rows (rows_keep 103 n name more _ (λ same. absurd (omega arith)) (λ same. absurd (omega arith)));
        others = λ other apart. names_keep n name more _ other ∙ put_keeps n (key_of (named name)) (plan_bytes more) (key_of (named other)) (other_name name other apart) ∙ rows.names other;
        row = names_keep n name more _ name ∙ put_is_there n (key_of (named name)) (plan_bytes more) ∙ ap (λ (r : StoredPlan). Some (plan_bytes r)) (one_more row.number p row districts told);
        earlier = λ other plan q found has revision counties some few there. revision_stays n then plan revision counties parts chunks (rows.earlier other plan q found has revision counties some few there);
        added = revision_stays n then _ _ _ parts chunks rows.added;
      }

  pub revision_counted : IsDesk m (desk_with g plans) → get plans name ≡ Some p → row ≡ plan_row_of row.number p → HasPlan m g name row.number p → length districts ≡ length g.blocks → length p.revisions < most_revisions → HasRevisionRows m n g plans row.number p districts
      → IsDesk (put_rows n (revised_rows name row used next)) (desk_with g (insert plans name (with_revision p districts)))
  revision_counted is there told has long room rows = plan_revised m (put_rows n (revised_rows name row used next)) g plans name row.number p districts is there has long room (is_revised told rows)

-- ---- the numbers
next_in : (value : Option (List ℕ)) (next : Counters) → ◌≡◌ {A = Option (List ℕ)} value (Some (counters_bytes next)) → MatchOption value (next ≡ no_numbers) (λ bytes. bytes ≡ counters_bytes next)
next_in value next is = search (arith)

pub numbers_moved : (m : KeyMap) (name : List ℕ) (row : StoredPlan) (next : Counters) → IsNext (put_rows m (plan_rows name row next)) next
numbers_moved m name row next = next_in _ next (put_is_there (insert m (key_of (named name)) (plan_bytes row)) (key_of counters) (counters_bytes next))

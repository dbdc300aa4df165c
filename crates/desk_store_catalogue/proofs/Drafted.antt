-- Which counties a revision changes that a plan got.
use Rattle.std.{specs.{Cmp.Lexicographic.nat_list_cmp_total, FinMap.get-insert, List.slice_get, Ordering.is_eq, Prelude.{◌==◌, MatchResult}}, proofs.lemmas.Bool.Decides.nat_tests}
use Rattle.std.proofs.Common.{rules, ◌≡◌, ◌+◌, ◌-◌, ℕ, suc, Bool, false, cond, List, [], ◌∷◌, ◌++◌, length, Option, Some, None, Result, Ok, Err, IfSome, refl, sym, ap, ◌∙◌, arith}
use Rattle.{std.proofs.lemmas.{Cmp.tied_itself, List.get_or_past}, desk_model.specs.{Ranges.ranges_in, claim.{Desk.{Plan, Desk, name_cmp}, Room.last_revision}}}
use Rattle.desk_model.specs.{claim.Subject.revision_at, declared.{command.Command.Command, ranges.CountyRange.CountyRange, reply.Refusal.Refusal}}
use Rattle.desk_store_catalogue.specs.{Accepting.{IsRevisable, StepRefuses}, Cutting.{StaysOutside, changes_in}, Drafts.{IsDrafted, changes_between, changes_of}, Kept.revision_in}
use Rattle.{desk_store_catalogue.specs.{Patches.{HasNext, with_revision_of}, claim.Accepting.IsAfter, declared.catalogue.Draft.Draft}, desk_store_plans.specs.Rows.Row}
use Rattle.std.specs.FinMap as map_of

-- ---- lists as long as one another are the same after their end
pub stays_within : (last new : List ℕ) (end : ℕ) → length last ≡ end → length new ≡ end → StaysOutside 0 end last new
stays_within last new end old now k outside = search (rules, get_or_past)

pub all_stay : (last : Option (List ℕ)) (new : List ℕ) (end n : ℕ) → IfSome last (λ l. length l ≡ n) → length new ≡ n → end ≡ n → IfSome last (λ l. StaysOutside 0 end l new)
all_stay None new end n old now is = tt
all_stay (Some last) new end n old now is = stays_within last new end (old ∙ sym is) (now ∙ sym is)

-- ---- the revision that a plan got
abbrev with_next : Plan → List ℕ → Plan
with_next p districts = record p { revisions = p.revisions ++ districts ∷ [] }

pub end_of : (xs : List (List ℕ)) (x : List ℕ) → slice_get (xs ++ x ∷ []) (length xs) ≡ Some x
end_of [] x = refl
end_of (y ∷ ys) x = end_of ys x

pub no_zero : (n : ℕ) → (suc n == 0) ≡ false
no_zero n = grind (arith, nat_tests)

at_next : (p : Plan) (districts : List ℕ) (k : ℕ) → k ≡ suc (length p.revisions) → revision_at (with_next p districts) k ≡ Some districts
at_next p districts k is = search (arith, no_zero (length p.revisions), end_of p.revisions districts)

pub put_there : (plans : map_of.FinMap name_cmp Plan) (name : List ℕ) (p : Plan) → map_of.get (map_of.insert plans name p) name ≡ Some p
put_there plans name p = get-insert nat_list_cmp_total plans name p name ∙ ap (λ b. cond b (Some p) (map_of.get plans name)) (ap is_eq (tied_itself nat_list_cmp_total name))

module _ (d : Desk) (name : List ℕ) (after : ℕ) (row : Row) (districts : List ℕ) (revisable : IsRevisable d name after row) where
  changes_are : (e : Desk) (ranges : List CountyRange) (changes : List Bool) → e ≡ with_revision_of d row districts → changes ≡ changes_in (last_revision row.1) districts ranges
      → changes ≡ changes_between (revision_in (map_of.get d.plans name) after) (revision_in (map_of.get e.plans name) (after + 1)) ranges
  changes_are e ranges changes is are = search (rules, put_there, at_next)

  -- the draft of a command that gives the plan these districts, or that memory is wanting for
  pub drafts : (c : Command) (r : Result Draft Refusal)
      → ((e : Desk) → changes_of d c e (ranges_in d.geography) ≡ changes_between (revision_in (map_of.get d.plans name) after) (revision_in (map_of.get e.plans name) (after + 1)) (ranges_in d.geography))
      → IsAfter d c (with_revision_of d row districts) → HasNext d row districts r → MatchResult r (IsDrafted d c) (StepRefuses d c)
  drafts c (Ok draft) told is next = record {
    after = rw next.ok is;
    changes = changes_are draft.catalogue (ranges_in d.geography) draft.changes.items next.ok next.changes ∙ sym (told draft.catalogue);
  }
  drafts c (Err e) told is next = rw next.err (λ no. no, refl)

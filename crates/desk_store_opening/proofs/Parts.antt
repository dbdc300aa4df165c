-- Some of a desk's plans were read: those whose rows a scan took.
use Rattle.std.specs.{Cmp.Lexicographic.nat_list_cmp_total, FinMap.Entries.find-append, Ordering.eq_by_cmp, Prelude.{Option, is_some, MatchOption}}
use Rattle.std.specs.FinMap.{FinMap, empty, entries, find, get, insert, len, remove, empty_of_len, get-empty, get-entries, get-insert, len-entries, len-insert, len-remove, same_map, slice_cmp-IsAntisymmetric, nat_cmp-IsAntisymmetric}
use Rattle.std.proofs.Common.{rules, ◌≡◌, ◌<◌, ◌≤◌, ◌+◌, ◌-◌, ℕ, zero, suc, cond, Bool, true, false, List, [], ◌∷◌, ◌++◌, length, Some, None, refl, sym, ap, subst, subst₂, ◌∙◌, inl, inr, arith}
use Rattle.{std.proofs.lemmas.Option.{MatchOption-at_none, MatchOption-at_some}, btree_scan.specs.Prefixes.under, desk_model.specs.claim.{Desk.{Plan, name_cmp}, Step.plan_limit}}
use Rattle.{desk_model.specs.claim.Geography.GeographyModel, desk_store_catalogue.specs.Kept.AreWhole, desk_store_opening.specs.Reading.IsWhole}
use Rattle.desk_store_rows.specs.{Changes.desk_with, claim.{DeskRows.{IsDesk, IsPlanAt}, Keys.{key_of, named, plans_prefix}, Order.key_cmp, Rows.KeyMap}}
use Rattle.{page_btree.specs.node.claim.Entries.Entry, btree_scan.proofs.RowsFound.{next_under, found_among as found_under}, desk_store_rows.proofs.Frames.{differs, itself}}
use Rattle.desk_store_rows.proofs.{Changes.{cases_key, other_row, plan_gone as gone, plan_left as left}, KeyPrefixes.starts_itself}

-- the next row is that of a plan, stands in the map, and wasn't taken before
pub record IsNextPlan (m : KeyMap) (taken : List Entry) (e : Entry) : Type 0 where
  pub name : List ℕ
  pub key : e.0 ≡ key_of (named name)
  pub there : get m e.0 ≡ Some e.1
  pub new : find key_cmp e.0 taken ≡ None

pub next_plan : (m : KeyMap) (taken : List Entry) (e : Entry) (more : List Entry) → under plans_prefix (entries m) ≡ taken ++ e ∷ more → IsNextPlan m taken e
next_plan m taken e more whole = search (rules, next_under m plans_prefix taken e more whole)

-- where these are all rows of plans, a plan's row is found among them as in the map
pub found_among : (m : KeyMap) (taken : List Entry) (name : List ℕ) → under plans_prefix (entries m) ≡ taken → find key_cmp (key_of (named name)) taken ≡ get m (key_of (named name))
found_among m taken name all = sym (found_under m plans_prefix taken (key_of (named name)) (starts_itself plans_prefix name) all)

abbrev pub Plans : Type 0
Plans = FinMap name_cmp Plan

-- ---- maps of plans
pub put_there : (m : Plans) (name : List ℕ) (p : Plan) → get (insert m name p) name ≡ Some p
put_there m name p = get-insert nat_list_cmp_total m name p name ∙ ap (λ b. cond b (Some p) (get m name)) (itself name)

pub put_keeps : (m : Plans) (name : List ℕ) (p : Plan) (other : List ℕ) → (other ≡ name → ⊥) → get (insert m name p) other ≡ get m other
put_keeps m name p other apart = get-insert nat_list_cmp_total m name p other ∙ ap (λ b. cond b (Some p) (get m other)) (differs other name apart)

-- the plans of one are among those of the other
abbrev pub AreAmong : Plans → Plans → Type 0
AreAmong a b = (name : List ℕ) (p : Plan) → get a name ≡ Some p → get b name ≡ Some p

still_among : (a b : Plans) (name : List ℕ) → AreAmong a b → AreAmong (remove a name) (remove b name)
still_among a b name among other p there = search (rules, gone, left)

one_fewer : (m : Plans) (name : List ℕ) (p : Plan) → get m name ≡ Some p → len (remove m name) + 1 ≡ len m
one_fewer m name p there =
    let less : len (remove m name) ≡ len m - 1 = len-remove nat_list_cmp_total m name ∙ ap (λ (o : Option Plan). cond (is_some o) (len m - 1) (len m)) there in
    let some : len m ≡ 0 → ⊥ = λ none.
    (let clash : ◌≡◌ {A = Option Plan} None (Some p) = sym (get-empty name_cmp name) ∙ ap (λ (n : Plans). get n name) (sym (empty_of_len m none)) ∙ there in cc) in
    omega arith

first_of_all : (m : Plans) (es : List (List ℕ × Plan)) → entries m ≡ es → 0 < length es → (name : List ℕ) × (p : Plan) × (get m name ≡ Some p)
first_of_all m [] is some = absurd (omega arith)
first_of_all m (e ∷ es) is some =
    (e.0, e.1, get-entries m e.0 ∙ ap (λ (l : List (List ℕ × Plan)). find name_cmp e.0 l) is ∙ ap (λ b. cond b (Some e.1) (find name_cmp e.0 es)) (itself e.0))

fewer : (n : ℕ) (a b : Plans) → len a ≡ n → AreAmong a b → n ≤ len b
fewer zero a b long among = omega arith
fewer (suc n) a b long among =
    let count = len-entries a in
    let first = first_of_all a (entries a) refl (omega arith) in
    let one = one_fewer a first.0 first.1 first.2 in
    let other = one_fewer b first.0 first.1 (among first.0 first.1 first.2) in
    let rest = fewer n (remove a first.0) (remove b first.0) (omega arith) (still_among a b first.0 among) in
    omega arith

-- ---- plans that were read
-- a plan was read where its row was taken, and is that of all plans
abbrev pub IsReadAt : List Entry → Plans → Plans → List ℕ → Type 0
IsReadAt taken plans all name = MatchOption (find key_cmp (key_of (named name)) taken) (get plans name ≡ None) (λ _. get plans name ≡ get all name)

pub record AreRead (taken : List Entry) (plans all : Plans) : Type 0 where
  pub each : (name : List ℕ) → IsReadAt taken plans all name

-- what is so of each name, its row among those taken, and its plan, is so with one more of both
pub at_more : (P : List ℕ → Option (List ℕ) → Option Plan → Type 0) (taken : List Entry) (plans : Plans) (name : List ℕ) (p : Plan) (value : List ℕ)
    → find key_cmp (key_of (named name)) taken ≡ None → P name (Some value) (Some p)
    → ((other : List ℕ) → P other (find key_cmp (key_of (named other)) taken) (get plans other))
    → (other : List ℕ) → P other (find key_cmp (key_of (named other)) (taken ++ (key_of (named name), value) ∷ [])) (get (insert plans name p) other)
at_more P taken plans name p value new is rest other = elim (cases_key other name) [
  | inl same ↦ subst (λ (n : List ℕ). P n (find key_cmp (key_of (named n)) (taken ++ (key_of (named name), value) ∷ []))
      (get (insert plans name p) n)) (sym same)
      (subst₂ (P name) (sym (found name true (itself (key_of (named name))))) (sym (put_there plans name p)) is)
  | inr apart ↦ subst₂ (P other) (sym (found other false (differs (key_of (named other)) (key_of (named name)) (other_row name other apart))))
      (sym (put_keeps plans name p other apart)) (rest other)
]
  where
    found : (n : List ℕ) (b : Bool) → eq_by_cmp key_cmp (key_of (named n)) (key_of (named name)) ≡ b
        → find key_cmp (key_of (named n)) (taken ++ (key_of (named name), value) ∷ []) ≡ cond b (Some value) (find key_cmp (key_of (named n)) taken)
    found n b is =
        find-append key_cmp nat_list_cmp_total taken (key_of (named name)) value (key_of (named n)) new
        ∙ ap (λ b. cond b (Some value) (find key_cmp (key_of (named n)) taken)) is

pub none_read : (all : Plans) → AreRead [] empty all
none_read all = record { each = λ name. get-empty name_cmp name }

module _ (taken : List Entry) (plans all : Plans) (read : AreRead taken plans all) where
  pub not_read : (name : List ℕ) → find key_cmp (key_of (named name)) taken ≡ None → get plans name ≡ None
  not_read name new = MatchOption-at_none (get plans name ≡ None) (λ _. get plans name ≡ get all name) new (read.each name)

  module _ (name : List ℕ) (p : Plan) (new : find key_cmp (key_of (named name)) taken ≡ None) (there : get all name ≡ Some p) where
    more_among : AreAmong (insert plans name p) all
    more_among other q is = search (rules, cases_key other name, put_there plans name p, put_keeps)

    -- there is room for one plan more
    pub has_room : len all ≤ plan_limit → len plans < plan_limit
    has_room few =
        let longer : len (insert plans name p) ≡ len plans + 1 = len-insert nat_list_cmp_total plans name p ∙ ap (λ (o : Option Plan). cond (is_some o) (len plans) (len plans + 1)) (not_read name new) in
        let fit = fewer (len plans + 1) (insert plans name p) all longer more_among in
        omega arith

    pub one_more_read : (value : List ℕ) → AreRead (taken ++ (key_of (named name), value) ∷ []) (insert plans name p) all
    one_more_read value =
        let each = at_more (λ other row o. MatchOption row (o ≡ None) (λ _. o ≡ get all other)) taken plans name p value new (sym there) read.each in
        record { each = each }

-- ---- all of them
module _ (m : KeyMap) (g : GeographyModel) (taken : List Entry) (plans all : Plans) (is : IsDesk m (desk_with g all)) (read : AreRead taken plans all) (rows : under plans_prefix (entries m) ≡ taken) where
  same_at : (name : List ℕ) (b : Option Plan) → IsPlanAt m (Some g) name b → MatchOption (find key_cmp (key_of (named name)) taken) (get plans name ≡ None) (λ _. get plans name ≡ b) → get plans name ≡ b
  same_at name None lacks told = MatchOption-at_none (get plans name ≡ None) (λ _. get plans name ≡ None) (found_among m taken name rows ∙ lacks) told
  same_at name (Some p) has told =
      MatchOption-at_some (get plans name ≡ None) (λ _. get plans name ≡ Some p) _ (found_among m taken name rows ∙ has.1.row) told

  pub all_read : plans ≡ all
  all_read = same_map nat_list_cmp_total (slice_cmp-IsAntisymmetric nat_cmp-IsAntisymmetric) plans all (λ name. same_at name (get all name) (is.plans name) (read.each name))

-- ---- plans whose revisions have a district for each block
pub none_whole : (g : GeographyModel) → AreWhole (Some g) (empty {X = Plan} {R = name_cmp})
none_whole g other name p same there = let clash : ◌≡◌ {A = Option Plan} None (Some p) = sym (get-empty name_cmp name) ∙ there in absurd (cc)

-- one plan more
pub more_whole : (g : GeographyModel) (plans : FinMap name_cmp Plan) (name : List ℕ) (p : Plan) → IsWhole g p → AreWhole (Some g) plans → AreWhole (Some g) (insert plans name p)
more_whole g plans name p whole all other n q same there = search (rules, cases_key, put_there, put_keeps)

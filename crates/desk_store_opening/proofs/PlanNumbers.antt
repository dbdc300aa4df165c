-- Numbers of plans, each once, with the counts of their revisions.
use Rattle.std.specs.{BTreeMap.{BTreeMap, IsEmpty, is_at, get as count_at}, FinMap.{entries, find, get}, Int.from_be_bytes, List.AllByRecursion, Map.lookup}
use Rattle.std.{specs.Ordering.{eq_by_cmp, nat_cmp}, proofs.lemmas.{Map.{Lookups.exact_unsigned, Views.tells_apart}, Nat.from_be_bytes-to_be_bytes_8}}
use Rattle.std.proofs.Common.{rules, ◌≡◌, ◌⊎◌, ◌<◌, ◌^◌, ℕ, cond, List, [], ◌∷◌, ◌++◌, Bool, true, Option, Some, None, inl, inr, w64, refl, sym, ap, subst, ◌∙◌, arith, append_assoc}
use Rattle.{btree_scan.specs.{Prefixes.under, declared.rows.Row.Row}, desk_model.specs.claim.{Desk.Plan, Geography.GeographyModel}, desk_store_pages.specs.Looking.Says}
use Rattle.{desk_store_opening.specs.Opening.{AreCounts, ArePlans, ArePlansApart, HasNoPlans, IsFreshPlan, IsNoted, IsUnused, NoteErr}, desk_store_pages.specs.Reading.SeekErr}
use Rattle.desk_store_rows.specs.{Changes.plan_row_of, claim.{DeskRows.IsPlanAt, Keys.{key_of, named, plans_prefix}, Order.key_cmp, Rows.{KeyMap, Has}, Tidy.IsNumbered}}
use Rattle.{desk_store_rows.specs.{claim.Values.plan_bytes, declared.value.StoredPlan.StoredPlan}, page_btree.specs.gets.declared.error.TreeError.TreeError}
use Rattle.{page_btree.specs.{gets.declared.error.TreeError.TheVariants.{NotAStore, Memory}, node.claim.Entries.Entry}, page_store.specs.declared.{pages.Pages.Pages, txn.Txn.Txn}}
use Rattle.{sector_device.specs.declared.SectorDevice.Ghosts, btree_scan.proofs.RowsFound.{all_found, all_more}, desk_store_opening.proofs.NewPlans.is_kept_plan}
use Rattle.{desk_store_opening.proofs.Parts.{Plans, found_among, next_plan}, desk_store_rows.proofs.Frames.{either_way, is_equal, itself, same_key}}
use Rattle.desk_store_rows.proofs.OneGeography.{no_value, value_is}
use Rattle.page_btree.proofs.gets.Rows.{all_map}

-- ---- the number that a row's value begins with
pub number_in : List ℕ → ℕ
number_in value = from_be_bytes w64 value

number_is : (p : StoredPlan) → p.number < 2 ^ 64 → number_in (plan_bytes p) ≡ p.number
unfolding number_in
number_is p fits = from_be_bytes-to_be_bytes_8 p.number fits

-- each is another than those of the rows after it
abbrev pub AreApart : List Entry → Type 0
AreApart [] = Unit {0}
AreApart (e ∷ es) = AllByRecursion (λ (f : Entry). number_in f.1 ≡ number_in e.1 → ⊥) es × AreApart es

apart_more : (es : List Entry) (e : Entry) → AreApart es → AllByRecursion (λ (f : Entry). number_in f.1 ≡ number_in e.1 → ⊥) es
    → AreApart (es ++ e ∷ [])
apart_more [] e apart new = (tt, tt)
apart_more (f ∷ es) e apart new =
    (all_more (λ (x : Entry). number_in x.1 ≡ number_in f.1 → ⊥) es e (λ same. new.0 (sym same)) apart.0, apart_more es e apart.1 new.1)

-- a number is that of a row, which counts so many revisions
pub record IsAmong (rows : List Entry) (number count : ℕ) : Type 0 where
  pub before : List Entry
  pub row : Entry
  pub after : List Entry
  pub whole : rows ≡ before ++ row ∷ after
  pub plan : StoredPlan
  pub value : row.1 ≡ plan_bytes plan
  pub is : plan.number ≡ number
  pub fits : number < 2 ^ 64
  pub counts : plan.revisions ≡ count
  pub count_fits : count < 2 ^ 32

-- that of a row was noted, with a count
abbrev pub HasNote : BTreeMap ℕ ℕ → Entry → Type 0
HasNote counts e = (count : ℕ) × (count_at nat_cmp counts (number_in e.1) ≡ Some count)

-- these are the numbers of the rows, each of which has one of its own, with the counts of revisions
pub record AreNoted (rows : List Entry) (counts : BTreeMap ℕ ℕ) : Type 0 where
  pub among : (x count : ℕ) → count_at nat_cmp counts x ≡ Some count → IsAmong rows x count
  pub all : AllByRecursion (HasNote counts) rows
  pub apart : AreApart rows

pub some_or_none : (count : ℕ) → ◌≡◌ {A = Option ℕ} (Some count) None → ⊥
some_or_none count same = cc

count_is : (x y : ℕ) → ◌≡◌ {A = Option ℕ} (Some x) (Some y) → x ≡ y
count_is x y same = cc

none_at : (counts : BTreeMap ℕ ℕ) → IsEmpty counts → (x : ℕ) → count_at nat_cmp counts x ≡ None
none_at counts empty x = ap (λ (es : List (ℕ × ℕ)). lookup (is_at (nat_cmp x)) es) empty

pub none_noted : (counts : BTreeMap ℕ ℕ) → IsEmpty counts → AreNoted [] counts
none_noted counts empty = record { among = λ x count there. absurd (some_or_none count (sym there ∙ none_at counts empty x)); all = tt; apart = tt }

-- ---- a map with one number more
among_more : (rows : List Entry) (e : Entry) (x count : ℕ) → IsAmong rows x count → IsAmong (rows ++ e ∷ []) x count
among_more rows e x count at = search (rules, append_assoc)

pub noted_more : (rows : List Entry) (row : Row) (old new : BTreeMap ℕ ℕ) → AreNoted rows old → IsNoted row old new → AreNoted (rows ++ (row.key, row.value) ∷ []) new
noted_more rows row old new noted now = record {
  among = λ x count there. either_way (is_at (nat_cmp n) x) (IsAmong (rows ++ e ∷ []) x count)
      (λ here.
      let same : n ≡ x = tells_apart exact_unsigned n x here in
      let so : now.plan.revisions ≡ count = count_is now.plan.revisions count (sym (now_at x here) ∙ there) in
      let fits = subst (λ (k : ℕ). k < 2 ^ 64) same now.fits in
      let few = subst (λ (k : ℕ). k < 2 ^ 32) so now.count_fits in
      let plan = now.plan in let value = now.value in
      record { before = rows; row = e; after = []; whole = refl; plan = plan; value = value; is = same; fits = fits; counts = so; count_fits = few })
      (λ other. among_more rows e x count (noted.among x count (sym (now.is.2 x other) ∙ there)));
  all = all_more (HasNote new) rows e (now.plan.revisions, ap (count_at nat_cmp new) number_e ∙ now.is.1)
      (all_map (HasNote old) (HasNote new) (λ f has. either_way (is_at (nat_cmp n) (number_in f.1)) (HasNote new f)
      (λ here. (now.plan.revisions, now_at (number_in f.1) here)) (λ other. (has.0, now.is.2 (number_in f.1) other ∙ has.1))) rows noted.all);
  apart = apart_more rows e noted.apart (all_map (HasNote old) (λ (f : Entry). number_in f.1 ≡ number_in e.1 → ⊥)
      (λ f has same. some_or_none has.0 (sym has.1 ∙ ap (count_at nat_cmp old) (same ∙ number_e) ∙ now.unused)) rows noted.all);
}
  where
    e : Entry
    e = (row.key, row.value)

    n : ℕ
    n = now.plan.number

    number_e : number_in row.value ≡ n
    number_e = ap number_in now.value ∙ number_is now.plan now.fits

    now_at : (x : ℕ) → is_at (nat_cmp n) x ≡ true → count_at nat_cmp new x ≡ Some now.plan.revisions
    now_at x here = now.is.0 x ∙ ap (λ (b : Bool). cond b (Some now.plan.revisions) (count_at nat_cmp old x)) here

-- ---- rows by their numbers
some_found : (key : List ℕ) (before : List Entry) (e : Entry) (after : List Entry) → find key_cmp key (before ++ e ∷ after) ≡ None → key ≡ e.0 → ⊥
some_found key [] e after none same = no_value e.1 (sym (ap (λ (b : Bool). cond b (Some e.1) (find key_cmp key after)) (ap (eq_by_cmp key_cmp key) (sym same) ∙ itself key)) ∙ none)
some_found key (f ∷ before) e after none same = either_way (eq_by_cmp key_cmp key f.0) ⊥
    (λ here. no_value f.1 (sym (ap (λ (b : Bool). cond b (Some f.1) (find key_cmp key (before ++ e ∷ after))) here) ∙ none))
    (λ other. some_found key before e after (sym (ap (λ (b : Bool). cond b (Some f.1) (find key_cmp key (before ++ e ∷ after))) other) ∙ none) same)

found_or_later : (key value : List ℕ) (e : Entry) (es : List Entry) → find key_cmp key (e ∷ es) ≡ Some value
    → ((key ≡ e.0) × (number_in e.1 ≡ number_in value)) ⊎ (find key_cmp key es ≡ Some value)
found_or_later key value e es there = either_way (eq_by_cmp key_cmp key e.0) _
    (λ here. inl (same_key key e.0 (is_equal (key_cmp key e.0) here), ap number_in (value_is e.1 value (sym (ap (λ (b : Bool). cond b (Some e.1) (find key_cmp key es)) here) ∙ there))))
    (λ other. inr (sym (ap (λ (b : Bool). cond b (Some e.1) (find key_cmp key es)) other) ∙ there))

one_key : (a b va vb : List ℕ) (es : List Entry) → AreApart es → find key_cmp a es ≡ Some va → find key_cmp b es ≡ Some vb → number_in va ≡ number_in vb → a ≡ b
one_key a b va vb [] apart there also same = absurd (no_value va (sym there))
one_key a b va vb (e ∷ es) apart there also same = elim (found_or_later a va e es there) [
  | inl here ↦ elim (found_or_later b vb e es also) [
    | inl too ↦ here.0 ∙ sym too.0
    | inr later ↦ absurd (all_found (λ (f : Entry). number_in f.1 ≡ number_in e.1 → ⊥) b vb es apart.0 later (sym (here.1 ∙ same)))
  ]
  | inr later ↦ elim (found_or_later b vb e es also) [
    | inl here ↦ absurd (all_found (λ (f : Entry). number_in f.1 ≡ number_in e.1 → ⊥) a va es apart.0 later (same ∙ sym here.1))
    | inr both ↦ one_key a b va vb es apart.1 later both same
  ]
]

-- where these are all rows of plans, each number is that of one
pub all_apart : (m : KeyMap) (rows : List Entry) (counts : BTreeMap ℕ ℕ) → under plans_prefix (entries m) ≡ rows → AreNoted rows counts → ArePlansApart m
all_apart m rows counts all noted name other number is also = search (arith, number_is, one_key, found_among m rows name all, found_among m rows other all)

-- ---- a row whose number was noted is none of a desk's
numbered_at : (m : KeyMap) (g : GeographyModel) (name value : List ℕ) (o : Option Plan) → IsPlanAt m (Some g) name o → Has m (named name) value → IsNumbered m name (number_in value)
numbered_at m g name value None lacks has = absurd (no_value value (sym has ∙ lacks))
numbered_at m g name value (Some p) (number, plan) has =
    let bytes : plan_bytes (plan_row_of number p) ≡ value = value_is (plan_bytes (plan_row_of number p)) value (sym plan.row ∙ has) in
    let is : number_in value ≡ number = ap number_in (sym bytes) ∙ number_is (plan_row_of number p) plan.number_fits in
    record { plan = plan_row_of number p; row = plan.row; is = sym is; fits = subst (λ (n : ℕ). n < 2 ^ 64) (sym is) plan.number_fits }

no_count : (o : Option ℕ) → ((count : ℕ) → o ≡ Some count → ⊥) → o ≡ None
no_count None none = refl
no_count (Some count) none = absurd (none count refl)

pub unused : (g : GeographyModel) (m : KeyMap) (rows : List Entry) (row : Row) (all : Plans) (after : List Entry) (whole : under plans_prefix (entries m) ≡ rows ++ (row.key, row.value) ∷ after) → ArePlans g m all → (counts : BTreeMap ℕ ℕ) → AreNoted rows counts → IsUnused counts row
unused g m rows row all after whole are counts noted p fits value = no_count (count_at nat_cmp counts p.number) (λ count there.
    let e : Entry = (row.key, row.value) in
    let at = next_plan m rows e after whole in
    let among = noted.among p.number count there in
    let f = among.row in
    let whole_f : under plans_prefix (entries m) ≡ among.before ++ f ∷ (among.after ++ e ∷ after) = whole ∙ ap (λ (l : List Entry). l ++ e ∷ after) among.whole ∙ append_assoc among.before (f ∷ among.after) (e ∷ after) in
    let at_f = next_plan m among.before f (among.after ++ e ∷ after) whole_f in
    let one = numbered_at m g at.name row.value (get all at.name) (are.desk.plans at.name) (ap (get m) (sym at.key) ∙ at.there) in
    let two = numbered_at m g at_f.name f.1 (get all at_f.name) (are.desk.plans at_f.name) (ap (get m) (sym at_f.key) ∙ at_f.there) in
    let number_f : number_in f.1 ≡ p.number = ap number_in among.value ∙ number_is among.plan (subst (λ (n : ℕ). n < 2 ^ 64) (sym among.is) among.fits) ∙ among.is in
    let same : number_in f.1 ≡ number_in row.value = number_f ∙ sym (ap number_in value ∙ number_is p fits) in
    let names : at.name ≡ at_f.name = are.tidy.owned.one at.name at_f.name (number_in row.value) one (subst (IsNumbered m at_f.name) same two) in
    some_found row.key among.before f among.after (subst (λ (l : List Entry). find key_cmp row.key l ≡ None) among.whole at.new) (at.key ∙ ap (λ (n : List ℕ). key_of (named n)) names ∙ sym at_f.key))

-- where these are all rows of plans, their counts are those that were noted
pub are_counts : (m : KeyMap) (rows : List Entry) (counts : BTreeMap ℕ ℕ) → under plans_prefix (entries m) ≡ rows → AreNoted rows counts → AreCounts m counts
are_counts m rows counts all noted = record {
  are = λ number count there.
      let among = noted.among number count there in
      let at = next_plan m among.before among.row among.after (all ∙ among.whole) in
      let row = ap (get m) (sym at.key) ∙ at.there ∙ ap Some among.value in
      record { name = at.name; plan = among.plan; row = row; is = among.is; counts = among.counts; fits = among.fits; count_fits = among.count_fits };
  all = λ name number is.
      let told : number_in (plan_bytes is.plan) ≡ number = number_is is.plan (let same = is.is in let few = is.fits in omega arith) ∙ is.is in
      let found = all_found (HasNote counts) (key_of (named name)) (plan_bytes is.plan) rows noted.all (found_among m rows name all ∙ is.row) in
      (found.0, ap (count_at nat_cmp counts) (sym told) ∙ found.1);
}

pub none_counted : (m : KeyMap) (counts : BTreeMap ℕ ℕ) → IsEmpty counts → HasNoPlans m → AreCounts m counts
none_counted m counts empty none = record {
  are = λ number count there. absurd (some_or_none count (sym there ∙ none_at counts empty number));
  all = λ name number is. absurd (no_value (plan_bytes is.plan) (sym is.row ∙ none name));
}

-- what isn't noted isn't read
pub unnoted : {D : Type 0} {g : Ghosts D} (the_geography : GeographyModel) (plans : Plans) (row : Row) (counts : BTreeMap ℕ ℕ) (t : Txn) (a : Pages D g) (e : TreeError) → NoteErr row counts e → SeekErr (Unit {0}) (Says (IsFreshPlan the_geography plans counts row)) t a a e
unnoted the_geography plans row counts t a NotAStore why = λ honest m holds is. search (rules, is_kept_plan the_geography plans row m is.0 is.1.new)
unnoted the_geography plans row counts t a Memory why = tt
unnoted the_geography plans row counts t a _ why = absurd why

-- A revision with the chunks of another plan's makes the desk with it, and the rows stay tidy.
use Rattle.std.{specs.{FinMap.insert, Prelude.Contains}, proofs.Common.{Bool, ◌≡◌, ◌<◌, ◌≤◌, ◌+◌, ◌*◌, ◌^◌, ℕ, List, [], ◌∷◌, length, All, refl, sym, subst, ◌∙◌, inl, inr, arith}}
use Rattle.{std.proofs.lemmas.Bool.cases_eq, desk_model.specs.claim.Ranges.cut, desk_store_rows.specs.{Changes.plan_row_of, ForkLaws.SharesMakeDesks, NameRows.name_rows}}
use Rattle.desk_store_rows.specs.{RevisionSteps.{AddsRevision, IsDrawn}, Rows.SameTag, Shares.{CanHold, Holds, hold_all, with_shared}, Steps.{chunks_more, one_revision_more}}
use Rattle.desk_store_rows.specs.{TidyLaws.MakesRevision, claim.{Keys.{RowKey, key_of, Fits, counters, holding, named, part}, Puts.{Row, put_rows}, Rows.{KeyMap, Has}, Tidy.Tidy}}
use Rattle.desk_store_rows.{specs.{claim.Values.{plan_bytes, counters_bytes}, declared.value.StoredPlan.StoredPlan}, proofs.{Changes.other_row, HolderCounts.holder_counts_stay}}
use Rattle.desk_store_rows.proofs.{Frames.{put_is_there, put_keeps, put_keeps_tag, other_tag, tag_follows}, NameRows.{names_keep_tag, parts_put}, Puts.put_rows-append}
use Rattle.desk_store_rows.proofs.{PutAll.{IsRowOf, names_are, keeps_rows, keeps_row}, RevisionDesk.{its_chunks, revision_made}, Sharing.all_held, TidyParts.{rows_put, name_fits}}
use Rattle.desk_store_rows.proofs.TidyFree.{named_below, numbers_free}

-- only parts of one revision are put
abbrev IsPartOf : ℕ → ℕ → RowKey → Type 0
IsPartOf plan revision row = (index : ℕ) × (row ≡ part plan revision index)

module _ (m : KeyMap) (tidy : Tidy m) (name : List ℕ) (p : StoredPlan) (numbers : List ℕ) (number_fits : p.number < 2 ^ 64) (few_revisions : p.revisions + 1 < 2 ^ 32) (named_fits : Fits (named name)) (has : Has m (named name) (plan_bytes p)) (few : length numbers ≤ 128 * 2 ^ 8) (holds : Holds m (hold_all m p.number numbers) tidy.next.plan p.number numbers) where
  abbrev held : KeyMap
  held = hold_all m p.number numbers

  abbrev names : List Row
  names = name_rows p.number (p.revisions + 1) numbers

  abbrev with_parts : KeyMap
  with_parts = put_rows held names

  abbrev row_value : List ℕ
  row_value = plan_bytes (one_revision_more p)

  abbrev next_value : List ℕ
  next_value = counters_bytes (chunks_more tidy.next 0)

  abbrev with_row : KeyMap
  with_row = insert with_parts (key_of (named name)) row_value

  abbrev after : KeyMap
  after = insert with_row (key_of counters) next_value

  tag_stays : (tag : ℕ) → (tag ≡ 65 → ⊥) → (tag ≡ 80 → ⊥) → (tag ≡ 82 → ⊥) → SameTag tag held after
  tag_stays tag a b c = tag_follows tag held with_row after (tag_follows tag held with_parts with_row (names_keep_tag held p.number (p.revisions + 1) numbers tag c) (put_keeps_tag with_parts tag 80 name row_value b)) (put_keeps_tag with_row tag 65 [] next_value a)

  tag_is : (tag : ℕ) → (tag ≡ 65 → ⊥) → (tag ≡ 80 → ⊥) → (tag ≡ 82 → ⊥) → (tag ≡ 72 → ⊥) → (tag ≡ 75 → ⊥) → SameTag tag m after
  tag_is tag a b c d e = tag_follows tag m held after (holds.rest tag d e) (tag_stays tag a b c)

  parts_stay : SameTag 82 with_parts after
  parts_stay = tag_follows 82 with_parts with_row after (put_keeps_tag with_parts 82 80 name row_value (λ e. absurd (omega arith))) (put_keeps_tag with_row 82 65 [] next_value (λ e. absurd (omega arith)))

  names_all : All (IsRowOf (IsPartOf p.number (p.revisions + 1))) names
  names_all = names_are (IsPartOf p.number (p.revisions + 1)) p.number (p.revisions + 1) numbers number_fits few_revisions few (λ k. (k, refl))

  pub shares_add : AddsRevision m after tidy.new tidy.next 0 name p numbers
  shares_add = record {
    rows = rows_put with_row counters next_value tt (rows_put with_parts (named name) row_value named_fits (keeps_rows (IsPartOf p.number (p.revisions + 1)) held names names_all (holds.rows tidy.rows)));
    moved = put_is_there with_row (key_of counters) next_value;
    row = put_keeps with_row (key_of counters) next_value (key_of (named name)) (other_tag 80 65 name [] (λ e. absurd (omega arith))) ∙ put_is_there with_parts (key_of (named name)) row_value;
    others = λ other apart. search (arith, put_keeps, other_tag, other_row, names_keep_tag, p.number, p.revisions, holds.rest);
    marks = tag_is 68 (λ e. absurd (omega arith)) (λ e. absurd (omega arith)) (λ e. absurd (omega arith)) (λ e. absurd (omega arith)) (λ e. absurd (omega arith));
    starts = tag_is 76 (λ e. absurd (omega arith)) (λ e. absurd (omega arith)) (λ e. absurd (omega arith)) (λ e. absurd (omega arith)) (λ e. absurd (omega arith));
    seals = tag_is 83 (λ e. absurd (omega arith)) (λ e. absurd (omega arith)) (λ e. absurd (omega arith)) (λ e. absurd (omega arith)) (λ e. absurd (omega arith));
    loads = tag_is 103 (λ e. absurd (omega arith)) (λ e. absurd (omega arith)) (λ e. absurd (omega arith)) (λ e. absurd (omega arith)) (λ e. absurd (omega arith));
    parts = λ index less. parts_stay _ ∙ parts_put held p.number (p.revisions + 1) numbers number_fits few_revisions few
        (λ i small. holds.rest 82 (λ e. absurd (omega arith)) (λ e. absurd (omega arith)) _ ∙ (numbers_free m tidy).revisions name p number_fits (omega arith) has (p.revisions + 1) i (omega arith) (number_fits, few_revisions, small)) index less;
    other_parts = λ plan revision index fits apart. parts_stay _
        ∙ keeps_row (IsPartOf p.number (p.revisions + 1)) held names (part plan revision index) names_all fits (λ (k, same). let two : revision ≡ p.revisions + 1 = cc in apart (cc, two))
        ∙ holds.rest 82 (λ e. absurd (omega arith)) (λ e. absurd (omega arith)) _;
    pieces = λ number piece value fits given there. (let from = given.0 in let below = given.1 in absurd (omega arith));
    other_chunks = λ number piece fits apart. tag_is 107 (λ e. absurd (omega arith)) (λ e. absurd (omega arith)) (λ e. absurd (omega arith)) (λ e. absurd (omega arith)) (λ e. absurd (omega arith)) _;
    told = tag_is 86 (λ e. absurd (omega arith)) (λ e. absurd (omega arith)) (λ e. absurd (omega arith)) (λ e. absurd (omega arith)) (λ e. absurd (omega arith)) [];
    empty = λ plan number value fits there.
        let before : Has held (holding plan number) value = sym (tag_stays 72 (λ e. absurd (omega arith)) (λ e. absurd (omega arith)) (λ e. absurd (omega arith)) _) ∙ there in
        elim (cases_eq plan p.number) [
          | inl same ↦ holds.can.empty number value (number_fits, fits.1) (subst (λ (k : ℕ). Has held (holding k number) value) same before)
          | inr apart ↦ (tidy.holdings.held plan number value fits (sym (holds.others plan number fits (λ both. apart both.0)) ∙ before)).0
        ];
    holdings = λ told number among. tag_stays 72 (λ e. absurd (omega arith)) (λ e. absurd (omega arith)) (λ e. absurd (omega arith)) _ ∙ holds.held number among;
    other_holdings = λ plan number fits apart. tag_stays 72 (λ e. absurd (omega arith)) (λ e. absurd (omega arith)) (λ e. absurd (omega arith)) _ ∙ holds.others plan number fits apart;
    counted_by_holders = holder_counts_stay held after (tag_stays 72 (λ e. absurd (omega arith)) (λ e. absurd (omega arith)) (λ e. absurd (omega arith))) (tag_stays 75 (λ e. absurd (omega arith)) (λ e. absurd (omega arith)) (λ e. absurd (omega arith))) holds.can.counted_by_holders;
  }

-- a tidy map's plans can hold more
pub known_can_hold : (m : KeyMap) (tidy : Tidy m) (plan : ℕ) → plan < tidy.next.plan → CanHold m tidy.next.plan plan
known_can_hold m tidy plan known = record {
  counted_by_holders = tidy.holdings.counted_by_holders;
  below = λ other number plan_fits number_fits held. named_below m tidy other number (tidy.holdings.held other number [] (plan_fits, number_fits) held).1;
  empty = λ number value both there. (tidy.holdings.held plan number value both there).0;
  limit_fits = tidy.fits.plan_fits;
  plan_below = known;
}

pub can_hold : (m : KeyMap) (tidy : Tidy m) (name : List ℕ) (p : StoredPlan) → p.number < 2 ^ 64 → Has m (named name) (plan_bytes p) → CanHold m tidy.next.plan p.number
can_hold m tidy name p fits has = known_can_hold m tidy p.number (tidy.below.plans name p.number (record { plan = p; row = has; is = refl; fits = fits }))

pub shares_made : SharesMakeDesks
shares_made m tidy is_new source g plans name number p districts numbers is there has long room few kept =
    let row = plan_row_of number p in
    let drawn : IsDrawn m tidy.next source [] numbers (cut g districts) = search arith in
    let small : (x : ℕ) → Contains numbers x → x < 2 ^ 64 = λ x among. elim ((its_chunks m tidy.next source [] numbers (cut g districts) drawn).own x among) [
      | inl own ↦ (let less = tidy.below.named_chunks source x own in omega arith)
      | inr given ↦ (let less = given.1 in omega arith)
    ] in
    let holds : Holds m (hold_all m number numbers) tidy.next.plan number numbers = all_held m tidy.next.plan number numbers (can_hold m tidy name row has.number_fits has.row) small in
    let more : row.revisions + 1 < 2 ^ 32 = omega arith in
    let steps : with_shared m tidy.next name row numbers ≡ after m tidy name row numbers has.number_fits more (name_fits m name (plan_bytes row) tidy.rows has.row) has.row few holds =
    put_rows-append (hold_all m number numbers) (name_rows number (row.revisions + 1) numbers) ((key_of (named name), plan_bytes (one_revision_more row)) ∷ (key_of counters, counters_bytes (chunks_more tidy.next 0)) ∷ []) in
    subst (λ (new : Bool). MakesRevision g plans name p districts (chunks_more tidy.next 0) new (with_shared m tidy.next name row numbers)) is_new
    (subst (λ (n : KeyMap). MakesRevision g plans name p districts (chunks_more tidy.next 0) tidy.new n) (sym steps)
    (revision_made m (after m tidy name row numbers has.number_fits more (name_fits m name (plan_bytes row) tidy.rows has.row) has.row few holds) tidy g plans name number p districts [] numbers there has room (omega arith) source drawn
    (shares_add m tidy name row numbers has.number_fits more (name_fits m name (plan_bytes row) tidy.rows has.row) has.row few holds)
    (λ place within. absurd (omega arith)) is long))

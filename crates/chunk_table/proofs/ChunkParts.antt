-- A list is read part by part.
use Rattle.std.{specs.FinMap.get, proofs.lemmas.{Bool.cases_lt, List.{append-nil, drop_at, drop-append-le, length-drop, take-append-le, Elements.{All-append, All-nil}}}}
use Rattle.std.proofs.Common.{rules, ◌≡◌, ◌<◌, ◌≤◌, ◌+◌, ◌*◌, ◌++◌, ℕ, List, length, take, drop, Some, sym, ap, subst, ◌∙◌, inl, inr, arith, append_assoc, length-append, take_all}
use Rattle.{chunk_table.specs.{Appended.AppendsNext, Parts.{AppendsAll, AppendsPrefix, AppendsPart}}, desk_store_rows.specs.claim.{Keys.RowKey, Rows.{KeyMap, row_in}}}
use Rattle.{chunk_table.proofs.Appended.more_on, desk_store_pages.proofs.{ListParts.parts_more, Reading.one_value}}

-- ---- a part of a list that goes on
module _ (size limit : ℕ) (bytes : List ℕ → List ℕ) (row : ℕ → RowKey) (count : ℕ) (m : KeyMap) where
  pub none_read : (before : List ℕ) → AppendsPrefix size limit bytes row count 0 m before before
  none_read before = search (rules, append-nil, All-nil)

  module _ (grows : (i j : ℕ) → i < j → size * i + size ≤ size * j) (parts : ℕ) (before now after : List ℕ) (within : size * parts < count)
      (prefix : AppendsPrefix size limit bytes row count parts m before now) (next : AppendsPart size limit bytes row count parts m now after) where
    abbrev both : List ℕ
    both = prefix.xs ++ next.xs

    full : length prefix.xs ≡ size * parts
    full = let long = prefix.long in omega arith

    few : length next.xs ≤ size
    few = let long = next.long in omega arith

    each_row : (index : ℕ) → index < parts + 1 → row_in m (row index) ≡ Some (bytes (take size (drop (size * index) both)))
    each_row index less = elim (cases_lt index parts) [
      | inl earlier ↦
          let ends = grows index parts earlier in
          let long = full in
          prefix.rows index earlier ∙ ap (λ (l : List ℕ). Some (bytes l)) (sym (search (arith, length-drop, drop-append-le, take-append-le)))
      | inr not ↦
          subst (λ (i : ℕ). row_in m (row i) ≡ Some (bytes (take size (drop (size * i) both)))) (omega arith)
          (next.stands ∙ ap (λ (l : List ℕ). Some (bytes l)) (sym (ap (λ (l : List ℕ). take size l) (drop_at prefix.xs next.xs (size * parts) full) ∙ take_all size next.xs few)))
    ]

    one_part_more : AppendsPrefix size limit bytes row count (parts + 1) m before after
    one_part_more = record {
      xs = both;
      is = next.is ∙ ap (λ (l : List ℕ). l ++ next.xs) prefix.is ∙ append_assoc before prefix.xs next.xs;
      long = search (rules, length-append, full);
      each = All-append (λ (x : ℕ). x < limit) prefix.xs next.xs prefix.each next.each;
      rows = each_row;
    }

  all_read : (parts : ℕ) (before after : List ℕ) → count ≤ size * parts → ((index : ℕ) → size * index < count → index < parts)
      → AppendsPrefix size limit bytes row count parts m before after → AppendsAll size limit bytes row count m before after
  all_read parts before after end among prefix = search (arith, prefix.xs, prefix.is, prefix.long, prefix.each, prefix.rows, among)

  -- so far a list is read, of which a map says this
  abbrev pub IsReadTo : (KeyMap → List ℕ → Type 0) → ℕ → List ℕ → List ℕ → Type 0
  IsReadTo says parts before now = AppendsNext says (λ l. take (size * parts) l) before now m × AppendsPrefix size limit bytes row count parts m before now

  module _ (says : KeyMap → List ℕ → Type 0) (parts : ℕ) (before now : List ℕ) (read : IsReadTo says parts before now) where
    pub read_on : (after : List ℕ) → ((i j : ℕ) → i < j → size * i + size ≤ size * j) → size * parts < count
        → AppendsNext says (λ l. take size (drop (size * parts) l)) now after m × AppendsPart size limit bytes row count parts m now after → IsReadTo says (parts + 1) before after
    read_on after grows within next = (
      more_on says (λ l. take (size * parts) l) (λ l. take size (drop (size * parts) l)) _ before now after m (λ l said. parts_more size parts l) read.0 next.0,
      one_part_more grows parts before now after within read.1 next.1,
    )

    pub read_whole : ((l : List ℕ) → says m l → length l ≡ count) → count ≤ size * parts → ((index : ℕ) → size * index < count → index < parts)
        → AppendsNext says (λ l. l) before now m × AppendsAll size limit bytes row count m before now
    read_whole long end among = (
      λ l said. let all = long l said in read.0 l said ∙ ap (λ (xs : List ℕ). before ++ xs) (take_all (size * parts) l (omega arith)),
      all_read parts before now end among read.1,
    )

-- a key has the bytes of one part
pub one_part : {Are : List ℕ → Type 0} (bytes : List ℕ → List ℕ) → ((a b : List ℕ) → Are a → Are b → bytes a ≡ bytes b → a ≡ b) → (key value items part : List ℕ) (m : KeyMap)
    → get m key ≡ Some value → Are items × (bytes items ≡ value) → Are part × (get m key ≡ Some (bytes part)) → items ≡ part
one_part bytes differ key value items part m read told is = differ items part told.0 is.0 (told.1 ∙ one_value key value (bytes part) m read is.1)

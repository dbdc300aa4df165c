-- What stays where another row is put or removed.
use Rattle.std.specs.{Cmp.Lexicographic.nat_list_cmp_total, FinMap.{get, insert, remove, get-insert, get-remove, slice_cmp-IsAntisymmetric, nat_cmp-IsAntisymmetric}}
use Rattle.{std.{specs.{Ordering.{is_eq, eq_by_cmp}, declared.cmp.Ordering.{Ordering, TheVariants.Equal}}, proofs.lemmas.Cmp.tied_itself}, desk_model.specs.claim.Desk.{Desk, Plan}}
use Rattle.{std.proofs.Common.{◌≡◌, ℕ, Bool, true, false, cond, List, ◌∷◌, Option, Some, None, ap, ◌∙◌, arith}, desk_model.specs.claim.Geography.GeographyModel}
use Rattle.desk_store_rows.specs.{Rows.SameTag, claim.{DeskRows.{IsPlanAt, IsDesk}, GeographyRows.{IsStaged, IsGeography}, Keys.{RowKey, key_of, Fits}, Order.key_cmp}}
use Rattle.desk_store_rows.{specs.claim.{RevisionRows.{HasChunk, NamesChunks, HasRevision}, Rows.{KeyMap, row_in}}, proofs.RowLaws.keys_differ}

-- ---- one key
pub same_key : (x y : List ℕ) → key_cmp x y ≡ Equal → x ≡ y
same_key x y tied = slice_cmp-IsAntisymmetric nat_cmp-IsAntisymmetric x y tied

pub is_equal : (r : Ordering) → is_eq r ≡ true → r ≡ Equal
is_equal r h = search (arith)

pub either_way : (b : Bool) (P : Type 0) → (b ≡ true → P) → (b ≡ false → P) → P
either_way b P yes_so no_so = search (arith, yes_so, no_so)

pub differs : (x y : List ℕ) → (x ≡ y → ⊥) → eq_by_cmp key_cmp x y ≡ false
differs x y other = search (arith, either_way, same_key, is_equal)

pub itself : (x : List ℕ) → eq_by_cmp key_cmp x x ≡ true
itself x = ap is_eq (tied_itself nat_list_cmp_total x)

pub put_is_there : (m : KeyMap) (key value : List ℕ) → get (insert m key value) key ≡ Some value
put_is_there m key value = get-insert nat_list_cmp_total m key value key ∙ ap (λ b. cond b (Some value) (get m key)) (itself key)

pub put_keeps : (m : KeyMap) (key value other : List ℕ) → (other ≡ key → ⊥) → get (insert m key value) other ≡ get m other
put_keeps m key value other apart = get-insert nat_list_cmp_total m key value other ∙ ap (λ b. cond b (Some value) (get m other)) (differs other key apart)

pub removed_is_gone : (m : KeyMap) (key : List ℕ) → get (remove m key) key ≡ None
removed_is_gone m key = get-remove nat_list_cmp_total m key key ∙ ap (λ b. cond b None (get m key)) (itself key)

pub remove_keeps : (m : KeyMap) (key other : List ℕ) → (other ≡ key → ⊥) → get (remove m key) other ≡ get m other
remove_keeps m key other apart = get-remove nat_list_cmp_total m key other ∙ ap (λ b. cond b None (get m other)) (differs other key apart)

-- ---- rows with one tag, where a row with another one changes
pub other_tag : (tag other : ℕ) (rest more : List ℕ) → (tag ≡ other → ⊥) → tag ∷ rest ≡ other ∷ more → ⊥
other_tag tag other rest more apart same = apart (cc)

pub put_keeps_tag : (m : KeyMap) (tag other : ℕ) (rest value : List ℕ) → (tag ≡ other → ⊥) → SameTag tag m (insert m (other ∷ rest) value)
put_keeps_tag m tag other rest value apart more = put_keeps m (other ∷ rest) value (tag ∷ more) (other_tag tag other more rest apart)

pub remove_keeps_tag : (m : KeyMap) (tag other : ℕ) (rest : List ℕ) → (tag ≡ other → ⊥) → SameTag tag m (remove m (other ∷ rest))
remove_keeps_tag m tag other rest apart more = remove_keeps m (other ∷ rest) (tag ∷ more) (other_tag tag other more rest apart)

pub tag_follows : (tag : ℕ) (a b c : KeyMap) → SameTag tag a b → SameTag tag b c → SameTag tag a c
tag_follows tag a b c ab bc rest = bc rest ∙ ab rest

-- ---- what rests on rows with few tags stays with them
pub staged_stays : (m n : KeyMap) (load : ℕ) (g : GeographyModel) (done : ℕ) → SameTag 103 m n → IsStaged m load g done → IsStaged n load g done
staged_stays m n load g done rows staged = search (rows, staged.blocks, staged.pairs)

pub geography_stays : (m n : KeyMap) (g : Option GeographyModel) → SameTag 83 m n → SameTag 103 m n → IsGeography m g → IsGeography n g
geography_stays m n None seals rows is = seals _ ∙ is
geography_stays m n (Some g) seals rows is = (is.0, search (seals, staged_stays, is.1, rows))

pub chunk_stays : (m n : KeyMap) (number : ℕ) (districts : List ℕ) → SameTag 107 m n → HasChunk m number districts → HasChunk n number districts
chunk_stays m n number districts rows has = search (rows, has.pieces)

pub names_stay : (m n : KeyMap) (plan revision : ℕ) (numbers : List ℕ) → SameTag 82 m n → NamesChunks m plan revision numbers → NamesChunks n plan revision numbers
names_stay m n plan revision numbers rows names = search (rows, names.parts)

pub revision_stays : (m n : KeyMap) (plan revision : ℕ) (counties : List (List ℕ)) → SameTag 82 m n → SameTag 107 m n → HasRevision m plan revision counties → HasRevision n plan revision counties
revision_stays m n plan revision counties parts chunks has = search (names_stay, chunk_stays, has.chunks)

pub plan_at_stays : (m n : KeyMap) (g : Option GeographyModel) (name : List ℕ) (p : Option Plan) → SameTag 80 m n → SameTag 82 m n → SameTag 107 m n → IsPlanAt m g name p → IsPlanAt n g name p
plan_at_stays m n g name None names parts chunks is = names _ ∙ is
plan_at_stays m n None name (Some p) names parts chunks is = is
plan_at_stays m n (Some g) name (Some p) names parts chunks is = (is.0, search (names, revision_stays, is.1, is.1.revisions, parts, chunks))

-- the desk rests on the rows of plans, of parts of revisions, of chunks, of geographies and of the seal
pub desk_stays : (m n : KeyMap) (d : Desk) → SameTag 80 m n → SameTag 82 m n → SameTag 83 m n → SameTag 103 m n → SameTag 107 m n → IsDesk m d → IsDesk n d
desk_stays m n d names parts seals rows chunks is = search (geography_stays, m, n, seals, rows, is.geography, plan_at_stays, names, chunks, is.plans)

-- ---- rows of one tag, where another row of the tag changes
pub put_keeps_row : (m : KeyMap) (row : RowKey) (value : List ℕ) (other : RowKey) → Fits row → Fits other → (other ≡ row → ⊥) → row_in (insert m (key_of row) value) other ≡ row_in m other
put_keeps_row m row value other row_fits other_fits apart = put_keeps m (key_of row) value (key_of other) (λ same. apart (keys_differ other row other_fits row_fits same))

pub remove_keeps_row : (m : KeyMap) (row other : RowKey) → Fits row → Fits other → (other ≡ row → ⊥) → row_in (remove m (key_of row)) other ≡ row_in m other
remove_keeps_row m row other row_fits other_fits apart = remove_keeps m (key_of row) (key_of other) (λ same. apart (keys_differ other row other_fits row_fits same))

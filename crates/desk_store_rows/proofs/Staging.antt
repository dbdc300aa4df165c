-- Lemmas on the definitions of Staging.
use Rattle.std.{specs.{FinMap.{FinMap, insert}, List.slice_get, Prelude.option_map}, proofs.lemmas.{Bool.{cases_eq, cases_lt}, List.{take_all, take_more, Elements.All-push}}}
use Rattle.std.proofs.Common.{rules, ◌≡◌, ◌<◌, ◌≤◌, ◌+◌, ◌-◌, ◌^◌, ℕ, zero, suc, List, [], ◌∷◌, ◌++◌, length, length-take, take, All, Option, Some, None, refl, sym, ap, subst, ◌∙◌, inl, inr, arith}
use Rattle.{std.proofs.lemmas.Option.{get_or_from_slice_get, slice_get_past, slice_get_within}, desk_model.specs.claim.{Desk.{Plan, name_cmp}, Geography.GeographyModel}}
use Rattle.{desk_model.specs.{claim.GeographyModels.IsGeographyModel, declared.{block.BlockRow.BlockRow, geography.Pair.Pair}}, desk_store_rows.specs.Changes.desk_with}
use Rattle.desk_store_rows.specs.{Staging.desk_without, claim.{DeskRows.{IsPlanAt, IsDesk}, GeographyRows.{IsBlockRow, IsStaged, geography_rows, neighbours_bytes}}}
use Rattle.desk_store_rows.specs.claim.{Keys.{key_of, block, pair, seal, named}, Rows.{KeyMap, row_in, element_row}, Values.{block_bytes, seal_bytes}}
use Rattle.desk_store_rows.proofs.Frames.{put_is_there, put_keeps_row, put_keeps_tag, staged_stays}

-- ---- elements of a prefix
taken : {X : Type 0} (xs : List X) (n k : ℕ) → k < n → slice_get (take n xs) k ≡ slice_get xs k
taken xs zero k less = absurd (omega arith)
taken (x ∷ xs) (suc n) (suc k) less = taken xs n k (omega arith)
taken _ (suc n) _ less = refl

not_taken : {X : Type 0} (xs : List X) (n k : ℕ) → n ≤ k → slice_get (take n xs) k ≡ None
not_taken xs n k more = slice_get_past (take n xs) k (omega (arith, length-take n xs))

row_there : {X : Type 0} (bytes : X → List ℕ) (xs : List X) (n : ℕ) (x : X) → slice_get xs n ≡ Some x → element_row bytes (take (n + 1) xs) n ≡ Some (bytes x)
row_there bytes xs n x is = ap (option_map bytes) (taken xs (n + 1) n (omega arith) ∙ is)

row_same : {X : Type 0} (bytes : X → List ℕ) (xs : List X) (n k : ℕ) → (k ≡ n → ⊥) → element_row bytes (take n xs) k ≡ element_row bytes (take (n + 1) xs) k
row_same bytes xs n k apart = ap (option_map bytes) (sym (search (arith, cases_lt, taken, not_taken)))

-- ---- no row yet, and one row more
pub none_staged : (m : KeyMap) (load : ℕ) (g : GeographyModel) → ((place : ℕ) → place < 2 ^ 32 → row_in m (block load place) ≡ None) → ((place : ℕ) → place < 2 ^ 32 → row_in m (pair load place) ≡ None) → IsStaged m load g 0
none_staged m load g blocks pairs =
    let none : 0 - length g.blocks ≡ 0 = omega arith in
    record {
      fit = λ k d within. absurd (omega arith);
      blocks = blocks;
      pairs = λ place fits. pairs place fits ∙ sym (ap (λ n. element_row neighbours_bytes (take n g.pairs) place) none);
    }

pub block_staged : (m : KeyMap) (load : ℕ) (g : GeographyModel) (done : ℕ) (b : BlockRow) → IsStaged m load g done → load < 2 ^ 64 → done < 2 ^ 32 → slice_get g.blocks done ≡ Some b → IsBlockRow b → IsStaged (insert m (key_of (block load done)) (block_bytes b)) load g (done + 1)
block_staged m load g done b staged load_fits done_fits is fits =
    let value = block_bytes b in
    let within : done < length g.blocks = slice_get_within g.blocks done b is in
    let pairs_same : done - length g.blocks ≡ done + 1 - length g.blocks = omega arith in
    let prefix : take done g.blocks ++ b ∷ [] ≡ take (done + 1) g.blocks = sym (take_more g.blocks done b within ∙ ap (λ (x : BlockRow). take done g.blocks ++ x ∷ []) (get_or_from_slice_get g.blocks done b b is)) in
    record {
      fit = subst (λ (l : List BlockRow). All IsBlockRow l) prefix (All-push IsBlockRow (take done g.blocks) b staged.fit fits);
      blocks = λ place small. elim (cases_eq place done) [
        | inl same ↦ search (put_is_there m (key_of (block load done)) value, row_there block_bytes g.blocks done b is)
        | inr apart ↦ put_keeps_row m (block load done) value (block load place) (load_fits, done_fits) (load_fits, small) (λ e. apart (cc)) ∙ staged.blocks place small ∙ row_same block_bytes g.blocks done place apart
      ];
      pairs = λ place small. put_keeps_row m (block load done) value (pair load place) (load_fits, done_fits) (load_fits, small) (λ e. cc) ∙ staged.pairs place small ∙ ap (λ n. element_row neighbours_bytes (take n g.pairs) place) pairs_same;
    }

pub pair_staged : (m : KeyMap) (load : ℕ) (g : GeographyModel) (place : ℕ) (p : Pair) → IsStaged m load g (length g.blocks + place) → load < 2 ^ 64 → place < 2 ^ 32 → slice_get g.pairs place ≡ Some p → IsStaged (insert m (key_of (pair load place)) (neighbours_bytes p)) load g (length g.blocks + place + 1)
pair_staged m load g place p staged load_fits place_fits is =
    let value = neighbours_bytes p in
    let count = length g.blocks in
    let before : count + place - count ≡ place = omega arith in
    let after : place + 1 ≡ count + place + 1 - count = omega arith in
    let all : take (count + place) g.blocks ≡ take (count + place + 1) g.blocks = take_all (count + place) g.blocks (omega arith) ∙ sym (take_all (count + place + 1) g.blocks (omega arith)) in
    record {
      fit = subst (λ (l : List BlockRow). All IsBlockRow l) all staged.fit;
      blocks = λ other small. put_keeps_row m (pair load place) value (block load other) (load_fits, place_fits) (load_fits, small) (λ e. cc) ∙ staged.blocks other small ∙ ap (λ (l : List BlockRow). element_row block_bytes l other) all;
      pairs = λ other small. elim (cases_eq other place) [
        | inl same ↦ subst (λ k. row_in (insert m (key_of (pair load place)) value) (pair load k) ≡ element_row neighbours_bytes (take (count + place + 1 - count) g.pairs) k) (sym same)
            (put_is_there m (key_of (pair load place)) value ∙ sym (row_there neighbours_bytes g.pairs place p is) ∙ ap (λ n. element_row neighbours_bytes (take n g.pairs) place) after)
        | inr apart ↦ put_keeps_row m (pair load place) value (pair load other) (load_fits, place_fits) (load_fits, small) (λ e. apart (cc)) ∙ staged.pairs other small
            ∙ ap (λ n. element_row neighbours_bytes (take n g.pairs) other) before ∙ row_same neighbours_bytes g.pairs place other apart ∙ ap (λ n. element_row neighbours_bytes (take n g.pairs) other) after
      ];
    }

-- ---- the desk
seen_at : (m n : KeyMap) (g : Option GeographyModel) (name : List ℕ) (p : Option Plan) → row_in n (named name) ≡ row_in m (named name) → IsPlanAt m None name p → IsPlanAt n g name p
seen_at m n g name p same is = search (arith)

-- a row of a load that isn't sealed is no part of the desk
pub staged_unseen : (m : KeyMap) (plans : FinMap name_cmp Plan) (rest value : List ℕ) → IsDesk m (desk_without plans) → IsDesk (insert m (103 ∷ rest) value) (desk_without plans)
staged_unseen m plans rest value is = search (rules, put_keeps_tag, seen_at)

-- once it is sealed, it is the desk's geography
pub load_sealed : (m : KeyMap) (plans : FinMap name_cmp Plan) (load : ℕ) (g : GeographyModel) → IsDesk m (desk_without plans) → IsStaged m load g (geography_rows g) → IsGeographyModel g → load < 2 ^ 64 → length g.pairs < 2 ^ 32
    → IsDesk (insert m (key_of seal) (seal_bytes (record { load = load; blocks = length g.blocks; pairs = length g.pairs }))) (desk_with g plans)
load_sealed m plans load g is staged sound load_fits pairs_fit = search (rules, put_keeps_tag, put_is_there, staged_stays, seen_at)

-- Lemmas on the definitions of Staging.
use Rattle.{std.specs.{List.slice_get, Prelude.{◌≡◌, ◌<◌, ◌≤◌, ◌+◌, ◌-◌, ◌^◌, ℕ, List, [], ◌∷◌, length, Some, option_map, cond, get_or}}, geo_tables.specs.Staging.Stages}
use Rattle.{std.proofs.{Common.{zero, suc, refl, sym, ap, subst, inl, inr, arith}, lemmas.Bool.{cases_lt, lt-ltb, le-ltb}}, desk_model.specs.claim.Geography.GeographyModel}
use Rattle.{std.proofs.lemmas.Option.{slice_get_within, slice_get_read, slice_get-get_or}, desk_model.specs.declared.{block.BlockRow.BlockRow, geography.Pair.Pair}}
use Rattle.desk_store_rows.specs.claim.{GeographyRows.{IsBlockRow, IsStaged, geography_rows, neighbours_bytes}, Keys.{key_of, block, pair}, Puts.{Row, put_rows}}
use Rattle.{desk_store_rows.specs.claim.{Rows.{KeyMap, element_row}, Values.block_bytes}, geo_tables.specs.Rows.{bytes_in, block_at, pair_at, staged_row, staged_rows}}
use Rattle.desk_store_rows.proofs.{Puts.put_rows-append, Staging.{block_staged, pair_staged}}

-- the block at a place, where there is one, fits in its row
abbrev pub FitsAt : GeographyModel → ℕ → Type 0
FitsAt g place = (b : BlockRow) → slice_get g.blocks place ≡ Some b → IsBlockRow b

-- an element is there below the length
pub there : {X : Type 0} (xs : List X) (place : ℕ) → place < length xs → (x : X) × (slice_get xs place ≡ Some x)
there [] place less = absurd (omega arith)
there (x ∷ xs) zero less = (x, refl)
there (x ∷ xs) (suc place) less = there xs place (omega arith)

bytes_there : {X : Type 0} (bytes : X → List ℕ) (xs : List X) (place : ℕ) (x : X) → slice_get xs place ≡ Some x → bytes_in (element_row bytes xs place) ≡ bytes x
bytes_there bytes xs place x is = ap (λ o. bytes_in (option_map bytes o)) is

-- which row it is
pub is_block : (load : ℕ) (g : GeographyModel) (place : ℕ) → place < length g.blocks → staged_row load g place ≡ block_at load g place
is_block load g place less = ap (λ b. cond b (block_at load g place) (pair_at load g (place - length g.blocks))) (lt-ltb place (length g.blocks) less)

pub is_pair : (load : ℕ) (g : GeographyModel) (place : ℕ) → length g.blocks ≤ place → staged_row load g place ≡ pair_at load g (place - length g.blocks)
is_pair load g place more = ap (λ b. cond b (block_at load g place) (pair_at load g (place - length g.blocks))) (le-ltb place (length g.blocks) more)

-- one row more
pub row_more : (m : KeyMap) (load : ℕ) (g : GeographyModel) (done : ℕ) → load < 2 ^ 64 → length g.blocks ≤ 2 ^ 32 → length g.pairs ≤ 2 ^ 32 → FitsAt g done → done < geography_rows g → IsStaged m load g done → IsStaged (put_rows m (staged_row load g done ∷ [])) load g (done + 1)
row_more m load g done load_fits blocks_few pairs_few fits left staged = elim (cases_lt done (length g.blocks)) [
  | inl less ↦
      let here = there g.blocks done less in
      rw (is_block load g done less, bytes_there block_bytes g.blocks done here.0 here.1) (block_staged m load g done here.0 staged load_fits (omega arith) here.1 (fits here.0 here.1))
  | inr more ↦
      let place = done - length g.blocks in
      let whole : length g.blocks + place ≡ done = omega arith in
      let here = there g.pairs place (omega arith) in
      rw (is_pair load g done more, bytes_there neighbours_bytes g.pairs place here.0 here.1)
      (subst (λ (n : ℕ). IsStaged (put_rows m ((key_of (pair load place), neighbours_bytes here.0) ∷ [])) load g (n + 1)) whole
      (pair_staged m load g place here.0 (subst (λ (n : ℕ). IsStaged m load g n) (sym whole) staged) load_fits (omega arith) here.1))
]

pub none_stage : (load : ℕ) (g : GeographyModel) (done : ℕ) → Stages load g done 0
none_stage load g done m staged = subst (λ (n : ℕ). IsStaged m load g n) (omega arith) staged

pub more_stage : (load : ℕ) (g : GeographyModel) (done k : ℕ) → Stages load g done k → ((m : KeyMap) → IsStaged m load g (done + k) → IsStaged (put_rows m (staged_row load g (done + k) ∷ [])) load g (done + k + 1)) → Stages load g done (k + 1)
more_stage load g done k before here m staged =
    let last : done + k + 1 ≡ done + suc k = omega arith in
    let half = put_rows m (staged_rows load g done k) in
    subst (λ (n : ℕ). IsStaged (put_rows m (staged_rows load g done n)) load g (done + n)) (omega arith)
    (subst (λ (n : KeyMap). IsStaged n load g (done + suc k)) (sym (put_rows-append m (staged_rows load g done k) (staged_row load g (done + k) ∷ [])))
    (subst (λ (n : ℕ). IsStaged (put_rows half (staged_row load g (done + k) ∷ [])) load g n) last (here half (before m staged))))

-- ---- the row of an element that was read
pub read_at : {X : Type 0} (xs ys : List X) (place : ℕ) (x : X) → xs ≡ ys → place < length xs → x ≡ get_or xs place x → slice_get ys place ≡ Some x
read_at {X = X} xs ys place x same less is = subst (λ (l : List X). slice_get l place ≡ Some x) same (slice_get_read xs (length xs) place x refl less is)

pub had_at : {X : Type 0} (xs ys : List X) (place : ℕ) (d : X) → xs ≡ ys → place < length xs → slice_get ys place ≡ Some (get_or xs place d)
had_at {X = X} xs ys place d same less = subst (λ (l : List X). slice_get l place ≡ Some (get_or xs place d)) same (slice_get-get_or xs place d less)

pub block_is : (load : ℕ) (g : GeographyModel) (place : ℕ) (b : BlockRow) → slice_get g.blocks place ≡ Some b → ◌≡◌ {A = Row} (key_of (block load place), block_bytes b) (staged_row load g place)
block_is load g place b is = search (arith, slice_get_within, g.blocks, is_block, bytes_there)

pub pair_is : (load : ℕ) (g : GeographyModel) (place after : ℕ) (p : Pair) → length g.blocks + after ≡ place → slice_get g.pairs after ≡ Some p → ◌≡◌ {A = Row} (key_of (pair load after), neighbours_bytes p) (staged_row load g place)
pair_is load g place after p whole is = search (arith, g.blocks, is_pair, bytes_there, g.pairs)

-- a block that was read fits, where its numbers do; after the blocks there is none
pub fits_here : (g : GeographyModel) (place : ℕ) (b : BlockRow) → slice_get g.blocks place ≡ Some b → IsBlockRow b → FitsAt g place
fits_here g place b is fits c other = subst IsBlockRow (cc) fits

pub no_block : (g : GeographyModel) (place : ℕ) → length g.blocks ≤ place → FitsAt g place
no_block g place more b is = let less : place < length g.blocks = slice_get_within g.blocks place b is in absurd (omega arith)

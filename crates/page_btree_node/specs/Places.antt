-- What no promise rests on, beside claim/Places.antt.
use Rattle.std.specs.{List.filter, Ordering.is_gt, Prelude.{◌≡◌, ◌≤◌, ◌<◌, ℕ, Bool, true, false, List, [], ◌∷◌, length, Option, Some, None, cond}}
use Rattle.{std.specs.declared.cmp.Ordering.TheVariants.{Less, Greater}, page_btree_node.specs.{Entries.key_at, claim.{Entries.Entry, Places.key_cmp}}}

-- the key stands at this place
pub record IsFound (key : List ℕ) (es : List Entry) (i : ℕ) : Type 0 where
  pub within : i < length es
  pub here : key_at es i ≡ key
  pub below : (j : ℕ) → j < i → key_cmp (key_at es j) key ≡ Less
  pub above : (j : ℕ) → i < j → j < length es → key_cmp (key_at es j) key ≡ Greater

-- it stands nowhere, and this is its place
pub record IsGap (key : List ℕ) (es : List Entry) (i : ℕ) : Type 0 where
  pub within : i ≤ length es
  pub below : (j : ℕ) → j < i → key_cmp (key_at es j) key ≡ Less
  pub above : (j : ℕ) → i ≤ j → j < length es → key_cmp (key_at es j) key ≡ Greater

-- the value of the last entry whose key isn't above this one, or the last that was known
abbrev pub floor_from : Option (List ℕ) → List ℕ → List Entry → Option (List ℕ)
floor_from last key [] = last
floor_from last key (e ∷ es) = cond (is_gt (key_cmp e.0 key)) last (floor_from (Some e.1) key es)

-- the same, where the first entry's key says nothing
abbrev pub floor : List ℕ → List Entry → Option (List ℕ)
floor key [] = None
floor key (e ∷ es) = floor_from (Some e.1) key es

-- the first key that is above this one, or none
abbrev pub ceiling_from : List ℕ → List Entry → Option (List ℕ)
ceiling_from key [] = None
ceiling_from key (e ∷ es) = cond (is_gt (key_cmp e.0 key)) (Some e.0) (ceiling_from key es)

-- the same, where the first entry's key says nothing
abbrev pub ceiling : List ℕ → List Entry → Option (List ℕ)
ceiling key [] = None
ceiling key (e ∷ es) = ceiling_from key es

-- the entries from a key on
abbrev pub is_from : List ℕ → Entry → Bool
is_from key e = cond (is_gt (key_cmp key e.0)) false true

abbrev pub entries_from : List ℕ → List Entry → List Entry
entries_from key es = filter (is_from key) es

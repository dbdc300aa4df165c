-- Where a look-up begins.
use Rattle.std.{specs.{FinMap.{find, get, get-entries}, Prelude.None}, proofs.Common.{rules, ◌≡◌, ◌≢◌, ⊎_elim, ℕ, List, [], ◌∷◌, refl, sym, ap, subst, ◌∙◌, arith}}
use Rattle.page_btree_gets.specs.{Getting.{CanGet, IsLevel}, claim.{Keys.{KeyMap, IsBetween}, Map.{IsRooted, Holds}, Tree.{IsTree, page_of, rows}}}
use Rattle.{page_btree_node.specs.claim.{Node.{Node, IsNode}, Places.key_cmp}, sector_device.specs.claim.Disk.Image, page_btree_gets.proofs.Descent.{node_of, owns_page}}

pub every_key : (key : List ℕ) → IsBetween [] None key
every_key [] = record { from = refl; under = tt }
every_key (k ∷ ks) = record { from = refl; under = tt }

-- pages that hold a map, at whose root a tree stands
pub rooted : (n : ℕ) (P : Image) (root : ℕ) (free : List ℕ) (m : KeyMap) → Holds n P root free m → root ≢ 0 → IsRooted n P root free m
rooted n P root free m holds some = ⊎_elim (λ bare. absurd (some bare.root_is)) (λ r. r) holds.held

-- no root: a map without rows
pub no_root : (n : ℕ) (P : Image) (root : ℕ) (free : List ℕ) (m : KeyMap) (key : List ℕ) → Holds n P root free m → root ≡ 0 → get m key ≡ None
no_root n P root free m key holds none = get-entries m key ∙ ap (find key_cmp key) (⊎_elim
    (λ bare. bare.none)
    (λ r. let some = (r.sound.below (page_of r.tree) (owns_page r.tree)).0 in let there = r.root_is in absurd (omega arith))
    holds.held)

-- the level that the root's page says
pub level_there : (n : ℕ) (P : Image) (root : ℕ) (free : List ℕ) (m : KeyMap) (r : IsRooted n P root free m) (bytes : List ℕ) (level : ℕ) → bytes ≡ P root → ((node : Node) → IsNode bytes node → level ≡ node.level) → level ≡ r.level
level_there n P root free m r bytes level there told = search (rules, node_of)

abbrev pub can_get : (n : ℕ) (P : Image) (root : ℕ) (free : List ℕ) (m : KeyMap) (r : IsRooted n P root free m) (key bytes : List ℕ) (level : ℕ) → bytes ≡ P root → level ≡ r.level → CanGet n P level key bytes
can_get n P root free m r key bytes level there same = record {
  tree = r.tree;
  low = [];
  high = None;
  tree_is = subst (λ d. IsTree P d [] None r.tree) (sym same) r.stands;
  page_is = there ∙ ap P (sym r.root_is);
  below = λ q own. (r.sound.below q own).1;
  between = every_key key;
}

-- as its bytes were lent
pub level_lent : (n : ℕ) (P : Image) (root : ℕ) (free : List ℕ) (m : KeyMap) (r : IsRooted n P root free m) (p level : ℕ) {bytes : List ℕ} → p ≡ root → bytes ≡ P p → ((node : Node) → IsNode bytes node → level ≡ node.level) → level ≡ r.level
level_lent n P root free m r p level {bytes} same there told = level_there n P root free m r bytes level (there ∙ ap P same) told

abbrev pub top : (n : ℕ) (P : Image) (root : ℕ) (free : List ℕ) (m : KeyMap) (r : IsRooted n P root free m) (key : List ℕ) (p level : ℕ) {bytes : List ℕ} → p ≡ root → bytes ≡ P p → ((node : Node) → IsNode bytes node → level ≡ node.level) → CanGet n P level key (P p)
top n P root free m r key p level same there told = can_get n P root free m r key (P p) level (ap P same) (level_lent n P root free m r p level same there told)

pub found_rows : (n : ℕ) (P : Image) (root : ℕ) (free : List ℕ) (m : KeyMap) (r : IsRooted n P root free m) (key : List ℕ) → find key_cmp key (rows r.tree) ≡ get m key
found_rows n P root free m r key = ap (find key_cmp key) r.rows_are ∙ sym (get-entries m key)

-- the root's page, as one of its level
pub at_root : (n : ℕ) (P : Image) (root : ℕ) (free : List ℕ) (m : KeyMap) (r : IsRooted n P root free m) (level : ℕ) → level ≡ r.level → IsLevel n P level root
at_root n P root free m r level same = search (arith, node_of P r.level [] None r.tree r.stands, owns_page r.tree)

-- The leaf that a key belongs to, told above.
use Rattle.{std.proofs.Common.{rules, ◌≡◌, ◌≢◌, ◌<◌, ◌≤◌, ◌-◌, ◌^◌, ℕ, zero, suc, List, refl, sym, subst, arith}, page_btree_gets.specs.Getting.{CanGet, IsChild}}
use Rattle.{page_btree_gets.specs.{Leading.{LeadsTo, CanLead}, claim.{Keys.KeyMap, Map.Holds}}, page_btree_node.specs.claim.{Entries.Entry, Node.IsNode, Places.Rises}}
use Rattle.{sector_device.specs.claim.Disk.Image, page_btree_gets.proofs.{Descent.{leaf_page, goes_on}, Tops.{rooted, can_get, at_root}}}

pub leads_none : (P : Image) (d page : ℕ) (key : List ℕ) → d ≡ 0 → LeadsTo P d page key page
leads_none P d page key none = subst (λ d. LeadsTo P d page key page) (sym none) refl

pub leads_more : (P : Image) (d page : ℕ) (key : List ℕ) (leaf child : ℕ) → 0 < d → IsChild (P page) key child → LeadsTo P (d - 1) child key leaf → LeadsTo P d page key leaf
leads_more P zero page key leaf child some told rest = absurd (omega arith)
leads_more P (suc d) page key leaf child some told rest = (child, told, subst (λ d. LeadsTo P d child key leaf) (omega arith) rest)

-- the leaf is one
pub leads_leaf : (n : ℕ) (P : Image) (d : ℕ) (key : List ℕ) (page leaf : ℕ) → n ≤ 2 ^ 32 → CanGet n P d key (P page) → LeadsTo P d page key leaf → (es : List Entry) × IsNode (P leaf) (record { level = 0; entries = es }) × Rises es
leads_leaf n P zero key page leaf few can is = search (rules, leaf_page)
leads_leaf n P (suc d) key page leaf few can (child, told, rest) =
    let go = goes_on n P (suc d) key (P page) can child (omega arith) few told in
    leads_leaf n P d key child leaf few (subst (λ k. CanGet n P k key (P child)) (omega arith) (go.next (P child) refl)) rest

pub can_lead : (n : ℕ) (P : Image) (root : ℕ) (free : List ℕ) (m : KeyMap) (key : List ℕ) → Holds n P root free m → root ≢ 0 → CanLead n P key root
can_lead n P root free m key holds some = search (rooted n P root free m holds some, can_get, at_root)

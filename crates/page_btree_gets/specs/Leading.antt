-- The way from a page down to the leaf that a key belongs to.
use Rattle.std.{specs.Prelude.{◌≡◌, ◌≤◌, ℕ, List, Option, Some, None, cond}, proofs.Common.{zero, suc}}
use Rattle.{page_btree_gets.specs.{Getting.{CanGetAt, IsChild}, claim.Keys.IsBetween, declared.reach.Reach.Reach}, sector_device.specs.claim.Disk.Image}

-- from each node to the child that the key belongs to
abbrev pub LeadsTo : Image → ℕ → ℕ → List ℕ → ℕ → Type 0
LeadsTo P zero page key leaf = leaf ≡ page
LeadsTo P (suc d) page key leaf = (child : ℕ) × IsChild (P page) key child × LeadsTo P d child key leaf

-- a tree of at most six levels stands at the page, whose range has the key
abbrev pub CanLead : ℕ → Image → List ℕ → ℕ → Type 0
CanLead n P key page = (d : ℕ) × (d ≤ 5) × CanGetAt n P d key page

-- the key from which on keys belong to other leaves, if there are some
abbrev pub end_of : Reach → Option (List ℕ)
end_of reach = cond reach.bounded (Some reach.bound) None

-- each key between two bounds belongs to the leaf
abbrev pub LeadsAll : Image → ℕ → ℕ → List ℕ → Option (List ℕ) → ℕ → Type 0
LeadsAll P d page low high leaf = (key : List ℕ) → IsBetween low high key → LeadsTo P d page key leaf

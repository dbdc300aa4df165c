-- Keys that begin with a prefix, in the order of keys.
use Rattle.std.{specs.{List.{filter, starts_with, AllByRecursion}, Ordering.is_gt}, proofs.Common.{◌≡◌, ℕ, List, Bool, true, false, nat_eq}}
use Rattle.page_btree.specs.node.claim.{Entries.Entry, Places.key_cmp}

-- the rows whose keys begin with a prefix
abbrev pub is_under : List ℕ → Entry → Bool
is_under prefix e = starts_with nat_eq e.0 prefix

abbrev pub under : List ℕ → List Entry → List Entry
under prefix es = filter (is_under prefix) es

-- none from a key on is below it
abbrev pub AllFrom : List ℕ → List Entry → Type 0
AllFrom key es = AllByRecursion (λ e. is_gt (key_cmp key e.0) ≡ false) es

-- ---- a leaf whose rows are all under the prefix
-- each of these is
abbrev pub AllUnder : List ℕ → List Entry → Type 0
AllUnder prefix es = AllByRecursion (λ e. is_under prefix e ≡ true) es

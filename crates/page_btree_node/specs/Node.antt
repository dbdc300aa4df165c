-- What no promise rests on, beside claim/Node.antt.
use Rattle.std.specs.Prelude.{◌-◌, ◌/◌, ◌%◌, ℕ, List, ◌∷◌, ◌++◌, length, replicate}
use Rattle.page_btree_node.specs.claim.{Entries.{body_of, size_of}, Node.Node}

-- the page that is written for it
abbrev pub bytes_of : Node → List ℕ
bytes_of node = node.level ∷ 0 ∷ length node.entries / 256 ∷ length node.entries % 256
    ∷ (body_of node.entries ++ replicate (4092 - size_of node.entries) 0)

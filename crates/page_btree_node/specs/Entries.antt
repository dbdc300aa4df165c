-- What no promise rests on, beside claim/Entries.antt.
use Rattle.std.{specs.{Int.{w32, from_be_bytes}, Prelude.{◌+◌, ◌*◌, ℕ, List, [], ◌∷◌, take, drop}}, proofs.Common.{get_or, zero, suc}}
use Rattle.page_btree_node.specs.claim.Entries.{Entry}

-- the key and the value at a place
abbrev pub key_at : List Entry → ℕ → List ℕ
key_at es i = (get_or es i ([], [])).0

abbrev pub value_at : List Entry → ℕ → List ℕ
value_at es i = (get_or es i ([], [])).1

-- the first entry of bytes, and what follows it
abbrev pub key_length : List ℕ → ℕ
key_length bytes = get_or bytes 0 0

abbrev pub value_length : List ℕ → ℕ
value_length bytes = 256 * get_or bytes 1 0 + get_or bytes 2 0

abbrev pub first_of : List ℕ → Entry
first_of bytes = (take (key_length bytes) (drop 3 bytes), take (value_length bytes) (drop (3 + key_length bytes) bytes))

abbrev pub after : List ℕ → List ℕ
after bytes = drop (3 + key_length bytes + value_length bytes) bytes

-- so many entries, read from bytes
abbrev pub read_from : ℕ → List ℕ → List Entry
read_from zero bytes = []
read_from (suc count) bytes = first_of bytes ∷ read_from count (after bytes)

abbrev pub child_in : List ℕ → ℕ
child_in value = from_be_bytes w32 value

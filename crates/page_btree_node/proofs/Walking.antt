-- Lemmas on the definitions of Walking.
use Rattle.std.proofs.{Common.{rules, ◌≡◌, ℕ, ◌+◌, List, ◌∷◌, ◌++◌, length, take, drop, sym, ap, ◌∙◌, arith, suc, append_assoc, take-append-drop}, lemmas.List.Elements.All-drop}
use Rattle.{std.proofs.lemmas.List.{drop_at, drop-drop, drop-take}, page_btree_node.specs.{Bytes.{LiesAt, LiesNot}, Entries.{first_of, key_length, value_length}}}
use Rattle.page_btree_node.specs.{Walking.{IsAhead, part_of}, claim.{Entries.{Entry, IsEntry, entry_bytes, entry_size, body_of, size_of}, Node.{Node, IsNode}}}
use Rattle.page_btree_node.proofs.{EntryLists.{length-entry, value_length-entry, first-entry, size-parts, rest_at}, Scanning.{key_there, value_there}}

-- an entry lies there, and others are ahead after it
pub record IsTaken (page : List ℕ) (at value end : ℕ) (e : Entry) (es : List Entry) : Type 0 where
  pub key_is : part_of page (at + 3) value ≡ e.0
  pub value_is : part_of page value end ≡ e.1
  pub rest : IsAhead page end es

-- a node's own stand ahead at its page's first
pub node_ahead : (page : List ℕ) (node : Node) → IsNode page node → IsAhead page 4 node.entries
node_ahead page node is = record { body = is.body; entries = is.shape.entries; within = let fits = is.fits in omega arith }

-- and the others after the first of them
pub node_ahead_at : (page : List ℕ) (node : Node) (k at : ℕ) → IsNode page node → at ≡ 4 + size_of (take k node.entries) → IsAhead page at (drop k node.entries)
node_ahead_at page node k at is place = record {
  body = search (drop-drop (size_of (take k node.entries)) 4 page, rest_at k node.entries (drop 4 page) is.body);
  entries = All-drop IsEntry k node.entries is.shape.entries;
  within = let fits = is.fits in let parts = size-parts k node.entries in omega arith;
}

record Begins (bytes : List ℕ) (e : Entry) : Type 0 where
  rest : List ℕ
  bytes_are : bytes ≡ entry_bytes e ++ rest

begins : (page : List ℕ) (at : ℕ) (e : Entry) (es : List Entry) → IsAhead page at (e ∷ es) → Begins (drop at page) e
begins page at e es is = search (rules, take-append-drop (size_of (e ∷ es)) (drop at page), append_assoc (entry_bytes e) (body_of es) (drop (size_of (e ∷ es)) (drop at page)))

key_long : (page : List ℕ) (at : ℕ) (e : Entry) → Begins (drop at page) e → key_length (drop at page) ≡ length e.0
key_long page at e b = ap key_length b.bytes_are

value_long : (page : List ℕ) (at : ℕ) (e : Entry) → Begins (drop at page) e → value_length (drop at page) ≡ length e.1
value_long page at e b = ap value_length b.bytes_are ∙ value_length-entry e b.rest

-- the lengths of the first of those that are ahead stand there
pub ahead_lengths : (page : List ℕ) (at : ℕ) (e : Entry) (es : List Entry) → IsAhead page at (e ∷ es) → (key_length (drop at page) ≡ length e.0) × (value_length (drop at page) ≡ length e.1)
ahead_lengths page at e es is = let b = begins page at e es is in (key_long page at e b, value_long page at e b)

-- one that is ahead is found to lie there
pub ahead_lies : (page : List ℕ) (at : ℕ) (e : Entry) (es : List Entry) → IsAhead page at (e ∷ es) → LiesNot page at → ⊥
ahead_lies page at e es is not_there = search (rules, begins)

-- and where it ends the next one is ahead
pub ahead_next : (page : List ℕ) (at value end : ℕ) (e : Entry) (es : List Entry) → IsAhead page at (e ∷ es) → LiesAt page at value end → IsTaken page at value end e es
ahead_next page at value end e es is lies =
    let b = begins page at e es is in
    let key = key_long page at e b in
    let wide = value_long page at e b in
    let value_is = lies.value_is in
    let first : first_of (drop at page) ≡ e = ap first_of b.bytes_are ∙ first-entry e b.rest in
    let within = is.within in
    record {
      key_is = key_there page at value end lies ∙ ap (λ (f : Entry). f.0) first;
      value_is = value_there page at value end lies ∙ ap (λ (f : Entry). f.1) first;
      rest = record {
        body = ap (λ n. take (size_of es) (drop n page)) (omega arith)
            ∙ ap (take (size_of es)) (sym (drop-drop (entry_size e) at page))
            ∙ sym (drop-take (entry_size e) (size_of es) (drop at page))
            ∙ ap (drop (entry_size e)) is.body
            ∙ drop_at (entry_bytes e) (body_of es) (entry_size e) (length-entry e);
        entries = λ k d less. is.entries (suc k) d (omega arith);
        within = omega arith;
      };
    }

-- Entries that are passed over.
use Rattle.std.proofs.Common.{rules, ◌≡◌, ℕ, ◌+◌, ◌*◌, ◌/◌, ◌%◌, ◌<◌, ◌≤◌, List, [], ◌∷◌, length, take, drop, sym, ap, ◌∙◌, subst, arith, true, nat_eq, true-eqb}
use Rattle.{std.proofs.{Math.Seq.take-add, lemmas.{Bool.and_parts, List.{drop-drop, length-drop, Elements.All-drop}}}, page_btree_node.specs.Bytes.{LiesAt, LiesNot}}
use Rattle.page_btree_node.specs.{Entries.{key_length, value_length}, Walking.{IsAhead, PassesTo}, claim.{Entries.{Entry, IsEntry, size_of}, Node.{Node, IsNode}}}
use Rattle.page_btree_node.proofs.{EntryLists.{size-parts, size-append, rest_at}, Walking.{ahead_lies, ahead_lengths, node_ahead_at}}
use mathlib.Core.Bool.{◌&&◌}

-- after some of those that stand ahead the others do
ahead_at : (page : List ℕ) (at n : ℕ) (es : List Entry) → IsAhead page at es → IsAhead page (at + size_of (take n es)) (drop n es)
ahead_at page at n es is = search (arith, drop-drop (size_of (take n es)) at page, rest_at n es (drop at page) is.body, All-drop IsEntry n es is.entries, size-parts n es)

taken_more : (m n : ℕ) (es : List Entry) → size_of (take (m + n) es) ≡ size_of (take m es) + size_of (take n (drop m es))
taken_more m n es = ap size_of (take-add m n es) ∙ size-append (take m es) (take n (drop m es))

pub passes_none : (page : List ℕ) (at : ℕ) → PassesTo page at 0 at
passes_none page at es is long = omega arith

-- some and then others
pub passes_both : (page : List ℕ) (at mid end m n : ℕ) → PassesTo page at m mid → PassesTo page mid n end → PassesTo page at (m + n) end
passes_both page at mid end m n first then es is long =
    let left = length-drop m es in
    let rest : IsAhead page mid (drop m es) = subst (λ (place : ℕ). IsAhead page place (drop m es)) (sym (first es is (omega arith))) (ahead_at page at m es is) in
    omega (arith, taken_more m n es)

-- the first three bytes of an entry as a number
abbrev pub head_of : List ℕ → ℕ → ℕ
head_of page at = 65536 * key_length (drop at page) + value_length (drop at page)

-- one that has this head
pub passes_alike : (page : List ℕ) (at head size : ℕ) → size ≡ 3 + head / 65536 + head % 65536 → head_of page at ≡ head → PassesTo page at 1 (at + size)
passes_alike page at head size size_is alike [] is long = absurd (omega arith)
passes_alike page at head size size_is alike (e ∷ es) is long = search (rules, ahead_lengths)

pub passes_four : (page : List ℕ) (at head size a b c d : ℕ) → size ≡ 3 + head / 65536 + head % 65536
    → a ≡ head_of page at → b ≡ head_of page (at + size) → c ≡ head_of page (at + 2 * size) → d ≡ head_of page (at + 3 * size)
    → (((nat_eq a head && nat_eq b head) && nat_eq c head) && nat_eq d head) ≡ true → PassesTo page at 4 (at + 4 * size)
passes_four page at head size a b c d size_is a_is b_is c_is d_is all =
    let three = and_parts ((nat_eq a head && nat_eq b head) && nat_eq c head) (nat_eq d head) all in
    let two = and_parts (nat_eq a head && nat_eq b head) (nat_eq c head) three.0 in
    let one = and_parts (nat_eq a head) (nat_eq b head) two.0 in
    let alike : (at : ℕ) (n : ℕ) → n ≡ head_of page at → nat_eq n head ≡ true → PassesTo page at 1 (at + size) = λ at n is same. passes_alike page at head size size_is (sym is ∙ true-eqb n head (sym same)) in
    let second : at + size + size ≡ at + 2 * size = omega arith in
    let third : at + 2 * size + size ≡ at + 3 * size = omega arith in
    let first_two = passes_both page at (at + size) (at + size + size) 1 1 (alike at a a_is one.0) (alike (at + size) b b_is one.1) in
    let first_three = passes_both page at (at + 2 * size) (at + 2 * size + size) 2 1 (subst (λ (end : ℕ). PassesTo page at 2 end) second first_two) (alike (at + 2 * size) c c_is two.1) in
    let all_four = passes_both page at (at + 3 * size) (at + 3 * size + size) 3 1 (subst (λ (end : ℕ). PassesTo page at 3 end) third first_three) (alike (at + 3 * size) d d_is three.1) in
    subst (λ (end : ℕ). PassesTo page at 4 end) (omega arith) all_four

-- one that is found to lie there
pub passes_found : (page : List ℕ) (at value end : ℕ) → LiesAt page at value end → PassesTo page at 1 end
passes_found page at value end lies [] is long = absurd (omega arith)
passes_found page at value end lies (e ∷ es) is long = search (rules, ahead_lengths)

pub passes_not : (page : List ℕ) (at mid k : ℕ) (es : List Entry) → PassesTo page at k mid → IsAhead page at es → k < length es → LiesNot page mid → ⊥
passes_not page at mid k es passed is long not_there = search (arith, length-drop k es, first_lies, ahead_at page at k es is)
  where
    first_lies : (rest : List Entry) → IsAhead page mid rest → 0 < length rest → ⊥
    first_lies [] ahead some = absurd (omega arith)
    first_lies (e ∷ rest) ahead some = ahead_lies page mid e rest ahead not_there

-- from an entry of a node on
pub node_passed : (page : List ℕ) (node : Node) (k at n end : ℕ) → IsNode page node → at ≡ 4 + size_of (take k node.entries) → k + n ≤ length node.entries → PassesTo page at n end → end ≡ 4 + size_of (take (k + n) node.entries)
node_passed page node k at n end is place long passed = search (rules, length-drop, node_ahead_at, taken_more)

pub node_passed_not : (page : List ℕ) (node : Node) (k at n : ℕ) → IsNode page node → at ≡ 4 + size_of (take k node.entries) → k + n ≤ length node.entries → ((es : List Entry) → IsAhead page at es → n ≤ length es → ⊥) → ⊥
node_passed_not page node k at n is place long none = search (arith, length-drop k node.entries, node_ahead_at page node k at is place)

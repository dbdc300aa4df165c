-- An entry written into bytes, part by part.
use Rattle.std.{specs.List.copy_within, proofs.lemmas.List.{take_at, drop_at, drop-drop, drop_all, length-take-le, length-drop, Edits.sets-eq}}
use Rattle.std.proofs.Common.{rules, ◌≡◌, ℕ, ◌+◌, ◌-◌, ◌/◌, ◌%◌, ◌≤◌, List, [], ◌∷◌, ◌++◌, length, take, drop, set, get_or, replicate, refl, sym, ap, ◌∙◌, arith, suc, append_assoc, length-append, take-append-drop}
use Rattle.{std.proofs.lemmas.Slice.{take-put_mid, drop-put_mid}, page_btree_node.specs.{Bytes.with_entry, Node.bytes_of, claim.Entries.{Entry, size_of}}}
use Rattle.page_btree_node.proofs.Standing.{Stands, size_is}
use borrow.Rule.Slice.PartMut.{put_mid}

-- a part written after a prefix
pub put_after : (prefix rest part : List ℕ) (a k : ℕ) → length prefix ≡ a → put_mid a k (prefix ++ rest) part ≡ prefix ++ (part ++ drop k rest)
put_after prefix rest part a k long = λ x. (take_at prefix rest a long) x ++ (part ++ drop k ((drop_at prefix rest a long) x))

-- bytes that are moved to where they are
pub moved_nowhere : (bytes : List ℕ) (from until to : ℕ) → from ≡ to → bytes ≡ copy_within bytes from until to
moved_nowhere bytes from until to same =
    let n = until - from in
    sym (append_assoc (take from bytes) (take n (drop from bytes)) (drop (from + n) bytes) ∙ (λ i. take from bytes ++ (take n (drop from bytes) ++ sym (drop-drop n from bytes) i)) ∙ (λ i. take from bytes ++ take-append-drop n (drop from bytes) i) ∙ take-append-drop from bytes)
    ∙ ap (copy_within bytes from until) same

pub entry_written : (bytes key value : List ℕ) (at k m : ℕ) → at + 3 + length key + length value ≤ length bytes → k ≡ length key → m ≡ length value
    → put_mid (at + 3 + length key) m (put_mid (at + 3) k (set (set (set bytes at (length key)) (at + 1) (length value / 256)) (at + 2) (length value % 256)) key) value ≡ with_entry bytes at (key, value)
entry_written bytes key value at k m room k_is m_is =
    let head : List ℕ = length key ∷ length value / 256 ∷ length value % 256 ∷ [] in
    let prefix : List ℕ = take at bytes ++ head in
    let one : at + 1 ≡ suc at = omega arith in
    let two : at + 2 ≡ suc (suc at) = omega arith in
    let n = length-take-le at bytes (omega arith) in
    let long = length-append (take at bytes) head in
    let long_prefix : length prefix ≡ at + 3 = omega arith in
    let longer = length-append prefix key in
    let long_next : length (prefix ++ key) ≡ at + 3 + length key = omega arith in
    let headed : set (set (set bytes at (length key)) (at + 1) (length value / 256)) (at + 2) (length value % 256) ≡ prefix ++ drop (at + 3) bytes =
    (λ x. set (set (set bytes at (length key)) (one x) (length value / 256)) (two x) (length value % 256)) ∙ sets-eq head bytes at (omega arith) in
    let keyed : put_mid (at + 3) k (prefix ++ drop (at + 3) bytes) key ≡ (prefix ++ key) ++ drop k (drop (at + 3) bytes) =
    put_after prefix (drop (at + 3) bytes) key (at + 3) k long_prefix ∙ sym (append_assoc prefix key (drop k (drop (at + 3) bytes))) in
    let end : at + 3 + k + m ≡ at + (3 + length key + length value) = omega arith in
    let rest : drop m (drop k (drop (at + 3) bytes)) ≡ drop (at + (3 + length key + length value)) bytes =
    ap (drop m) (drop-drop k (at + 3) bytes) ∙ drop-drop m (at + 3 + k) bytes ∙ ap (λ q. drop q bytes) end in
    let tail : List ℕ = drop (at + (3 + length key + length value)) bytes in
    ap (λ b. put_mid (at + 3 + length key) m (put_mid (at + 3) k b key) value) headed
    ∙ ap (λ b. put_mid (at + 3 + length key) m b value) keyed
    ∙ put_after (prefix ++ key) (drop k (drop (at + 3) bytes)) value (at + 3 + length key) m long_next
    ∙ ap (λ b. prefix ++ key ++ (value ++ b)) rest
    ∙ append_assoc prefix key (value ++ tail)
    ∙ append_assoc (take at bytes) head (key ++ (value ++ tail))
    ∙ ap (λ b. take at bytes ++ (length key ∷ length value / 256 ∷ length value % 256 ∷ b)) (sym (append_assoc key value tail))

-- a body written after the head of a page, and zeros after it
pub body_written : (page bytes copied filled : List ℕ) (used k m n : ℕ) → length page ≡ 4096 → length bytes ≡ 5200 → 4 ≤ used → used ≤ 4096 → k ≡ used - 4 → m ≡ 4096 - used → copied ≡ take (used - 4) (drop 4 bytes) → filled ≡ replicate n 0 → n ≡ 4096 - used
    → put_mid used m (put_mid 4 k page copied) filled ≡ take 4 page ++ (take (used - 4) (drop 4 bytes) ++ replicate (4096 - used) 0)
body_written page bytes copied filled used k m n long wide low high k_is m_is is_copied is_filled n_is =
    let rest = length-drop 4 bytes in
    let copied_long : length copied ≡ used - 4 = ap length is_copied ∙ length-take-le (used - 4) (drop 4 bytes) (omega arith) in
    let inner : List ℕ = put_mid 4 k page copied in
    let prefix : take used inner ≡ take 4 page ++ copied = take-put_mid 4 k page copied used (omega arith) (omega arith) in
    let back : drop m (drop used inner) ≡ [] = drop-drop m used inner ∙ drop-put_mid 4 k page copied (used + m) (omega arith) (omega arith) (omega arith) ∙ drop_all (used + m) page (omega arith) in
    search rules

head_is : (page : List ℕ) (a b c d : ℕ) → 4 ≤ length page → take 4 (set (set (set (set page 0 a) 1 b) 2 c) 3 d) ≡ a ∷ b ∷ c ∷ d ∷ []
head_is (x ∷ y ∷ z ∷ u ∷ page) a b c d long = refl
head_is _ a b c d long = absurd (omega arith)

pub page_written : (level count : ℕ) (es : List Entry) (marks bytes page new : List ℕ) → Stands level es marks bytes → count ≡ length es → size_of es ≤ 4092 → length page ≡ 4096
    → new ≡ take 4 (set (set (set (set page 0 level) 1 0) 2 (count / 256)) 3 (count % 256)) ++ (take (get_or marks count 0 - 4) (drop 4 bytes) ++ replicate (4096 - get_or marks count 0) 0)
    → new ≡ bytes_of (record { level = level; entries = es })
page_written level count es marks bytes page new s counted fits long is =
    search (arith, size_is level es marks bytes s, head_is page level 0 (count / 256) (count % 256) (omega arith))

-- Entries, one after the other, and what is read of their bytes.
use Rattle.std.proofs.Common.{◌≡◌, ℕ, ◌+◌, ◌<◌, List, [], ◌∷◌, ◌++◌, length, take, drop, get_or, refl, sym, ap, ◌∙◌, arith, zero, suc, append_assoc, length-append, take-append-drop}
use Rattle.{std.proofs.lemmas.List.{take_at, drop_at, drop-drop, drop-take, take-take, take_more}, page_btree_node.specs.Entries.{first_of, after, read_from, value_length}}
use Rattle.page_btree_node.specs.claim.Entries.{Entry, entry_bytes, entry_size, body_of, size_of}

pub body-append : (xs ys : List Entry) → body_of (xs ++ ys) ≡ body_of xs ++ body_of ys
body-append [] ys = refl
body-append (x ∷ xs) ys = ap (λ b. entry_bytes x ++ b) (body-append xs ys) ∙ sym (append_assoc (entry_bytes x) (body_of xs) (body_of ys))

pub size-append : (xs ys : List Entry) → size_of (xs ++ ys) ≡ size_of xs + size_of ys
size-append [] ys = omega arith
size-append (x ∷ xs) ys = let rest = size-append xs ys in omega arith

pub length-entry : (e : Entry) → length (entry_bytes e) ≡ entry_size e
length-entry e = let n = length-append e.0 e.1 in omega arith

pub length-body : (es : List Entry) → length (body_of es) ≡ size_of es
length-body [] = refl
length-body (e ∷ es) = length-append (entry_bytes e) (body_of es) ∙ (let n = length-entry e in let rest = length-body es in omega arith)

pub length-read : (count : ℕ) (bytes : List ℕ) → length (read_from count bytes) ≡ count
length-read zero bytes = refl
length-read (suc count) bytes = ap suc (length-read count (after bytes))

pub value_length-entry : (e : Entry) (rest : List ℕ) → value_length (entry_bytes e ++ rest) ≡ length e.1
value_length-entry e rest = omega arith

pub drop_three : (k a b c : ℕ) (xs : List ℕ) → drop (3 + k) (a ∷ b ∷ c ∷ xs) ≡ drop k xs
drop_three k a b c xs = sym (drop-drop k 3 (a ∷ b ∷ c ∷ xs))

pub after-entry : (e : Entry) (rest : List ℕ) → after (entry_bytes e ++ rest) ≡ rest
after-entry e rest =
    let n = length-append e.0 e.1 in
    let long : 3 + length e.0 + value_length (entry_bytes e ++ rest) ≡ 3 + (length e.0 + length e.1) = omega arith in
    ap (λ k. drop k (entry_bytes e ++ rest)) long ∙ drop_three (length e.0 + length e.1) _ _ _ (e.0 ++ e.1 ++ rest) ∙ drop_at (e.0 ++ e.1) rest _ (omega arith)

pub first-entry : (e : Entry) (rest : List ℕ) → first_of (entry_bytes e ++ rest) ≡ e
first-entry e rest =
    let key : take (length e.0) (e.0 ++ e.1 ++ rest) ≡ e.0 = ap (take (length e.0)) (append_assoc e.0 e.1 rest) ∙ take_at e.0 (e.1 ++ rest) _ refl in
    let value : take (value_length (entry_bytes e ++ rest)) (drop (3 + length e.0) (entry_bytes e ++ rest)) ≡ e.1 =
    ap (λ k. take k (drop (3 + length e.0) (entry_bytes e ++ rest))) (value_length-entry e rest)
    ∙ ap (take (length e.1)) (drop_three (length e.0) _ _ _ (e.0 ++ e.1 ++ rest) ∙ ap (drop (length e.0)) (append_assoc e.0 e.1 rest) ∙ drop_at e.0 (e.1 ++ rest) _ refl)
    ∙ take_at e.1 rest _ refl in
    λ i. (key i, value i)

pub read_body : (es : List Entry) (rest : List ℕ) → read_from (length es) (body_of es ++ rest) ≡ es
read_body [] rest = refl
read_body (e ∷ es) rest =
    ap (λ bytes. read_from (length (e ∷ es)) bytes) (append_assoc (entry_bytes e) (body_of es) rest)
    ∙ (λ i. first-entry e (body_of es ++ rest) i ∷ read_from (length es) (after-entry e (body_of es ++ rest) i))
    ∙ ap (λ l. e ∷ l) (read_body es rest)

pub read_at : (es : List Entry) (bytes : List ℕ) → take (size_of es) bytes ≡ body_of es → read_from (length es) bytes ≡ es
read_at es bytes body = search (take-append-drop (size_of es) bytes, read_body es (drop (size_of es) bytes))

-- ---- a part of them
pub size-parts : (i : ℕ) (es : List Entry) → size_of (take i es) + size_of (drop i es) ≡ size_of es
size-parts i es = sym (size-append (take i es) (drop i es)) ∙ ap size_of (take-append-drop i es)

pub body-parts : (i : ℕ) (es : List Entry) → body_of es ≡ body_of (take i es) ++ body_of (drop i es)
body-parts i es = ap body_of (sym (take-append-drop i es)) ∙ body-append (take i es) (drop i es)

pub size-take_more : (es : List Entry) (i : ℕ) (d : Entry) → i < length es → size_of (take (i + 1) es) ≡ size_of (take i es) + entry_size (get_or es i d)
size-take_more es i d within = ap size_of (take_more es i d within) ∙ size-append (take i es) (get_or es i d ∷ []) ∙ omega arith

pub prefix_at : (i : ℕ) (es : List Entry) (bytes : List ℕ) → take (size_of es) bytes ≡ body_of es → take (size_of (take i es)) bytes ≡ body_of (take i es)
prefix_at i es bytes body =
    let n = size-parts i es in
    sym (take-take (size_of (take i es)) (size_of es) bytes (omega arith))
    ∙ ap (take (size_of (take i es))) (body ∙ body-parts i es)
    ∙ take_at (body_of (take i es)) (body_of (drop i es)) _ (length-body (take i es))

pub rest_at : (i : ℕ) (es : List Entry) (bytes : List ℕ) → take (size_of es) bytes ≡ body_of es → take (size_of (drop i es)) (drop (size_of (take i es)) bytes) ≡ body_of (drop i es)
rest_at i es bytes body =
    sym (drop-take (size_of (take i es)) (size_of (drop i es)) bytes)
    ∙ ap (λ k. drop (size_of (take i es)) (take k bytes)) (size-parts i es)
    ∙ ap (drop (size_of (take i es))) (body ∙ body-parts i es)
    ∙ drop_at (body_of (take i es)) (body_of (drop i es)) _ (length-body (take i es))

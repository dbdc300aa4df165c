-- Fronts of bytes, and the window in which a head is looked for.
use Rattle.std.proofs.Common.{◌≡◌, ◌⊎◌, ℕ, ◌+◌, ◌-◌, ◌≤◌, min, List, [], ◌++◌, length, take, drop, sym, ap, ◌∙◌, arith, inl, inr, ⊎_elim, take_all, append_assoc, append-nil, take-append-drop, length-take}
use Rattle.std.proofs.{Math.Seq.{drop-append_seam, take-append_seam, take-append-add, take-length}, lemmas.{Bool.cases_lt, List.{take-append-le, append_cancel_left}}}
use Rattle.http_wire_intake.specs.claim.Limits.{window}

-- what follows a prefix is what is left of the whole without it
after_prefix : (bytes prefix rest : List ℕ) → bytes ≡ prefix ++ rest → drop (length prefix) bytes ≡ rest
after_prefix bytes prefix rest e = rw e (drop-append_seam prefix rest)

-- a prefix of a prefix is a prefix
pub prefix_of_prefix : (bytes prefix : List ℕ) (n m : ℕ) → m ≡ length prefix → take n bytes ≡ prefix ++ drop m (take n bytes) → bytes ≡ prefix ++ drop m bytes
prefix_of_prefix bytes prefix n m len e =
    let all : bytes ≡ prefix ++ (drop m (take n bytes) ++ drop n bytes) = sym (take-append-drop n bytes) ∙ ap (λ xs. xs ++ drop n bytes) e ∙ append_assoc prefix _ _ in
    all ∙ ap (λ xs. prefix ++ xs) (sym (rw len (after_prefix bytes prefix _ (rw (← len) all))))

-- the first n bytes, or all, are the window
pub take_min : (k : ℕ) (xs : List ℕ) (n : ℕ) → n ≡ min (length xs) k → take n xs ≡ take k xs
take_min k xs n e = ⊎_elim (λ lt. ap (λ m. take m xs) (omega (arith, e)) ∙ take-length xs ∙ sym (take_all k xs (omega arith))) (λ le. ap (λ m. take m xs) (omega (arith, e))) (cases_lt (length xs) k)

pub window_is : (bytes : List ℕ) (n : ℕ) → n ≡ min (length bytes) 16384 → take n bytes ≡ window bytes
window_is bytes n e = take_min 16384 bytes n e

pub window_rest : (input : List ℕ) → window input ++ drop 16384 input ≡ input
window_rest input = take-append-drop 16384 input

pub window_short : (input : List ℕ) → length (window input) ≤ 16384
window_short input = omega (arith, length-take 16384 input)

-- a list of a known length ends in one place
pub same_cut : (b c r q : List ℕ) → b ++ r ≡ c ++ q → length b ≡ length c → (b ≡ c) × (r ≡ q)
same_cut b c r q e len =
    let same : b ≡ c = sym (take-append_seam b r) ∙ ap (λ k. take k (b ++ r)) len ∙ ap (take (length c)) e ∙ take-append_seam c q in
    (same, append_cancel_left c r q (ap (λ (xs : List ℕ). xs ++ r) (sym same) ∙ e))

-- the first bytes of more bytes begin with the first bytes
pub take_grows : (k : ℕ) (input more : List ℕ) → (y : List ℕ) × (take k (input ++ more) ≡ take k input ++ y)
take_grows k input more = ⊎_elim
    (λ lt.
    let n = k - length input in
    let whole : k ≡ length input + n = omega arith in
    (take n more, ap (λ m. take m (input ++ more)) whole ∙ take-append-add input more n ∙ ap (λ (xs : List ℕ). xs ++ take n more) (sym (take_all k input (omega arith)))))
    (λ le. ([], take-append-le k input more le ∙ sym (append-nil (take k input)))) (cases_lt (length input) k)

-- what stands at the start within the first k bytes stands at their start
pub in_window : (k : ℕ) (input text rest : List ℕ) → input ≡ text ++ rest → length text ≤ k → (r : List ℕ) × (take k input ≡ text ++ r)
in_window k input text rest e short =
    let g = take_grows k text rest in
    (g.0, ap (take k) e ∙ g.1 ∙ ap (λ (xs : List ℕ). xs ++ g.0) (take_all k text short))

-- the window of more bytes begins with the window
pub window_grows : (input more : List ℕ) → (y : List ℕ) × (window (input ++ more) ≡ window input ++ y)
window_grows input more = take_grows 16384 input more

pub window_full : (input more : List ℕ) → 16384 ≤ length input → window (input ++ more) ≡ window input
window_full input more h = take-append-le 16384 input more h

-- of two prefixes of the same bytes one is a prefix of the other
pub either_prefix : (w more text rest : List ℕ) → w ++ more ≡ text ++ rest → ((tail : List ℕ) × (w ≡ text ++ tail)) ⊎ ((tail : List ℕ) × (w ++ tail ≡ text))
either_prefix w more text rest e = ⊎_elim
    (λ lt.
    let n = length text - length w in
    let whole : length text ≡ length w + n = omega arith in
    inr (take n more, sym (sym (take-append_seam text rest) ∙ ap (take (length text)) (sym e) ∙ ap (λ k. take k (w ++ more)) whole ∙ take-append-add w more n)))
    (λ le.
    let prefix : take (length text) w ≡ text = sym (take-append-le (length text) w more le) ∙ ap (take (length text)) e ∙ take-append_seam text rest in
    inl (drop (length text) w, sym (take-append-drop (length text) w) ∙ ap (λ (xs : List ℕ). xs ++ drop (length text) w) prefix))
    (cases_lt (length w) (length text))

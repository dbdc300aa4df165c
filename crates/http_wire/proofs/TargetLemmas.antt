-- The test for a text that ends inside a request target is right.
use Rattle.std.{specs.List.list_all, proofs.Common.{◌≡◌, ℕ, ◌<◌, Bool, true, false, cond, ◌&&◌, ◌==◌, List, [], ◌∷◌, ◌++◌, length, refl, sym, ap, ◌∙◌, arith, append_assoc, rules}}
use Rattle.std.proofs.lemmas.{Bool.{false≢true, and_parts, or_parts, eqb-true, cond_both}, List.Elements.{All-nil, All-cons, All-head, All-tail}}
use Rattle.{std.proofs.lemmas.List.Sums.{AllPass-from_list_all, list_all-from_AllPass}, http_wire.specs.InTarget.{in_method, in_blank}}
use Rattle.httparse.{specs.Grammar.{is_token_byte, is_uri_byte, AllPass, LineEnd, crlf, lf, print_blank, EndsInTarget}, proofs.PieceLemmas.{space_ends_token, token_is_no_newline}}

-- the rest of a method, and a target
abbrev Words : Bool → List ℕ → Type 0
Words some bytes =
    (method : List ℕ) × (target : List ℕ) × (some ≡ false → 0 < length method) × AllPass is_token_byte method × AllPass is_uri_byte target × (bytes ≡ method ++ 32 ∷ target)

words : (some : Bool) (bytes : List ℕ) → in_method some bytes ≡ true → Words some bytes
words some [] e = absurd (false≢true e)
words some (b ∷ bytes) e = cond_both (is_token_byte b) (in_method true bytes) (some && b == 32 && list_all is_uri_byte bytes) (λ (t : Bool). t ≡ true → Words some (b ∷ bytes))
    (λ is ok.
    let w = words true bytes ok in
    (b ∷ w.0, w.1, λ _. omega arith, All-cons (λ v. is_token_byte v ≡ true) b w.0 is w.3, w.4, ap (λ (xs : List ℕ). b ∷ xs) w.5))
    (λ _ ok.
    let outer = and_parts (some && b == 32) (list_all is_uri_byte bytes) ok in
    let inner = and_parts some (b == 32) outer.0 in
    let space = ap (λ (v : ℕ). v ∷ bytes) (eqb-true b 32 inner.1) in
    ([], bytes, λ h. absurd (false≢true (sym h ∙ inner.0)), All-nil (λ v. is_token_byte v ≡ true), AllPass-from_list_all is_uri_byte bytes outer.1, space))
    e

-- empty lines, and then words; cr says that a CR stands before
abbrev Blanks : Bool → List ℕ → Type 0
Blanks cr bytes = (ends : List LineEnd) × (rest : List ℕ) × Words false rest × (cond cr (13 ∷ bytes) bytes ≡ print_blank ends ++ rest)

blanks : (cr : Bool) (bytes : List ℕ) → in_blank cr bytes ≡ true → Blanks cr bytes
blanks cr [] e = absurd (false≢true e)
blanks true (b ∷ bytes) e = cond_both (b == 10) (in_blank false bytes) false (λ (t : Bool). t ≡ true → Blanks true (b ∷ bytes))
    (λ is ok.
    let k = blanks false bytes ok in
    (crlf ∷ k.0, k.1, k.2, ap (λ (v : ℕ). 13 ∷ v ∷ bytes) (eqb-true b 10 is) ∙ ap (λ (xs : List ℕ). 13 ∷ 10 ∷ xs) k.3)) (λ _ ok. absurd (false≢true ok)) e
blanks false (b ∷ bytes) e = cond_both (b == 10) (in_blank false bytes)
    (cond (b == 13) (in_blank true bytes) (in_method false (b ∷ bytes))) (λ (t : Bool). t ≡ true → Blanks false (b ∷ bytes))
    (λ is ok.
    let k = blanks false bytes ok in
    (lf ∷ k.0, k.1, k.2, ap (λ (v : ℕ). v ∷ bytes) (eqb-true b 10 is) ∙ ap (λ (xs : List ℕ). 10 ∷ xs) k.3))
    (λ _. cond_both (b == 13) (in_blank true bytes) (in_method false (b ∷ bytes)) (λ (t : Bool). t ≡ true → Blanks false (b ∷ bytes))
    (λ is ok.
    let k = blanks true bytes ok in
    (k.0, k.1, k.2, ap (λ (v : ℕ). v ∷ bytes) (eqb-true b 13 is) ∙ k.3)) (λ _ ok. ([], b ∷ bytes, words false (b ∷ bytes) ok, refl)))
    e

-- the test tells a text that ends in a target
pub in_target_yes : (bytes : List ℕ) → in_blank false bytes ≡ true → EndsInTarget bytes
in_target_yes bytes e =
    let k = blanks false bytes e in
    let w = k.2 in
    (k.0, w.0, w.1, (w.2 refl, w.3), w.4, k.3 ∙ ap (λ (xs : List ℕ). print_blank k.0 ++ xs) w.5 ∙ sym (append_assoc (print_blank k.0) w.0 (32 ∷ w.1)))

-- ---- and no other

method_passes : (some : Bool) (m t : List ℕ) → (some ≡ false → 0 < length m) → AllPass is_token_byte m → AllPass is_uri_byte t → in_method some (m ++ 32 ∷ t) ≡ true
method_passes true [] t begun tokens uris = rw space_ends_token (list_all-from_AllPass is_uri_byte t uris)
method_passes false [] t begun tokens uris = absurd (omega (arith, begun refl))
method_passes some (b ∷ m) t begun tokens uris =
    rw (All-head (λ v. is_token_byte v ≡ true) b m tokens) (method_passes true m t (λ h. absurd (false≢true (sym h))) (All-tail (λ v. is_token_byte v ≡ true) b m tokens) uris)

blank_passes : (ends : List LineEnd) (m t : List ℕ) → 0 < length m → AllPass is_token_byte m → AllPass is_uri_byte t → in_blank false (print_blank ends ++ (m ++ 32 ∷ t)) ≡ true
blank_passes [] [] t some tokens uris = absurd (omega arith)
blank_passes [] (b ∷ m) t some tokens uris =
    let token = All-head (λ v. is_token_byte v ≡ true) b m tokens in
    let other = or_parts (b == 13) (b == 10) (token_is_no_newline b token) in
    rw (other.1, other.0, token) (method_passes true m t (λ h. absurd (false≢true (sym h))) (All-tail (λ v. is_token_byte v ≡ true) b m tokens) uris)
blank_passes (crlf ∷ ends) m t some tokens uris = blank_passes ends m t some tokens uris
blank_passes (lf ∷ ends) m t some tokens uris = blank_passes ends m t some tokens uris

pub in_target_no : (bytes : List ℕ) → in_blank false bytes ≡ false → EndsInTarget bytes → ⊥
in_target_no bytes e h = search (rules, false≢true, append_assoc, blank_passes)

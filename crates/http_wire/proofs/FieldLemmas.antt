-- The values of the fields of one name, field by field.
use Rattle.std.{specs.{List.{slice_get, cons_option, flat_map}, Prelude.{◌==◌, ◌≢◌}}, proofs.lemmas.{Bool.Decides.nat_tests, List.{map-append, append-nil, take_more}}}
use Rattle.std.proofs.Common.{◌≡◌, ℕ, ◌+◌, ◌<◌, Bool, true, false, cond, List, [], ◌∷◌, ◌++◌, map, length, take, get_or, Some, None, refl, ap, ◌∙◌, arith, length-append, rules}
use Rattle.{std.proofs.lemmas.List.Elements.filter_map-append, http_wire.specs.claim.{Connection.parts, Prefix.{values, named_value}, Target.is_word}}
use Rattle.{httparse.specs.{Spans.header_bytes, declared.spans.HeaderSpan.HeaderSpan}, http_wire.proofs.ConnectionLemmas.some_part}

picked : (b : Bool) (v : List ℕ) → cons_option (cond b (Some v) None) [] ≡ cond b (v ∷ []) []
picked true v = refl
picked false v = refl

-- one more field, which has the name or has not
pub values-more : (word buf : List ℕ) (headers : List HeaderSpan) (i : ℕ) (d : HeaderSpan) → i < length headers
    → values word (map (header_bytes buf) (take (i + 1) headers))
    ≡ values word (map (header_bytes buf) (take i headers)) ++ cond (is_word word (header_bytes buf (get_or headers i d)).0) ((header_bytes buf (get_or headers i d)).1 ∷ []) []
values-more word buf headers i d inside =
    let f = header_bytes buf (get_or headers i d) in
    let before = map (header_bytes buf) (take i headers) in
    ap (λ hs. values word (map (header_bytes buf) hs)) (take_more headers i d inside)
    ∙ ap (values word) (map-append (header_bytes buf) (take i headers) (get_or headers i d ∷ []))
    ∙ filter_map-append (named_value word) before (f ∷ [])
    ∙ ap (λ xs. values word before ++ xs) (picked (is_word word f.0) f.1)

pub with_value : (old new : List (List ℕ)) (b : Bool) (v : List ℕ) → new ≡ old ++ cond b (v ∷ []) [] → b ≡ true → new ≡ old ++ v ∷ []
with_value old new b v e h = rw h at e

pub without_value : (old new : List (List ℕ)) (b : Bool) (v : List ℕ) → new ≡ old ++ cond b (v ∷ []) [] → b ≡ false → new ≡ old
without_value old new b v e h = (rw h at e) ∙ append-nil old

pub first_stays : (old : List (List ℕ)) (v first : List ℕ) → 0 < length old → slice_get old 0 ≡ Some first → slice_get (old ++ v ∷ []) 0 ≡ Some first
first_stays [] v first h e = absurd (omega arith)
first_stays (x ∷ old) v first h e = e

pub first_comes : (old : List (List ℕ)) (v : List ℕ) → length old ≡ 0 → slice_get (old ++ v ∷ []) 0 ≡ Some v
first_comes [] v e = refl
first_comes (x ∷ old) v e = absurd (omega arith)

-- one value of one part is one part in all
pub single_one : (all : List (List ℕ)) (v : List ℕ) → length all ≡ 1 → slice_get all 0 ≡ Some v → length (flat_map parts all) ≡ length (parts v)
single_one [] v one e = absurd (omega arith)
single_one (x ∷ y ∷ more) v one e = absurd (omega arith)
single_one (x ∷ []) v one e = let same : x ≡ v = cc in ap length (append-nil (parts x)) ∙ ap (λ (w : List ℕ). length (parts w)) same

-- and more values are more than one part
pub single_more : (all : List (List ℕ)) (v : List ℕ) → length all ≢ 1 → slice_get all 0 ≡ Some v → false ≡ (length (flat_map parts all) == 1)
single_more [] v other e = absurd (cc)
single_more (x ∷ []) v other e = absurd (other refl)
single_more (x ∷ y ∷ more) v other e = search (rules, length-append, some_part, nat_tests)

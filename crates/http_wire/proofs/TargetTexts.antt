-- What a target asks for is ASCII.
use Rattle.std.{specs.{Prelude.{option_map, codes, nat_lt}, Str.IsAscii}, proofs.Common.{◌≡◌, ℕ, suc, true, List, [], ◌∷◌, drop, take, Some, None, subst, arith, Option}}
use Rattle.std.proofs.lemmas.{Bool.{and_parts, cond_both, ltb-true}, Str.{IsAscii-drop, Ascii.{IsAscii-nil, IsAscii-cons}}}
use Rattle.http_wire.specs.claim.Target.{is_ascii, is_word, begins_with_slash, ends_authority, after_authority, after_scheme, with_path, without_authority, target_of}

ascii_is : (bytes : List ℕ) → is_ascii bytes ≡ true → IsAscii bytes
ascii_is [] e = IsAscii-nil
ascii_is (b ∷ bytes) e = let s = and_parts (nat_lt b 128) (is_ascii bytes) e in IsAscii-cons b bytes (ltb-true b 128 s.0) (ascii_is bytes s.1)

authority_ascii : (bytes : List ℕ) → IsAscii bytes → IsAscii (after_authority bytes)
authority_ascii [] a = a
authority_ascii (b ∷ bytes) a = cond_both (ends_authority b) (b ∷ bytes) (after_authority bytes) IsAscii (λ _. a) (λ _. authority_ascii bytes (λ i. a (suc i)))

after_ascii : (rest text : List ℕ) → IsAscii rest → Some (with_path (after_authority rest)) ≡ Some text → IsAscii text
after_ascii rest text a e =
    let path = after_authority rest in
    let same : with_path path ≡ text = cc in
    subst IsAscii same
    (cond_both (begins_with_slash path) path (47 ∷ path) IsAscii (λ _. authority_ascii rest a) (λ _. IsAscii-cons 47 path (omega arith) (authority_ascii rest a)))

-- origin-form, or absolute-form
form_ascii : (target text : List ℕ) → IsAscii target → without_authority target ≡ Some text → IsAscii text
form_ascii target text a = cond_both (begins_with_slash target) (Some target) (option_map (λ rest. with_path (after_authority rest)) (after_scheme target))
    (λ (o : Option (List ℕ)). o ≡ Some text → IsAscii text)
    (λ _ e. let same : target ≡ text = cc in subst IsAscii same a)
    (λ _. cond_both (is_word (codes "http://") (take 7 target)) (Some (drop 7 target)) None
    (λ (o : Option (List ℕ)). option_map (λ rest. with_path (after_authority rest)) o ≡ Some text → IsAscii text)
    (λ _ e. after_ascii (drop 7 target) text (IsAscii-drop target 7 a) e) (λ _ e. absurd (cc)))

pub target_ascii : (target text : List ℕ) → target_of target ≡ Some text → IsAscii text
target_ascii target text = cond_both (is_ascii target) (without_authority target) None (λ (o : Option (List ℕ)). o ≡ Some text → IsAscii text)
    (λ is. form_ascii target text (ascii_is target is)) (λ _ e. absurd (cc))

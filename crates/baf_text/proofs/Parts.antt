-- Parts that stand from a place on.
use Rattle.{std.{specs.Prelude.unwrap_or, proofs.lemmas.Bool.{cases_lt, cases_eq, lt-ltb, le-ltb}}, baf_text.specs.Listed.{part_at, spread, IsListedPart, IsEntered}}
use Rattle.std.proofs.Common.{Result, Ok, Err, OnOk, ◌≡◌, ℕ, zero, suc, ◌+◌, ◌-◌, ◌<◌, ◌≤◌, List, [], ◌∷◌, map, length, get_or, set, Option, Some, None, arith, refl, ap, sym, ◌∙◌, inl, inr, rules}
use Rattle.std.proofs.lemmas.List.{ext_get_or, get_or_past, length-set, get_or-set_same, get_or-set_other, get_or-map, length-map}

pub before : (first : ℕ) (part : List (Option ℕ)) (k : ℕ) → k < first → part_at first part k ≡ None
before first part k less = rw (lt-ltb k first less) refl

pub there : (first : ℕ) (part : List (Option ℕ)) (k : ℕ) → first ≤ k → part_at first part k ≡ get_or part (k - first) None
there first part k more = rw (le-ltb k first more) refl

pub length-spread : (first : ℕ) (part : List (Option ℕ)) (n : ℕ) → length (spread first part n) ≡ n
length-spread first part zero = refl
length-spread zero [] (suc n) = ap suc (length-spread zero [] n)
length-spread zero (x ∷ part) (suc n) = ap suc (length-spread zero part n)
length-spread (suc first) part (suc n) = ap suc (length-spread first part n)

spread_before : (first : ℕ) (part : List (Option ℕ)) (n k : ℕ) → k < first → get_or (spread first part n) k None ≡ None
spread_before first part zero k less = refl
spread_before zero part (suc n) k less = absurd (omega arith)
spread_before (suc first) part (suc n) zero less = refl
spread_before (suc first) part (suc n) (suc k) less = spread_before first part n k (omega arith)

spread_there : (first : ℕ) (part : List (Option ℕ)) (n k j : ℕ) → k ≡ first + j → first + length part ≤ n → get_or (spread first part n) k None ≡ get_or part j None
spread_there zero [] zero k j at within = refl
spread_there zero [] (suc n) zero j at within = refl
spread_there zero [] (suc n) (suc k) j at within = spread_there zero [] n k k (omega arith) (omega arith)
spread_there zero (x ∷ part) (suc n) zero zero at within = refl
spread_there zero (x ∷ part) (suc n) (suc k) (suc j) at within = spread_there zero part n k j (omega arith) (omega arith)
spread_there (suc first) part (suc n) (suc k) j at within = spread_there first part n k j (omega arith) (omega arith)
spread_there _ _ _ _ _ at within = absurd (omega arith)

pub spread_at : (first : ℕ) (part : List (Option ℕ)) (n k : ℕ) → first + length part ≤ n → get_or (spread first part n) k None ≡ part_at first part k
spread_at first part n k within = search (rules, cases_lt, spread_before, before, spread_there, there)

pub is_part : (first : ℕ) (part : List (Option ℕ)) (n : ℕ) → first + length part ≤ n → IsListedPart first part (spread first part n)
is_part first part n within = search (rules, length-spread, spread_at)

-- at first nothing is listed
pub spread_none : {A : Type 0} → (blocks : List A) → spread 0 [] (length blocks) ≡ map (λ _. None) blocks
spread_none [] = refl
spread_none (b ∷ blocks) = ap (λ l. None ∷ l) (spread_none blocks)

-- a place's district is entered
pub spread_set : (first : ℕ) (part : List (Option ℕ)) (first_now : ℕ) (part_now : List (Option ℕ)) (n place district : ℕ) → first + length part ≤ n → first_now + length part_now ≤ n → place < n
    → IsEntered place district first part first_now part_now → spread first_now part_now n ≡ set (spread first part n) place (Some district)
spread_set first part first_now part_now n place district within within_now less entered =
    ext_get_or None (spread first_now part_now n) (set (spread first part n) place (Some district))
    (length-spread first_now part_now n ∙ sym (length-set (spread first part n) place (Some district) ∙ length-spread first part n))
    (λ k inside. spread_at first_now part_now n k within_now ∙ elim (cases_eq k place) [
      | inl same ↦ search (arith, get_or, get_or-set_same, length-spread)
      | inr other ↦ entered.others k other ∙ sym (get_or-set_other (spread first part n) place k (Some district) None other ∙ spread_at first part n k within)
    ])

-- what holds of a value that came holds of what is shown of it
pub ok_then : {T E : Type 0} (r : Result T E) (A B : Type 0) → (A → B) → OnOk r A → OnOk r B
ok_then (Ok v) A B f a = f a
ok_then (Err e) A B f a = a

-- the districts of a part stand in a list of as many as there are blocks, 0 elsewhere
pub record IsWholeTo (listed : List (Option ℕ)) (first : ℕ) (districts : List ℕ) (i : ℕ) : Type 0 where
  pub long : length districts ≡ length listed
  pub done : (k : ℕ) → k < first + i → get_or districts k 0 ≡ unwrap_or (get_or listed k None) 0
  pub rest : (k : ℕ) → first + i ≤ k → get_or districts k 0 ≡ 0

module _ (listed : List (Option ℕ)) (first : ℕ) (part : List (Option ℕ)) (is : IsListedPart first part listed) where
  pub whole_all : (districts : List ℕ) (i : ℕ) → IsWholeTo listed first districts i → length part ≤ i → districts ≡ map (λ d. unwrap_or d 0) listed
  whole_all districts i was past =
      let long = was.long in
      ext_get_or 0 districts (map (λ d. unwrap_or d 0) listed) (was.long ∙ sym (length-map listed (λ d. unwrap_or d 0)))
      (λ k inside. at k (omega arith) ∙ sym (get_or-map (λ d. unwrap_or d 0) listed k None 0 (omega arith)))
    where
      at : (k : ℕ) → k < length listed → get_or districts k 0 ≡ unwrap_or (get_or listed k None) 0
      at k inside = search (rules, cases_lt, there, get_or_past)

-- Listed districts over the last ones.
use Rattle.std.{specs.{List.zip, Prelude.unwrap_or}, proofs.lemmas.{Bool.{lt-ltb, le-ltb}, List.{get_or_past, length-map}, Slice.Zip.length-zip}}
use Rattle.std.proofs.Common.{rules, ◌≡◌, ℕ, zero, suc, ◌+◌, ◌-◌, ◌<◌, ◌≤◌, List, [], ◌∷◌, map, length, get_or, Option, Some, None, Result, Ok, Err, IsOkAnd, IfSome, arith, refl, ap, sym, ◌∙◌, ◌⊎◌}
use Rattle.{baf_text.specs.Listed.{listed_of, part_at, IsListedPart}, desk_model.specs.claim.{Baf.{Values, Fault, value_at}, Geography.{GeographyModel, ids, ids_of}}}
use Rattle.desk_model.specs.{claim.Step.{partly_listed, patched}, declared.{block.BlockRow.BlockRow, reply.Refusal.{Refusal, TheVariants.{BadBody, Memory}}}}
use Rattle.{desk_store_catalogue.{specs.{Cutting.StaysOutside, Kept.IsRefusalOf, Patches.{overlaid, IsPatchRefusal}}, proofs.Whole.in_turn}, desk_store_lists.specs.Laid.laid}

-- what is listed of a place, before a part and in it or after it
pub before : (first : ℕ) (part : List (Option ℕ)) (k : ℕ) → k < first → part_at first part k ≡ None
before first part k less = rw (lt-ltb k first less) refl

pub there : (first : ℕ) (part : List (Option ℕ)) (k : ℕ) → first ≤ k → part_at first part k ≡ get_or part (k - first) None
there first part k more = rw (le-ltb k first more) refl

-- a list with the listed districts in the place of its own, from a place on
laid_from : (first : ℕ) (part listed : List (Option ℕ)) (place : ℕ) (last : List ℕ) → length last ≡ length listed → ((k : ℕ) → get_or listed k None ≡ part_at first part (place + k))
    → laid first part place last ≡ map (λ (e : Option ℕ × ℕ). unwrap_or e.0 e.1) (zip listed last)
laid_from first part [] place [] long is = refl
laid_from first part (o ∷ listed) place (d ∷ last) long is =
    let here : o ≡ part_at first part place = is zero ∙ ap (part_at first part) (omega arith) in
    let first_is : unwrap_or (part_at first part place) d ≡ unwrap_or o d = ap (λ (e : Option ℕ). unwrap_or e d) (sym here) in
    let rest = laid_from first part listed (suc place) last (omega arith) (λ k. is (suc k) ∙ ap (part_at first part) (omega arith)) in
    ap (λ (more : List ℕ). unwrap_or (part_at first part place) d ∷ more) rest
    ∙ ap (λ (n : ℕ). n ∷ map (λ (e : Option ℕ × ℕ). unwrap_or e.0 e.1) (zip listed last)) first_is
laid_from first part _ place _ long is = absurd (omega arith)

pub laid_over : (first : ℕ) (part listed : List (Option ℕ)) (last : List ℕ) → IsListedPart first part listed → length last ≡ length listed → laid first part 0 last ≡ overlaid listed (Some last)
laid_over first part listed last is long = laid_from first part listed 0 last long (λ k. is.there k ∙ ap (part_at first part) (omega arith))

-- where nothing is listed of a place, its district stays
unlisted : (listed : List (Option ℕ)) (last : List ℕ) (k : ℕ) → length last ≡ length listed → get_or listed k None ≡ None → get_or (overlaid listed (Some last)) k 0 ≡ get_or last k 0
unlisted [] [] k long none = refl
unlisted (o ∷ listed) (d ∷ last) zero long none = ap (λ (x : Option ℕ). unwrap_or x d) none
unlisted (o ∷ listed) (d ∷ last) (suc k) long none = unlisted listed last k (omega arith) none
unlisted _ _ k long none = absurd (omega arith)

pub overlaid_stays : (listed : List (Option ℕ)) (last : Option (List ℕ)) (districts : List ℕ) (n : ℕ) → length listed ≡ n → IfSome last (λ d. length d ≡ n) → districts ≡ overlaid listed last
    → (first end : ℕ) → ((k : ℕ) → (k < first) ⊎ (end ≤ k) → get_or listed k None ≡ None) → IfSome last (λ l. StaysOutside first end l districts)
overlaid_stays listed None districts n long old is first end none = tt
overlaid_stays listed (Some last) districts n long old is first end none =
    λ k outside. ap (λ (l : List ℕ). get_or l k 0) is ∙ unlisted listed last k (old ∙ sym long) (none k outside)

-- and the whole is as long as the list
pub overlaid_long : (listed : List (Option ℕ)) (last : Option (List ℕ)) (districts : List ℕ) (n : ℕ) → length listed ≡ n → IfSome last (λ d. length d ≡ n) → districts ≡ overlaid listed last
    → length districts ≡ n
overlaid_long listed None districts n long old is = ap length is ∙ length-map listed _ ∙ long
overlaid_long listed (Some last) districts n long old is = ap length is ∙ length-map (zip listed last) _ ∙ length-zip listed last ∙ omega (arith, long, old)

-- nothing is listed outside of a part
pub none_outside : (first : ℕ) (part listed : List (Option ℕ)) → IsListedPart first part listed → (k : ℕ) → (k < first) ⊎ (first + length part ≤ k) → get_or listed k None ≡ None
none_outside first part listed is k outside = search (rules, before, there, get_or_past)

in_pairs : (values : Values) (blocks : List BlockRow) (last : List ℕ) → map (λ (e : Option ℕ × ℕ). unwrap_or e.0 e.1) (zip (map (value_at values) (ids_of blocks)) last)
    ≡ map (λ (e : BlockRow × ℕ). unwrap_or (value_at values e.0.id) e.1) (zip blocks last)
in_pairs values (b ∷ blocks) (d ∷ last) = ap (λ (more : List ℕ). unwrap_or (value_at values b.id) d ∷ more) (in_pairs values blocks last)
in_pairs values _ _ = refl

overlaid_is : (g : GeographyModel) (values : Values) (last : Option (List ℕ)) → overlaid (listed_of g values) last ≡ patched g values last
overlaid_is g values None = in_turn values g.blocks
overlaid_is g values (Some last) = in_pairs values g.blocks last

-- what was read is the patch, where no county is listed in part
pub read_patched : (reading : Result Values Fault) (g : GeographyModel) (listed : List (Option ℕ)) (last : Option (List ℕ)) (districts : List ℕ) (told : Option ℕ)
    → IsOkAnd reading (λ values. listed ≡ listed_of g values) → ((values : Values) → listed ≡ listed_of g values → told ≡ partly_listed g values) → told ≡ None
    → districts ≡ overlaid listed last → IsOkAnd reading (λ values. (partly_listed g values ≡ None) × (districts ≡ patched g values last))
read_patched (Err f) g listed last districts told said tells none is = said
read_patched (Ok values) g listed last districts told said tells none is = search (rules, overlaid_is)

-- the list that was read is as long as that of the blocks
pub listed_length : (reading : Result Values Fault) (g : GeographyModel) (listed : List (Option ℕ)) → IsOkAnd reading (λ values. listed ≡ listed_of g values) → length listed ≡ length g.blocks
listed_length (Err f) g listed said = absurd said
listed_length (Ok values) g listed said = ap length said ∙ length-map (ids g) (value_at values) ∙ length-map g.blocks (λ (b : BlockRow). b.id)

-- a county that is listed in part
pub part_told : (reading : Result Values Fault) (g : GeographyModel) (listed : List (Option ℕ)) (county : ℕ) → IsOkAnd reading (λ values. listed ≡ listed_of g values)
    → ((values : Values) → listed ≡ listed_of g values → Some county ≡ partly_listed g values) → IsOkAnd reading (λ values. partly_listed g values ≡ Some county)
part_told (Err f) g listed county said tells = said
part_told (Ok values) g listed county said tells = sym (tells values said)

-- a body that is refused is no patch
pub no_patch : (g : GeographyModel) (reading : Result Values Fault) (refusal : Refusal) → IsRefusalOf reading refusal → IsPatchRefusal g reading refusal
no_patch g reading (BadBody code line) is = is
no_patch g reading Memory is = is
no_patch g reading _ is = absurd is

-- Lists as JSON, item by item.
use Rattle.{std.{specs.declared.alloc.Global.Global, proofs.lemmas.List.{get_or_default, map_push, map_more, take_all}}, audit_report.specs.claim.ReportText.list_data}
use Rattle.std.proofs.Common.{◌≡◌, ℕ, ◌+◌, ◌<◌, List, [], ◌∷◌, ◌++◌, length, get_or, map, take, Vec, String, string_bytes, ap, sym, ◌∙◌, arith, rules}
use Rattle.serde_json.{specs.{Data.{Data, array, string}, View.{view, items_of}, declared.value.Value.{Value, Array, the_lemmas}}, proofs.Views.view-Array}
use Rattle.serde_json.specs.declared.value.Value as json

-- the values so far are those of the first items
abbrev pub AreFirst : {X : Type 0} → (X → Data) → List X → ℕ → List Value → Type 0
AreFirst f xs count values = map view values ≡ map f (take count xs)

pub first_more : {X : Type 0} (f : X → Data) (xs : List X) (count : ℕ) (values : List Value) (x : X) (value : Value) → count < length xs → x ≡ get_or xs count x → view value ≡ f x
    → AreFirst f xs count values → AreFirst f xs (count + 1) (values ++ value ∷ [])
first_more f xs count values x value less is same was =
    map_push view values value ∙ ap (λ ds. ds ++ view value ∷ []) was ∙ ap (λ d. map f (take count xs) ++ d ∷ []) (same ∙ ap f is) ∙ sym (map_more f xs count x less)

pub first_written : {X : Type 0} (f : X → Data) (xs : List X) (count : ℕ) (values : Vec Value Global) → length xs ≡ count → AreFirst f xs count values.items
    → view (Array values) ≡ list_data f xs
first_written f xs count values all was = view-Array values ∙ ap (λ ds. array (items_of ds)) (was ∙ ap (map f) (take_all count xs (omega arith)))

view-String : (s : String Global) → view (json.String s) ≡ string (string_bytes s)
view-String s = search (rules, the_lemmas)

pub text_more : {X : Type 0} (f : X → Data) (xs : List X) (count : ℕ) (values : List Value) (d : X) (s : String Global) → count < length xs → string (string_bytes s) ≡ f (get_or xs count d)
    → AreFirst f xs count values → AreFirst f xs (count + 1) (values ++ json.String s ∷ [])
text_more f xs count values d s less same was = first_more f xs count values (get_or xs count d) (json.String s) less (get_or_default xs count d _ less) (view-String s ∙ same) was

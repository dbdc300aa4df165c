-- What the query of a target says, as a form (application/x-www-form-urlencoded).
use Rattle.std.specs.{List.{before_first, after_first, fold}, Prelude.{ℕ, Bool, true, false, ◌&&◌, if◌then◌else◌, ◌==◌, List, [], ◌∷◌, map, Option, Some, None, option_map, codes}}
use Rattle.{std.specs.Str.{bytes_eq, Lossy.utf8_lossy}, desk_model.specs.{claim.{Companions.no_companions, Name.plan_name_of, Sizes.{kind_named, sized}}, declared.kind.Kind.Kind}}
use Rattle.{desk_model.specs.declared.companions.Companions.Companions, field_text.specs.claim.Digits.number_of, form_urlencoded.specs.Form.{raw_pairs, decode}}

-- the text that a name or a value of the form stands for
abbrev pub form_text : List ℕ → List ℕ
form_text bytes = utf8_lossy (decode bytes)

abbrev pub texts_of : List ℕ × List ℕ → List ℕ × List ℕ
texts_of p = (form_text p.0, form_text p.1)

-- the names and values of a query
abbrev pub pairs_of : List ℕ → List (List ℕ × List ℕ)
pairs_of query = map texts_of (raw_pairs query)

-- a kind and a number of 1 to 3 digits in its range
abbrev pub size_in : Option Kind → Option ℕ → Option (Kind × ℕ)
size_in None n = None
size_in (Some kind) None = None
size_in (Some kind) (Some n) = sized kind n

abbrev pub size_of : List ℕ → List ℕ → Option (Kind × ℕ)
size_of kind districts = size_in (kind_named kind) (number_of 3 districts)

-- both names, each once, in either order
abbrev pub create_size : List (List ℕ × List ℕ) → Option (Kind × ℕ)
create_size [] = None
create_size (p ∷ []) = None
create_size (p ∷ q ∷ []) =
    if bytes_eq p.0 (codes "kind") && bytes_eq q.0 (codes "districts") then size_of p.1 q.1
    else if bytes_eq p.0 (codes "districts") && bytes_eq q.0 (codes "kind") then size_of q.1 p.1
    else None
create_size (p ∷ q ∷ r ∷ more) = None

-- the kind and the number of districts that a query tells
abbrev pub create_query : List ℕ → Option (Kind × ℕ)
create_query query = create_size (pairs_of query)

-- the number of the revision that a body comes after, of 1 to 5 digits
abbrev pub after_number : List (List ℕ × List ℕ) → Option ℕ
after_number [] = None
after_number (p ∷ []) = if bytes_eq p.0 (codes "after") then number_of 5 p.1 else None
after_number (p ∷ q ∷ more) = None

abbrev pub after_query : List ℕ → Option ℕ
after_query query = after_number (pairs_of query)

abbrev pub addressed : Option (List ℕ) → Option ℕ → Option (List ℕ × ℕ)
addressed None j = None
addressed (Some name) None = None
addressed (Some name) (Some j) = Some (name, j)

-- a revision of a plan: the plan's name, a colon, and the revision's number of 1 to 5 digits
abbrev pub address_of : List ℕ → Option (List ℕ × ℕ)
address_of text = addressed (plan_name_of (before_first (λ b. b == 58) text)) (number_of 5 (after_first (λ b. b == 58) text))

-- the revision that is forked
abbrev pub from_address : List (List ℕ × List ℕ) → Option (List ℕ × ℕ)
from_address [] = None
from_address (p ∷ []) = if bytes_eq p.0 (codes "from") then address_of p.1 else None
from_address (p ∷ q ∷ more) = None

abbrev pub from_query : List ℕ → Option (List ℕ × ℕ)
from_query query = from_address (pairs_of query)

-- the revision that a text tells, where none was told before
abbrev pub address_once : Option (List ℕ × ℕ) → List ℕ → Option (List ℕ × ℕ)
address_once None text = address_of text
address_once (Some before) text = None

-- the revisions that are told with one pair more: nothing at another name, at one that was told before and at a bad revision
abbrev pub more_told : Option (Companions (List ℕ × ℕ)) → List ℕ × List ℕ → Option (Companions (List ℕ × ℕ))
more_told None p = None
more_told (Some told) p =
    if bytes_eq p.0 (codes "senate") then option_map (λ at. record told { senate = Some at }) (address_once told.senate p.1)
    else if bytes_eq p.0 (codes "congress") then option_map (λ at. record told { congress = Some at }) (address_once told.congress p.1)
    else None

-- the revisions of companions that a query tells, each at most once, in any order; nothing where it tells anything else
abbrev pub companions_query : List ℕ → Option (Companions (List ℕ × ℕ))
companions_query query = fold more_told (Some no_companions) (pairs_of query)

-- there is no pair
abbrev pub has_none : List (List ℕ × List ℕ) → Bool
has_none [] = true
has_none (p ∷ more) = false

-- the query has no name and no value
abbrev pub is_no_query : List ℕ → Bool
is_no_query query = has_none (raw_pairs query)

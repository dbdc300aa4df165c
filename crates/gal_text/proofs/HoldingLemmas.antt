-- What the units' state holds, word by word.
use Rattle.std.{specs.{List.Sorted.IsStrictlyIncreasing, declared.alloc.Global.Global}, proofs.{Math.{Bool.or-false, ListN.drop_of_length-le}, lemmas.Grind.get_or-set_at}}
use Rattle.std.proofs.Common.{◌≡◌, ℕ, ◌-◌, ◌<◌, ◌≤◌, Bool, true, false, cond, ◌&&◌, ◌||◌, eqb, List, [], ◌∷◌, ◌++◌, length, get_or, set, vec_len, Vec, Option, Some, None, Result, Ok, Err, Contains, refl, sym, ap, subst, inl, inr, ◌∙◌, arith, eq-eqb, rules}
use Rattle.std.proofs.lemmas.{Bool.{and_left, cases_eq, cases_lt, false≢true, le-ltb, ne_eqb, or_right}, List.{length-map, get_or-set_other, get_or_read}}
use Rattle.{std.proofs.lemmas.{List.Folds.{list_any-append, list_any_none}, Map.Keys.{sorted_from_strictly_increasing, below_from_sorted}}, gal_text.specs.declared.units.Link.Link}
use Rattle.{desk_model.specs.{claim.Geography.{ids_of, id_at}, declared.block.BlockRow.BlockRow}, gal_text.specs.Holding.{AreFromUnits, IsAtHand, HasUnit, Holds, Meets}}
use Rattle.gal_text.specs.claim.Units.{Progress, has_number, lists, known, block_of, neighbours_left, unit_read, count_read, neighbour_limit, word_awaited, word_read}
use Rattle.gal_text.{specs.declared.{fault.TextFault.TheVariants.TooManyNeighbours, units.{Awaited.Awaited, Graph.Graph, UnitRefusal.UnitRefusal}}, proofs.RelationLemmas.has_not}
use Rattle.gal_text.specs.declared.units.Awaited.TheVariants as awaited

-- ---- numbers in a list

pub unknown : (ids : List ℕ) (id : ℕ) (o : Option ℕ) → Some id ≡ o → ¬ Contains ids id → known ids o ≡ None
unknown ids id o is missing = ap (known ids) (sym is) ∙ ap (λ (b : Bool). cond b (Some id) None) (has_not ids id missing)

has_number-push : (units : List ℕ) (id x : ℕ) → has_number (units ++ id ∷ []) x ≡ (has_number units x || (eqb id x || false))
has_number-push units id x = list_any-append (λ (y : ℕ). eqb y x) units (id ∷ [])

stays_unit : (units : List ℕ) (id x : ℕ) → has_number units x ≡ true → has_number (units ++ id ∷ []) x ≡ true
stays_unit units id x has = has_number-push units id x ∙ ap (λ (b : Bool). b || (eqb id x || false)) has

last_unit : (units : List ℕ) (id : ℕ) → has_number (units ++ id ∷ []) id ≡ true
last_unit units id = has_number-push units id id ∙ ap (λ (b : Bool). has_number units id || (b || false)) (eq-eqb id id refl) ∙ or_right (has_number units id) true refl

-- ---- the marks

differ : (blocks : List BlockRow) → IsStrictlyIncreasing (ids_of blocks) → (i j : ℕ) → i < length blocks → j < length blocks → id_at blocks i ≡ id_at blocks j → i ≡ j
differ blocks rising i j inside within same = search (rules, sorted_from_strictly_increasing, length-map, below_from_sorted, cases_lt)

-- a mark more, that of a unit
pub marks_more : (blocks : List BlockRow) (marks : List Bool) (units : List ℕ) (place id : ℕ) → IsStrictlyIncreasing (ids_of blocks) → length marks ≡ length blocks
    → place < length blocks → id_at blocks place ≡ id → ((q : ℕ) → q < length blocks → get_or marks q false ≡ has_number units (id_at blocks q))
    → (q : ℕ) → q < length blocks → get_or (set marks place true) q false ≡ has_number (units ++ id ∷ []) (id_at blocks q)
marks_more blocks marks units place id rising same within here marks_are q inside = elim (cases_eq place q) [
  | inl is ↦ search (rules, is, get_or-set_at, last_unit)
  | inr apart ↦
      let other : eqb id (id_at blocks q) ≡ false = ne_eqb id (id_at blocks q) (λ yes. apart (differ blocks rising place q within inside (here ∙ yes))) in
      get_or-set_other marks place q true false (λ there. apart (sym there)) ∙ marks_are q inside
      ∙ sym (has_number-push units id (id_at blocks q) ∙ ap (λ (b : Bool). has_number units (id_at blocks q) || (b || false)) other ∙ or-false (has_number units (id_at blocks q)))
]

-- ---- a unit

listed_none : (units : List ℕ) (links : List Link) (id x : ℕ) → AreFromUnits units links → has_number units id ≡ false → lists links id x ≡ false
listed_none units links id x from_units fresh = list_any_none (λ (l : Link). eqb l.from id && eqb l.to x) links
    (λ k d inside. and_left _ _ (ne_eqb (get_or links k d).from id (λ is. false≢true (sym fresh ∙ sym (ap (has_number units) is) ∙ from_units k d inside))))

-- the links of a new unit begin at the end
pub unit_begins : (units : List ℕ) (links : List Link) (first id : ℕ) → AreFromUnits units links → has_number units id ≡ false → length links ≤ first → IsAtHand (units ++ id ∷ []) links first id
unit_begins units links first id from_units fresh end = search (rules, last_unit, drop_of_length-le, listed_none)

pub from_more_units : (units : List ℕ) (links : List Link) (id : ℕ) → AreFromUnits units links → AreFromUnits (units ++ id ∷ []) links
from_more_units units links id from_units = λ k d inside. stays_unit units id (get_or links k d).from (from_units k d inside)

-- what a mark says of a block
pub mark_says : (blocks : List BlockRow) (g : Graph) (p : Progress) (place id : ℕ) (b : Bool) → Holds blocks g p → place < vec_len g.seen → id_at blocks place ≡ id
    → b ≡ get_or g.seen.items place b → has_number p.units id ≡ b
mark_says blocks g p place id b holds within here is = search (rules, get_or_read)

pub unit_taken : (blocks : List BlockRow) (old new : Graph) (p : Progress) (place id number : ℕ) → IsStrictlyIncreasing (ids_of blocks) → Holds blocks old p → place < vec_len old.seen
    → id_at blocks place ≡ id → has_number p.units id ≡ false → new.seen.items ≡ set old.seen.items place true → vec_len new.seen ≡ vec_len old.seen → new.links ≡ old.links
    → new.first ≡ vec_len old.links → new.left ≡ old.left - 1 → new.next ≡ awaited.Count id → (q : Progress) × (unit_read p number (Some id) ≡ Ok q) × Holds blocks new q
unit_taken blocks old new p place id number rising holds within here fresh seen len links first left next = (
  record { left = p.left - 1; next = awaited.Count id; units = p.units ++ id ∷ []; links = p.links },
  search rules,
  record {
    left = left ∙ ap (λ (n : ℕ). n - 1) holds.left;
    next = next;
    links = ap (λ (v : Vec Link Global). v.items) links ∙ holds.links;
    marked = len ∙ holds.marked;
    marks = search (rules, marks_more);
    begins = omega (arith, first, ap (λ (v : Vec Link Global). vec_len v) links);
    at_hand = unit_begins p.units p.links new.first id holds.from_units fresh (omega (arith, first, old.links.ok.0, ap (λ (ls : List Link). length ls) holds.links));
    from_units = from_more_units p.units p.links id holds.from_units;
  },
)

-- ---- a number of neighbours

left_at_hand : (b : Bool) (units : List ℕ) (links : List Link) (first unit n : ℕ) → IsAtHand units links first unit → HasUnit units links first (cond b awaited.Block (awaited.Neighbour unit n))
left_at_hand true units links first unit n at = tt
left_at_hand false units links first unit n at = at

pub count_taken : (blocks : List BlockRow) (old new : Graph) (p : Progress) (unit n number : ℕ) → Holds blocks old p → p.next ≡ awaited.Count unit → n ≤ neighbour_limit
    → new.seen ≡ old.seen → new.links ≡ old.links → new.first ≡ old.first → new.left ≡ old.left → new.next ≡ neighbours_left unit n
    → (q : Progress) × (count_read p unit number (Some n) ≡ Ok q) × Holds blocks new q
count_taken blocks old new p unit n number holds awaits few seen links first left next =
    let at : IsAtHand p.units p.links old.first unit = subst (HasUnit p.units p.links old.first) awaits holds.at_hand in
    let q : Progress = record { left = p.left; next = neighbours_left unit n; units = p.units; links = p.links } in
    (q, ap (λ (b : Bool). cond b (Err (TooManyNeighbours unit)) (Ok q)) (le-ltb neighbour_limit n few), search (rules, at, left_at_hand))

-- ---- a word

pub block_said : (ids : List ℕ) (p : Progress) (number id : ℕ) (word : List ℕ) → (p.left ≡ 0 → ⊥) → block_of ids word ≡ Some id
    → word_awaited ids p number word awaited.Block ≡ unit_read p number (Some id)
block_said ids p number id word some is = search (rules, ne_eqb)

pub met_as : (blocks : List BlockRow) (p : Progress) (number : ℕ) (word : List ℕ) (next : Awaited) (result : Result (Unit {0}) UnitRefusal) (new : Graph) → p.next ≡ next
    → Meets blocks (word_awaited (ids_of blocks) p number word next) result new → Meets blocks (word_read (ids_of blocks) p number word) result new
met_as blocks p number word next result new is met = search rules

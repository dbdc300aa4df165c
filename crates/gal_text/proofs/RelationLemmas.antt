-- Units word by word, and as a whole.
use Rattle.std.{specs.{List.{All, AllZip, Contains, IsDistinct, flat_map}, Prelude.nat_eq}, proofs.lemmas.{Bool.Decides.nat_tests, List.append-nil, Option.cond_some}}
use Rattle.std.proofs.Common.{◌≡◌, ◌≢◌, ℕ, ◌+◌, ◌-◌, ◌<◌, ◌≤◌, inl, inr, Bool, true, false, cond, ◌&&◌, eqb, ltb, List, [], ◌∷◌, ◌++◌, length, map, get_or, Option, Some, None, Result, Ok, Err, refl, sym, ap, subst, ◌∙◌, arith, append_assoc, rules}
use Rattle.std.proofs.lemmas.{Bool.{cond-false, eq-eqb, eqb-false, eqb-true, false_from_ne_true, ltb-false, ne_eqb, false≢true}, List.Folds.{Any-from_list_any, list_any-from_Any}}
use Rattle.std.proofs.lemmas.List.Elements.{All-nil, All-cons, All-head, All-tail, All-contains, All-weaker, All-append, All-map, All-from_recursion, recursion_from_All, Contains-append_left, Contains-push, Contains-push_cases, Contains-get_or}
use Rattle.{std.proofs.lemmas.Map.Keys.{IsDistinct-cons, IsDistinct-head, IsDistinct-tail}, field_text.specs.claim.Digits.{number_of, number_of_digits}}
use Rattle.gal_text.specs.{Relation.{Listing, IsListing, AreNames, IsWritten, AreWritten, blocks_of, links_of, IsSaid}, claim.Links.Lists, declared.fault.TextFault.TextFault}
use Rattle.gal_text.specs.claim.Units.{Progress, at_start, at_end, go_on, link_of, lists, known, block_of, has_number, neighbour_limit, neighbours_left, unit_read, count_read, neighbour_read, word_awaited, word_read, words_read, awaits_block}
use Rattle.gal_text.specs.declared.{fault.TextFault.TheVariants.{RepeatedUnit, OwnNeighbour, TooManyNeighbours, TrailingWord, EndsEarly, RepeatedNeighbour}, units.Awaited.Awaited}
use Rattle.gal_text.{specs.declared.units.Link.Link, proofs.LinkLemmas.{Contains-cases, Contains-here, Contains-there, lists_from_test, test_from_lists}}
use Rattle.gal_text.specs.declared.units.Awaited.TheVariants as awaited

-- ---- numbers in lists

pub has_from_contains : (xs : List ℕ) (x : ℕ) → Contains xs x → has_number xs x ≡ true
has_from_contains xs x c = list_any-from_Any (λ y. eqb y x) xs (c.0, x, c.1, c.2, eq-eqb x x refl)

pub contains_from_has : (xs : List ℕ) (x : ℕ) → has_number xs x ≡ true → Contains xs x
contains_from_has xs x has = search (rules, Any-from_list_any, eqb-true)

pub has_not : (xs : List ℕ) (x : ℕ) → ¬ Contains xs x → has_number xs x ≡ false
has_not xs x none = false_from_ne_true (has_number xs x) (λ has. none (contains_from_has xs x has))

pub not_contains : (xs : List ℕ) (x : ℕ) → has_number xs x ≡ false → ¬ Contains xs x
not_contains xs x has c = false≢true (sym has ∙ has_from_contains xs x c)

pub not_lists : (links : List Link) (a b : ℕ) → lists links a b ≡ false → ¬ Lists links a b
not_lists links a b has c = false≢true (sym has ∙ test_from_lists links a b c)

pub distinct_cons : (x : ℕ) (xs : List ℕ) → ¬ Contains xs x → IsDistinct nat_eq xs → IsDistinct nat_eq (x ∷ xs)
distinct_cons x xs none distinct = search (rules, false_from_ne_true, eqb-true, Contains-get_or, IsDistinct-cons, recursion_from_All)

pub distinct_head : (x : ℕ) (xs : List ℕ) → IsDistinct nat_eq (x ∷ xs) → ¬ Contains xs x
distinct_head x xs distinct c = search (rules, All-from_recursion, IsDistinct-head, All-contains, false≢true, eq-eqb)

pub distinct_none : IsDistinct nat_eq []
unfolding IsDistinct
distinct_none = tt

none_contained : {X : Type 0} (x : X) → ¬ Contains [] x
none_contained x c = absurd (omega (arith, c.1))

-- what isn't among more elements isn't among fewer
fewer : {X : Type 0} (xs : List X) (x y : X) → ¬ Contains (xs ++ y ∷ []) x → ¬ Contains xs x
fewer xs x y none c = none (Contains-append_left xs (y ∷ []) x c)

known_is : (ids : List ℕ) (o : Option ℕ) (id : ℕ) → known ids o ≡ Some id → (o ≡ Some id) × Contains ids id
known_is ids None id is = absurd (cc)
known_is ids (Some x) id is = let has = cond_some (has_number ids x) x id is in (ap Some has.1, subst (Contains ids) has.1 (contains_from_has ids x has.0))

-- ---- from units to the reading

abbrev standing : ℕ → Awaited → List ℕ → List Link → Progress
standing left next units links = record { left = left; next = next; units = units; links = links }

-- how the words are read to their end
abbrev Reads : List ℕ → Progress → ℕ → List (List ℕ) → Progress → Type 0
Reads ids q at ws p = go_on (words_read ids q at ws) at_end ≡ Ok p

one_more : (ids : List ℕ) (q r : Progress) (at : ℕ) (w : List ℕ) (more : List (List ℕ)) (p : Progress) → word_read ids q at w ≡ Ok r → Reads ids r (at + 1) more p → Reads ids q at (w ∷ more) p
one_more ids q r at w more p is rest = ap (λ (x : Result Progress TextFault). go_on (go_on x (λ next. words_read ids next (at + 1) more)) at_end) is ∙ rest

block_is : (ids word : List ℕ) (id : ℕ) → number_of_digits 15 word ≡ Some id → Contains ids id → block_of ids word ≡ Some id
block_is ids word id is there = ap (known ids) is ∙ ap (λ (b : Bool). cond b (Some id) None) (has_from_contains ids id there)

unit_word : (ids : List ℕ) (left : ℕ) (units : List ℕ) (links : List Link) (at : ℕ) (w : List ℕ) (id : ℕ) → 0 < left → number_of_digits 15 w ≡ Some id → Contains ids id → ¬ Contains units id
    → word_read ids (standing left awaited.Block units links) at w ≡ Ok (standing (left - 1) (awaited.Count id) (units ++ id ∷ []) links)
unit_word ids left units links at w id some is there fresh = search (rules, nat_tests, block_is, has_not)

count_word : (ids : List ℕ) (left : ℕ) (units : List ℕ) (links : List Link) (at : ℕ) (w : List ℕ) (u n : ℕ) → number_of 10 w ≡ Some n → n ≤ neighbour_limit
    → word_read ids (standing left (awaited.Count u) units links) at w ≡ Ok (standing left (neighbours_left u n) units links)
count_word ids left units links at w u n is few = search (rules, nat_tests)

neighbour_word : (ids : List ℕ) (left : ℕ) (units : List ℕ) (links : List Link) (at : ℕ) (w : List ℕ) (u k n : ℕ) → number_of_digits 15 w ≡ Some n → Contains ids n → n ≢ u → ¬ Lists links u n
    → word_read ids (standing left (awaited.Neighbour u k) units links) at w ≡ Ok (standing left (neighbours_left u (k - 1)) units (links ++ link_of u n ∷ []))
neighbour_word ids left units links at w u k n is there other fresh = search (rules, nat_tests, block_is, false_from_ne_true, lists_from_test)

still_fresh : (links : List Link) (u n m : ℕ) → ¬ Lists links u m → n ≢ m → ¬ Lists (links ++ link_of u n ∷ []) u m
still_fresh links u n m none differ listed = elim (Contains-push_cases links (link_of u n) (link_of u m) listed) [
  | inl before ↦ none before
  | inr same ↦ differ (ap (λ (l : Link). l.to) same)
]

-- what the neighbours of a unit are
record AreNeighbours (ids : List ℕ) (links : List Link) (u : ℕ) (ns : List ℕ) : Type 0 where
  neighbours_known : All (Contains ids) ns
  others : ¬ Contains ns u
  fresh : All (λ n. ¬ Lists links u n) ns
  different : IsDistinct nat_eq ns

neighbours_tail : (ids : List ℕ) (links : List Link) (u n : ℕ) (ns : List ℕ) → AreNeighbours ids links u (n ∷ ns) → AreNeighbours ids (links ++ link_of u n ∷ []) u ns
neighbours_tail ids links u n ns are = record {
  neighbours_known = All-tail (Contains ids) n ns are.neighbours_known;
  others = λ c. are.others (Contains-there n ns u c);
  fresh = λ k d inside. still_fresh links u n (get_or ns k d) (All-tail (λ m. ¬ Lists links u m) n ns are.fresh k d inside)
      (λ same. distinct_head n ns are.different (subst (Contains ns) (sym same) (Contains-get_or ns k d inside)));
  different = IsDistinct-tail nat_eq n ns are.different;
}

read_names : (ns : List ℕ) (names : List (List ℕ)) (ids : List ℕ) (left : ℕ) (units : List ℕ) (links : List Link) (u : ℕ) (rest : List (List ℕ)) (p : Progress) → AreNames ns names → AreNeighbours ids links u ns
    → ((at : ℕ) → Reads ids (standing left awaited.Block units (links ++ map (link_of u) ns)) at rest p) → (at : ℕ) → Reads ids (standing left (neighbours_left u (length ns)) units links) at (names ++ rest) p
read_names [] [] ids left units links u rest p are good on at =
    subst (λ (ls : List Link). Reads ids (standing left awaited.Block units ls) at rest p) (append-nil links) (on at)
read_names (n ∷ ns) (w ∷ ws) ids left units links u rest p are good on at =
    let k = length (n ∷ ns) in
    let after : length (n ∷ ns) - 1 ≡ length ns = omega arith in
    let there : Contains ids n = All-head (Contains ids) n ns good.neighbours_known in
    let other : n ≢ u = λ same. good.others (Contains-here n ns u same) in
    let fresh : ¬ Lists links u n = All-head (λ m. ¬ Lists links u m) n ns good.fresh in
    let more = read_names ns ws ids left units (links ++ link_of u n ∷ []) u rest p are.1 (neighbours_tail ids links u n ns good)
    (λ i. subst (λ (ls : List Link). Reads ids (standing left awaited.Block units ls) i rest p) (sym (append_assoc links (link_of u n ∷ []) (map (link_of u) ns))) (on i)) (at + 1) in
    subst (λ (x : Awaited). Reads ids (standing left x units links) at ((w ∷ ws) ++ rest) p)
    (sym (cond-false (eqb k 0) awaited.Block (awaited.Neighbour u k) (ne_eqb k 0 (λ none. omega arith))))
    (one_more ids (standing left (awaited.Neighbour u k) units links) (standing left (neighbours_left u (k - 1)) units (links ++ link_of u n ∷ [])) at w (ws ++ rest) p
    (neighbour_word ids left units links at w u k n are.0 there other fresh)
    (subst (λ (x : ℕ). Reads ids (standing left (neighbours_left u x) units (links ++ link_of u n ∷ [])) (at + 1) (ws ++ rest) p) (sym after) more))
read_names _ _ ids left units links u rest p are good on at = absurd are

-- what the units that are left are
record AreLeft (ids : List ℕ) (left : ℕ) (units : List ℕ) (links : List Link) (ls : List Listing) : Type 0 where
  count : length ls ≡ left
  each : All (IsListing ids) ls
  fresh : All (λ x. ¬ Contains units x) (blocks_of ls)
  different : IsDistinct nat_eq (blocks_of ls)
  listed : All (λ l. Contains units l.from) links

unit_neighbours : (ids units : List ℕ) (links : List Link) (u : Listing) → IsListing ids u → ¬ Contains units u.block → All (λ l. Contains units l.from) links → AreNeighbours ids links u.block u.neighbours
unit_neighbours ids units links u is fresh listed =
    let own : All (λ m. ¬ Lists links u.block m) u.neighbours =
    λ k d inside there. fresh (All-contains (λ l. Contains units l.from) links (link_of u.block (get_or u.neighbours k d)) listed there) in
    record { neighbours_known = is.neighbours_known; others = is.others; fresh = own; different = is.different }

left_tail : (ids : List ℕ) (left : ℕ) (units : List ℕ) (links : List Link) (u : Listing) (ls : List Listing) → AreLeft ids left units links (u ∷ ls) → AreLeft ids (left - 1) (units ++ u.block ∷ []) (links ++ map (link_of u.block) u.neighbours) ls
left_tail ids left units links u ls are = record {
  count = omega (arith, are.count);
  each = All-tail (IsListing ids) u ls are.each;
  fresh = λ k d inside. λ there. elim (Contains-push_cases units u.block (get_or (blocks_of ls) k d) there) [
    | inl before ↦ All-tail (λ x. ¬ Contains units x) u.block (blocks_of ls) are.fresh k d inside before
    | inr same ↦ distinct_head u.block (blocks_of ls) are.different (subst (Contains (blocks_of ls)) (sym same) (Contains-get_or (blocks_of ls) k d inside))
  ];
  different = IsDistinct-tail nat_eq u.block (blocks_of ls) are.different;
  listed = search (rules, All-append, All-weaker, Contains-append_left, All-map, Contains-push);
}

read_all : (ls : List Listing) (parts : List (List (List ℕ))) (ids : List ℕ) (left : ℕ) (units : List ℕ) (links : List Link) → AreLeft ids left units links ls → AllZip IsWritten ls parts
    → (at : ℕ) → Reads ids (standing left awaited.Block units links) at (flat_map (λ part. part) parts) (standing 0 awaited.Block (units ++ blocks_of ls) (links ++ links_of ls))
read_all [] [] ids left units links are written at = search (rules, append-nil)
read_all (u ∷ ls) (part ∷ parts) ids left units links are written at =
    let one = written.0 in
    let good : IsListing ids u = All-head (IsListing ids) u ls are.each in
    let fresh : ¬ Contains units u.block = All-head (λ x. ¬ Contains units x) u.block (blocks_of ls) are.fresh in
    let rest = flat_map (λ part. part) parts in
    let p : Progress = standing 0 awaited.Block (units ++ blocks_of (u ∷ ls)) (links ++ links_of (u ∷ ls)) in
    let us = units ++ u.block ∷ [] in
    let ks = links ++ map (link_of u.block) u.neighbours in
    let same : standing 0 awaited.Block (us ++ blocks_of ls) (ks ++ links_of ls) ≡ p =
    ap (λ (x : List ℕ). standing 0 awaited.Block x (ks ++ links_of ls)) (append_assoc units (u.block ∷ []) (blocks_of ls))
    ∙ ap (standing 0 awaited.Block (units ++ blocks_of (u ∷ ls))) (append_assoc links (map (link_of u.block) u.neighbours) (links_of ls)) in
    let on = λ (i : ℕ). subst (Reads ids (standing (left - 1) awaited.Block us ks) i rest) same
    (read_all ls parts ids (left - 1) us ks (left_tail ids left units links u ls are) written.1 i) in
    let named = read_names u.neighbours one.names ids (left - 1) us links u.block rest p one.names_are (unit_neighbours ids units links u good fresh are.listed) on in
    subst (λ (ws : List (List ℕ)). Reads ids (standing left awaited.Block units links) at (ws ++ rest) p) (sym one.words_are)
    (one_more ids (standing left awaited.Block units links) (standing (left - 1) (awaited.Count u.block) us links) at one.name (one.count ∷ one.names ++ rest) p
    (unit_word ids left units links at one.name u.block (omega (arith, are.count)) one.name_is good.known fresh)
    (one_more ids (standing (left - 1) (awaited.Count u.block) us links) (standing (left - 1) (neighbours_left u.block (length u.neighbours)) us links) (at + 1) one.count (one.names ++ rest) p
    (count_word ids (left - 1) us links (at + 1) one.count u.block (length u.neighbours) one.count_is good.few)
    (named (at + 1 + 1))))
read_all _ _ ids left units links are written at = absurd written

pub reading_from_said : (ids : List ℕ) (n : ℕ) (ws : List (List ℕ)) (p : Progress) → IsSaid ids n ws p → Reads ids (at_start n) 1 ws p
reading_from_said ids n ws p s =
    let left : AreLeft ids n [] [] s.listings =
    record { count = s.are.count; each = s.are.each; fresh = λ k d inside. none_contained (get_or (blocks_of s.listings) k d); different = s.are.different; listed = All-nil (λ (l : Link). Contains [] l.from) } in
    let read = read_all s.listings s.are.written.parts ids n [] [] left s.are.written.each 1 in
    subst (λ (x : List (List ℕ)). Reads ids (at_start n) 1 x p) (sym s.are.written.cut) (subst (Reads ids (at_start n) 1 (flat_map (λ part. part) s.are.written.parts)) (sym s.is) read)

-- ---- from the reading to units

-- what is wanting from a unit's block on
record Blocks (ids : List ℕ) (left : ℕ) (units : List ℕ) (links : List Link) (ws : List (List ℕ)) (p : Progress) : Type 0 where
  listings : List Listing
  count : length listings ≡ left
  each : All (IsListing ids) listings
  fresh : All (λ x. ¬ Contains units x) (blocks_of listings)
  different : IsDistinct nat_eq (blocks_of listings)
  written : AreWritten listings ws
  is : p ≡ standing 0 awaited.Block (units ++ blocks_of listings) (links ++ links_of listings)

-- the same from the first of so many neighbours on
record Names (ids : List ℕ) (left : ℕ) (units : List ℕ) (links : List Link) (u k : ℕ) (ws : List (List ℕ)) (p : Progress) : Type 0 where
  numbers : List ℕ
  names : List (List ℕ)
  rest : List (List ℕ)
  long : length numbers ≡ k
  cut : ws ≡ names ++ rest
  names_are : AreNames numbers names
  are : AreNeighbours ids links u numbers
  more : Blocks ids left units (links ++ map (link_of u) numbers) rest p

-- the same from the number of neighbours on
record Counted (ids : List ℕ) (left : ℕ) (units : List ℕ) (links : List Link) (u : ℕ) (ws : List (List ℕ)) (p : Progress) : Type 0 where
  word : List ℕ
  after : List (List ℕ)
  number : ℕ
  cut : ws ≡ word ∷ after
  count_is : number_of 10 word ≡ Some number
  few : number ≤ neighbour_limit
  names : Names ids left units links u number after p

abbrev Wanting : List ℕ → ℕ → Awaited → List ℕ → List Link → List (List ℕ) → Progress → Type 0
Wanting ids left awaited.Block units links ws p = Blocks ids left units links ws p
Wanting ids left (awaited.Count u) units links ws p = Counted ids left units links u ws p
Wanting ids left (awaited.Neighbour u k) units links ws p = Names ids left units links u (k - 1 + 1) ws p

at_none : (ids : List ℕ) (left : ℕ) (next : Awaited) (units : List ℕ) (links : List Link) (p : Progress) (b : Bool) → eqb left 0 ≡ b → cond (b && awaits_block next) (Ok (standing left next units links)) (Err EndsEarly) ≡ Ok p → Wanting ids left next units links [] p
at_none ids left awaited.Block units links p true none is =
    let zero_left : 0 ≡ left = sym (eqb-true left 0 none) in
    let same : standing left awaited.Block units links ≡ p = cc in
    search (rules, zero_left, same, All-nil, distinct_none, append-nil)
at_none ids left _ units links p true none is = absurd (cc)
at_none ids left _ units links p false none is = absurd (cc)

-- one more unit
unit_more : (ids : List ℕ) (left : ℕ) (units : List ℕ) (links : List Link) (w : List ℕ) (id : ℕ) (more : List (List ℕ)) (p : Progress) → left ≢ 0 → number_of_digits 15 w ≡ Some id → Contains ids id → ¬ Contains units id
    → Counted ids (left - 1) (units ++ id ∷ []) links id more p → Blocks ids left units links (w ∷ more) p
unit_more ids left units links w id more p some is there fresh c =
    let names = c.names in
    let rest = names.more in
    let u : Listing = record { block = id; neighbours = names.numbers } in
    let part = w ∷ c.word ∷ names.names in
    let cut : w ∷ more ≡ part ++ flat_map (λ x. x) rest.written.parts =
    ap (λ (x : List (List ℕ)). w ∷ x) c.cut ∙ ap (λ (x : List (List ℕ)). w ∷ c.word ∷ x) (names.cut ∙ ap (λ (x : List (List ℕ)). names.names ++ x) rest.written.cut) in
    let good : IsListing ids u = search (rules, names) in
    let one : IsWritten u part = record { name = w; count = c.word; names = names.names; words_are = refl; name_is = is; count_is = c.count_is ∙ ap Some (sym names.long); names_are = names.names_are } in
    record {
      listings = u ∷ rest.listings;
      count = omega (arith, rest.count);
      each = All-cons (IsListing ids) u rest.listings good rest.each;
      fresh = All-cons (λ x. ¬ Contains units x) id (blocks_of rest.listings) fresh
          (All-weaker (λ x. ¬ Contains (units ++ id ∷ []) x) (λ x. ¬ Contains units x) (λ x none. fewer units x id none) (blocks_of rest.listings) rest.fresh);
      different = distinct_cons id (blocks_of rest.listings) (λ again. All-contains (λ x. ¬ Contains (units ++ id ∷ []) x) (blocks_of rest.listings) id rest.fresh again (Contains-push units id)) rest.different;
      written = record { parts = part ∷ rest.written.parts; cut = cut; each = (one, rest.written.each) };
      is = search (rules, append_assoc);
    }

-- one more neighbour
name_more : (ids : List ℕ) (left : ℕ) (units : List ℕ) (links : List Link) (u k : ℕ) (w : List ℕ) (n : ℕ) (more : List (List ℕ)) (p : Progress) → number_of_digits 15 w ≡ Some n → Contains ids n → n ≢ u → ¬ Lists links u n
    → Names ids left units (links ++ link_of u n ∷ []) u k more p → Names ids left units links u (k + 1) (w ∷ more) p
name_more ids left units links u k w n more p is there other fresh c = record {
  numbers = n ∷ c.numbers;
  names = w ∷ c.names;
  rest = c.rest;
  long = omega (arith, c.long);
  cut = ap (λ (x : List (List ℕ)). w ∷ x) c.cut;
  names_are = (is, c.names_are);
  are = record {
    neighbours_known = All-cons (Contains ids) n c.numbers there c.are.neighbours_known;
    others = λ again. elim (Contains-cases n c.numbers u again) [ inl same ↦ other same | inr later ↦ c.are.others later ];
    fresh = All-cons (λ m. ¬ Lists links u m) n c.numbers fresh
        (All-weaker (λ m. ¬ Lists (links ++ link_of u n ∷ []) u m) (λ m. ¬ Lists links u m) (λ m none. fewer links (link_of u m) (link_of u n) none) c.numbers c.are.fresh);
    different = distinct_cons n c.numbers (λ again. All-contains (λ m. ¬ Lists (links ++ link_of u n ∷ []) u m) c.numbers n c.are.fresh again (Contains-push links (link_of u n))) c.are.different;
  };
  more = subst (λ (ls : List Link). Blocks ids left units ls c.rest p) (append_assoc links (link_of u n ∷ []) (map (link_of u) c.numbers)) c.more;
}

-- no neighbour, or so many
names_by : (ids : List ℕ) (left : ℕ) (units : List ℕ) (links : List Link) (u k : ℕ) (more : List (List ℕ)) (p : Progress) (b : Bool) → eqb k 0 ≡ b → Wanting ids left (cond b awaited.Block (awaited.Neighbour u k)) units links more p → Names ids left units links u k more p
names_by ids left units links u k more p true none wanting =
    let are : AreNeighbours ids links u [] =
    record { neighbours_known = All-nil (Contains ids); others = none_contained u; fresh = All-nil (λ m. ¬ Lists links u m); different = distinct_none } in
    let blocks = subst (λ (ls : List Link). Blocks ids left units ls more p) (sym (append-nil links)) wanting in
    record { numbers = []; names = []; rest = more; long = sym (eqb-true k 0 none); cut = refl; names_are = tt; are = are; more = blocks }
names_by ids left units links u k more p false some wanting = search (rules, nat_tests)

abbrev From : List ℕ → Progress → List (List ℕ) → Progress → Type 0
From ids q ws p = Wanting ids q.left q.next q.units q.links ws p

-- a test that isn't met gives no fault
no_fault : (b : Bool) (f : TextFault) (r : Result Progress TextFault) (q : Progress) → cond b (Err f) r ≡ Ok q → (b ≡ false) × (r ≡ Ok q)
no_fault true f r q is = absurd (cc)
no_fault false f r q is = (refl, is)

module _ (ids : List ℕ) (left : ℕ) (units : List ℕ) (links : List Link) (at : ℕ) (w : List ℕ) (more : List (List ℕ)) (p q : Progress) (on : From ids q more p) where
  unit_named : (o : Option ℕ) → left ≢ 0 → block_of ids w ≡ o → unit_read (standing left awaited.Block units links) at o ≡ Ok q → Blocks ids left units links (w ∷ more) p
  unit_named None some named is = absurd (cc)
  unit_named (Some id) some named is =
      let known = known_is ids (number_of_digits 15 w) id named in
      let fresh = no_fault (has_number units id) (RepeatedUnit id) _ q is in
      let same : q ≡ standing (left - 1) (awaited.Count id) (units ++ id ∷ []) links = let r = fresh.1 in (cc) in
      unit_more ids left units links w id more p some known.0 known.1 (not_contains units id fresh.0) (subst (λ (x : Progress). From ids x more p) same on)

  count_named : (u : ℕ) (o : Option ℕ) → number_of 10 w ≡ o → count_read (standing left (awaited.Count u) units links) u at o ≡ Ok q → Counted ids left units links u (w ∷ more) p
  count_named u None named is = absurd (cc)
  count_named u (Some n) named is =
      let fits = no_fault (ltb neighbour_limit n) (TooManyNeighbours u) _ q is in
      let same : q ≡ standing left (neighbours_left u n) units links = let r = fits.1 in (cc) in
      let few : n ≤ neighbour_limit = ltb-false neighbour_limit n fits.0 in
      search (rules, same, few, names_by)

  neighbour_named : (u k : ℕ) (o : Option ℕ) → block_of ids w ≡ o → neighbour_read (standing left (awaited.Neighbour u k) units links) u k at o ≡ Ok q → Names ids left units links u (k - 1 + 1) (w ∷ more) p
  neighbour_named u k None named is = absurd (cc)
  neighbour_named u k (Some n) named is =
      let known = known_is ids (number_of_digits 15 w) n named in
      let other = no_fault (eqb n u) (OwnNeighbour u) _ q is in
      let fresh = no_fault (lists links u n) (RepeatedNeighbour u n) _ q other.1 in
      let same : q ≡ standing left (neighbours_left u (k - 1)) units (links ++ link_of u n ∷ []) = let r = fresh.1 in (cc) in
      name_more ids left units links u (k - 1) w n more p known.0 known.1 (eqb-false n u other.0) (not_lists links u n fresh.0)
      (names_by ids left units (links ++ link_of u n ∷ []) u (k - 1) more p (eqb (k - 1) 0) refl (subst (λ (x : Progress). From ids x more p) same on))

  one_step : (next : Awaited) → word_awaited ids (standing left next units links) at w next ≡ Ok q → Wanting ids left next units links (w ∷ more) p
  one_step awaited.Block is = let some = no_fault (eqb left 0) (TrailingWord at) _ q is in unit_named (block_of ids w) (eqb-false left 0 some.0) refl some.1
  one_step (awaited.Count u) is = count_named u (number_of 10 w) refl is
  one_step (awaited.Neighbour u k) is = neighbour_named u k (block_of ids w) refl is

step_or_fault : (ids : List ℕ) (q : Progress) (at : ℕ) (w : List ℕ) (more : List (List ℕ)) (p : Progress) (r : Result Progress TextFault) → word_read ids q at w ≡ r → go_on (go_on r (λ next. words_read ids next (at + 1) more)) at_end ≡ Ok p
    → ((n : Progress) → Reads ids n (at + 1) more p → From ids n more p) → From ids q (w ∷ more) p
step_or_fault ids q at w more p (Ok n) is read on = one_step ids q.left q.units q.links at w more p n (on n read) q.next is
step_or_fault ids q at w more p (Err f) is read on = absurd (cc)

from_reading : (ids : List ℕ) (ws : List (List ℕ)) (q : Progress) (at : ℕ) (p : Progress) → Reads ids q at ws p → From ids q ws p
from_reading ids [] q at p read = at_none ids q.left q.next q.units q.links p (eqb q.left 0) refl read
from_reading ids (w ∷ more) q at p read = step_or_fault ids q at w more p (word_read ids q at w) refl read (λ n on. from_reading ids more n (at + 1) p on)

pub said_from_reading : (ids : List ℕ) (n : ℕ) (ws : List (List ℕ)) (p : Progress) → Reads ids (at_start n) 1 ws p → IsSaid ids n ws p
said_from_reading ids n ws p read =
    let b : Blocks ids n [] [] ws p = from_reading ids ws (at_start n) 1 p read in
    record { listings = b.listings; are = record { count = b.count; each = b.each; different = b.different; written = b.written }; is = b.is }

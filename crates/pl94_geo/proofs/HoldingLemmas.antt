-- One more taken record.
use Rattle.std.{specs.{List.{cons_option, IsDistinct}, Option.{option_map_or, option_map}}, proofs.lemmas.{Bool.Decides.nat_tests, Cmp.nat_eq_equiv, List.Folds.list_any-append}}
use Rattle.std.proofs.Common.{◌≡◌, ℕ, ◌<◌, ◌≤◌, Bool, true, false, not, cond, ◌||◌, eqb, leb, List, [], ◌∷◌, ◌++◌, length, Option, Some, None, Result, Ok, Err, is_some, is_none, refl, sym, ap, subst, ◌∙◌, arith, nat_eq, length-append, rules}
use Rattle.{std.proofs.lemmas.{List.{length-map, map-append, append-nil, Elements.{filter_map-append, All-push}}, Map.Keys.IsDistinct-push}, pl94_geo.specs.Entries.IsEntry}
use Rattle.{desk_model.specs.claim.GeographyModels.block_limit, pl94_geo.specs.{GeoFile.row_ids, Holding.{Holds, Takes, Judges}, Sets.has, claim.Entries.line_read}}
use Rattle.pl94_geo.specs.claim.Judging.{states_of, numbers_of, ids_of, blocks_of, geo_block, state_record_of, other_state, repeats, conflict, entries, entry_of, taken_entry, judged}
use Rattle.pl94_geo.specs.declared.{entry.{GeoRecord.GeoRecord, HeaderLineFault.{HeaderLineFault, TheVariants.TooManyBlocks}}, header.{GeoBlock.GeoBlock, Header.Header}}
use Rattle.pl94_geo.specs.declared.{header.HeaderRefusal.{HeaderRefusal, TheVariants.{Fault, Memory}}, number_set.NumberSet.NumberSet}

or-end : (a b : Bool) → (a || (b || false)) ≡ (b || a)
or-end a b = grind arith

pub cond_none : {A : Type 0} (b : Bool) (x : A) (o : Option A) → cond b (Some x) o ≡ None → (b ≡ false) × (o ≡ None)
cond_none true x o none = absurd (cc)
cond_none false x o none = (refl, none)

-- one more number
repeats-push : (ns : List ℕ) (n q : ℕ) → repeats (ns ++ n ∷ []) q ≡ (nat_eq n q || repeats ns q)
repeats-push ns n q = list_any-append (nat_eq q) ns (n ∷ []) ∙ or-end (repeats ns q) (nat_eq q n) ∙ ap (λ (b : Bool). b || repeats ns q) (nat_eq_equiv.symm q n)

pub numbers_of-append : (es more : List GeoRecord) → numbers_of (es ++ more) ≡ numbers_of es ++ numbers_of more
numbers_of-append es more = map-append (λ (x : GeoRecord). x.number) es more

pub states_of-append : (es more : List GeoRecord) → states_of (es ++ more) ≡ states_of es ++ states_of more
states_of-append es more = map-append (λ (x : GeoRecord). x.state) es more

pub ids_of-append : (es more : List GeoRecord) → ids_of (es ++ more) ≡ ids_of es ++ ids_of more
ids_of-append es more = filter_map-append (λ (x : GeoRecord). x.block) es more

-- the first state record
state_record_of-block : (es : List GeoRecord) (e : GeoRecord) (id : ℕ) → e.block ≡ Some id → state_record_of (es ++ e ∷ []) ≡ state_record_of es
state_record_of-block [] e id is = rw is refl
state_record_of-block (x ∷ es) e id is = ap (λ (r : Option ℕ). cond (is_none x.block) (Some x.number) r) (state_record_of-block es e id is)

state_record_of-first : (es : List GeoRecord) (e : GeoRecord) → e.block ≡ None → state_record_of es ≡ None → state_record_of (es ++ e ∷ []) ≡ Some e.number
state_record_of-first [] e is none = rw is refl
state_record_of-first (x ∷ es) e is none =
    let later = cond_none (is_none x.block) x.number (state_record_of es) none in rw later.0 (state_record_of-first es e is later.1)

-- all are of the new record's state
or-self : (b : Bool) → (b || (b || false)) ≡ b
or-self b = grind arith

own_state : (o : Option ℕ) (state s : ℕ) → option_map_or (λ own. not (eqb own state)) o false ≡ false
    → (option_map_or (λ own. not (eqb own s)) o false || (not (eqb state s) || false)) ≡ not (eqb state s)
own_state None state s same = grind arith
own_state (Some own) state s same = search (rules, nat_tests, or-self)

other_state-push : (h : Header) (es : List GeoRecord) (e : GeoRecord) (s : ℕ) → ((q : ℕ) → other_state es q ≡ option_map_or (λ own. not (eqb own q)) h.state false)
    → other_state es e.state ≡ false → other_state (es ++ e ∷ []) s ≡ not (eqb e.state s)
other_state-push h es e s state same = search (rules, states_of-append, list_any-append, own_state)

row_ids-cons : (e : GeoRecord) (o : Option ℕ) (bs : List GeoBlock) (ids : List ℕ) → row_ids bs ≡ ids
    → row_ids (cons_option (option_map (λ (id : ℕ). let b : GeoBlock = record { number = e.number; id = id; city = e.city } in b) o) bs) ≡ cons_option o ids
row_ids-cons e None bs ids same = same
row_ids-cons e (Some id) bs ids same = ap (λ (t : List ℕ). id ∷ t) same

pub row_ids-blocks_of : (es : List GeoRecord) → row_ids (blocks_of es) ≡ ids_of es
row_ids-blocks_of [] = refl
row_ids-blocks_of (e ∷ es) = row_ids-cons e e.block (blocks_of es) (ids_of es) (row_ids-blocks_of es)

-- as many blocks as their numbers
pub length-blocks_of : (es : List GeoRecord) → length (blocks_of es) ≡ length (ids_of es)
length-blocks_of es = sym (length-map (blocks_of es) (λ (b : GeoBlock). b.id)) ∙ ap length (row_ids-blocks_of es)

more_numbers : (old new : NumberSet) (ns : List ℕ) (n q : ℕ) → ((q : ℕ) → repeats ns q ≡ has old q) → ((q : ℕ) → has new q ≡ (nat_eq n q || has old q))
    → repeats (ns ++ n ∷ []) q ≡ has new q
more_numbers old new ns n q same grown = repeats-push ns n q ∙ ap (λ (b : Bool). nat_eq n q || b) (same q) ∙ sym (grown q)

-- no record yet
pub holds_none : (h : Header) → h.state ≡ None → h.state_record ≡ None → h.blocks.items ≡ [] → ((n : ℕ) → has h.ids n ≡ false) → ((n : ℕ) → has h.numbers n ≡ false) → Holds h []
unfolding IsDistinct
holds_none h state state_record blocks ids numbers = search rules

-- a block that goes with the records before it
pub holds_block : (h new : Header) (es : List GeoRecord) (e : GeoRecord) (id : ℕ) → Holds h es → IsEntry e → e.block ≡ Some id → other_state es e.state ≡ false
    → has h.ids id ≡ false → ((q : ℕ) → has new.ids q ≡ (nat_eq id q || has h.ids q))
    → has h.numbers e.number ≡ false → ((q : ℕ) → has new.numbers q ≡ (nat_eq e.number q || has h.numbers q))
    → new.state ≡ Some e.state → new.state_record ≡ h.state_record → new.blocks.items ≡ h.blocks.items ++ record { number = e.number; id = id; city = e.city } ∷ []
    → length h.blocks.items < block_limit → (conflict es e ≡ None) × Holds new (es ++ e ∷ [])
holds_block h new es e id holds valid is same new_id ids new_number numbers state state_record blocks few =
    let no_id : repeats (ids_of es) id ≡ false = holds.ids id ∙ new_id in
    let no_number : repeats (numbers_of es) e.number ≡ false = holds.numbers e.number ∙ new_number in
    let count : length (ids_of es) < block_limit = omega (arith, length-blocks_of es, ap length holds.blocks) in
    let room : leb block_limit (length (ids_of es)) ≡ false = grind (arith, nat_tests) in
    let ids_are : ids_of (es ++ e ∷ []) ≡ ids_of es ++ id ∷ [] = ids_of-append es (e ∷ []) ∙ ap (λ (o : Option ℕ). ids_of es ++ cons_option o []) is in (
      rw (same, is, no_id, no_number, room) refl,
      record {
        state = λ s. other_state-push h es e s holds.state same ∙ sym (ap (λ (o : Option ℕ). option_map_or (λ own. not (eqb own s)) o false) state);
        state_record = state_record ∙ holds.state_record ∙ sym (state_record_of-block es e id is);
        blocks = blocks ∙ ap (λ (bs : List GeoBlock). bs ++ record { number = e.number; id = id; city = e.city } ∷ []) holds.blocks
            ∙ sym (filter_map-append geo_block es (e ∷ []) ∙ ap (λ (o : Option ℕ). blocks_of es ++ cons_option (option_map (λ (i : ℕ). let b : GeoBlock = record { number = e.number; id = i; city = e.city } in b) o) []) is);
        ids = λ q. ap (λ (ns : List ℕ). repeats ns q) ids_are ∙ more_numbers h.ids new.ids (ids_of es) id q holds.ids ids;
        numbers = λ q. ap (λ (ns : List ℕ). repeats ns q) (numbers_of-append es (e ∷ [])) ∙ more_numbers h.numbers new.numbers (numbers_of es) e.number q holds.numbers numbers;
        distinct_ids = subst (IsDistinct nat_eq) (sym ids_are) (IsDistinct-push nat_eq_equiv (ids_of es) id holds.distinct_ids no_id);
        distinct_numbers = subst (IsDistinct nat_eq) (sym (numbers_of-append es (e ∷ []))) (IsDistinct-push nat_eq_equiv (numbers_of es) e.number holds.distinct_numbers no_number);
        few = omega (arith, ap length ids_are, length-append (ids_of es) (id ∷ []));
        entries = All-push IsEntry es e holds.entries valid;
      },
    )

-- the state record
pub holds_state : (h new : Header) (es : List GeoRecord) (e : GeoRecord) → Holds h es → IsEntry e → e.block ≡ None → other_state es e.state ≡ false → h.state_record ≡ None
    → has h.numbers e.number ≡ false → ((q : ℕ) → has new.numbers q ≡ (nat_eq e.number q || has h.numbers q))
    → new.state ≡ Some e.state → new.state_record ≡ Some e.number → new.blocks.items ≡ h.blocks.items → new.ids ≡ h.ids → (conflict es e ≡ None) × Holds new (es ++ e ∷ [])
holds_state h new es e holds valid is same first new_number numbers state state_record blocks ids =
    let no_number : repeats (numbers_of es) e.number ≡ false = holds.numbers e.number ∙ new_number in
    let none : state_record_of es ≡ None = sym holds.state_record ∙ first in
    let ids_are : ids_of (es ++ e ∷ []) ≡ ids_of es = ids_of-append es (e ∷ []) ∙ ap (λ (o : Option ℕ). ids_of es ++ cons_option o []) is ∙ append-nil (ids_of es) in (
      rw (same, is, none, no_number) refl,
      record {
        state = λ s. other_state-push h es e s holds.state same ∙ sym (ap (λ (o : Option ℕ). option_map_or (λ own. not (eqb own s)) o false) state);
        state_record = state_record ∙ sym (state_record_of-first es e is none);
        blocks = blocks ∙ holds.blocks
            ∙ sym (filter_map-append geo_block es (e ∷ []) ∙ ap (λ (o : Option ℕ). blocks_of es ++ cons_option (option_map (λ (i : ℕ). let b : GeoBlock = record { number = e.number; id = i; city = e.city } in b) o) []) is ∙ append-nil (blocks_of es));
        ids = λ q. ap (λ (ns : List ℕ). repeats ns q) ids_are ∙ holds.ids q ∙ ap (λ (set : NumberSet). has set q) (sym ids);
        numbers = λ q. ap (λ (ns : List ℕ). repeats ns q) (numbers_of-append es (e ∷ [])) ∙ more_numbers h.numbers new.numbers (numbers_of es) e.number q holds.numbers numbers;
        distinct_ids = subst (IsDistinct nat_eq) (sym ids_are) holds.distinct_ids;
        distinct_numbers = subst (IsDistinct nat_eq) (sym (numbers_of-append es (e ∷ []))) (IsDistinct-push nat_eq_equiv (numbers_of es) e.number holds.distinct_numbers no_number);
        few = omega (arith, ap length ids_are, holds.few);
        entries = All-push IsEntry es e holds.entries valid;
      },
    )

-- a block too many
pub too_many : (h : Header) (es : List GeoRecord) (e : GeoRecord) (id : ℕ) → Holds h es → e.block ≡ Some id → other_state es e.state ≡ false
    → has h.ids id ≡ false → has h.numbers e.number ≡ false → block_limit ≤ length h.blocks.items → conflict es e ≡ Some TooManyBlocks
too_many h es e id holds is same new_id new_number many = search (rules, holds.ids, holds.numbers, length-blocks_of, nat_tests)

-- ---- lines

pub entries_with : (ls : List (List ℕ)) (line : List ℕ) (r : Result (Option GeoRecord) HeaderLineFault) → line_read line ≡ r
    → entries (ls ++ line ∷ []) ≡ entries ls ++ cons_option (taken_entry r) []
entries_with ls line r is = filter_map-append entry_of ls (line ∷ []) ∙ ap (λ (x : Result (Option GeoRecord) HeaderLineFault). entries ls ++ cons_option (taken_entry x) []) is

pub entries_passed : (ls : List (List ℕ)) (line : List ℕ) → line_read line ≡ Ok None → entries (ls ++ line ∷ []) ≡ entries ls
entries_passed ls line is = entries_with ls line (Ok None) is ∙ append-nil (entries ls)

-- what taking its record says of the line
pub judges : (ls : List (List ℕ)) (line : List ℕ) (e : GeoRecord) (r : Result (Unit {0}) HeaderRefusal) (new : Header) → line_read line ≡ Ok (Some e) → Takes (entries ls) e r new → Judges ls line r new
judges ls line e (Ok u) new is took = (ap (judged (entries ls)) is ∙ took.0, subst (Holds new) (sym (entries_with ls line (Ok (Some e)) is)) took.1)
judges ls line e (Err (Fault f)) new is took = ap (judged (entries ls)) is ∙ took
judges ls line e (Err Memory) new is took = tt

pub none_from_test : (o : Option ℕ) → is_some o ≡ false → o ≡ None
none_from_test o e = grind arith

-- The rows of a revision, county by county.
use Rattle.std.{specs.{List.zip, Prelude.{filter, if◌then◌else◌, IfSome}}, proofs.{Math.Nat.min-le_right, lemmas.{Bool.cases_Bool, List.Sums.sum_by-cons}}}
use Rattle.std.proofs.Common.{rules, ◌≡◌, ◌<◌, ◌≤◌, ◌+◌, ◌-◌, ◌*◌, ℕ, zero, suc, Bool, List, [], ◌∷◌, length, map, take, drop, get_or, Option, Some, None, sum_by, refl, sym, ap, ◌∙◌, arith}
use Rattle.{std.proofs.lemmas.List.{drop-drop, drop_all, drop_more, length-take, length-drop, length-map}, desk_model.specs.Ranges.{laid, ranges_of, ListsAreCut}}
use Rattle.desk_model.specs.{claim.{Geography.GeographyModel, Ranges.{parts, sizes}, Room.{rows_for, differs, revision_rows}}, declared.ranges.CountyRange.CountyRange}
use Rattle.desk_store_catalogue.{specs.Cutting.{AreWithin, changes_in, range_rows}, proofs.Cutting.changed_rows}

abbrev rows_in : List (List ℕ) → ℕ
rows_in ps = sum_by (λ p. rows_for 512 (length p)) ps + 2 * length ps

more_rows : (p : List ℕ) (ps : List (List ℕ)) → rows_in (p ∷ ps) ≡ rows_for 512 (length p) + 2 + rows_in ps
more_rows p ps = omega (arith, sum_by-cons (λ p. rows_for 512 (length p)) p ps)

abbrev changed_parts : List (List ℕ) → List (List ℕ) → List (List ℕ)
changed_parts last new = map (λ e. e.1) (filter differs (zip last new))

-- the parts are as long as they are to be
abbrev Fit : List ℕ → ℕ → List ℕ → Type 0
Fit ns first xs = map length (parts ns (drop first xs)) ≡ ns

abbrev head : List ℕ → ℕ
head ns = get_or ns 0 0

head_fits : (n : ℕ) (ns : List ℕ) (first : ℕ) (xs : List ℕ) → Fit (n ∷ ns) first xs → length (take n (drop first xs)) ≡ n
head_fits n ns first xs fit = ap head fit

rest_fits : (n : ℕ) (ns : List ℕ) (first : ℕ) (xs : List ℕ) → Fit (n ∷ ns) first xs → Fit ns (first + n) xs
rest_fits n ns first xs fit = ap (λ l. map length (parts ns l)) (sym (drop-drop n first xs)) ∙ ap (drop 1) fit

-- how many parts there are
pub laid_long : (first : ℕ) (ns : List ℕ) → length (laid first ns) ≡ length ns
laid_long first [] = refl
laid_long first (n ∷ ns) = ap suc (laid_long (first + n) ns)

all_rows : (ns : List ℕ) (first : ℕ) (new : List ℕ) → Fit ns first new → changed_rows (changes_in None new (laid first ns)) (laid first ns) ≡ rows_in (parts ns (drop first new))
all_rows [] first new fit = refl
all_rows (n ∷ ns) first new fit =
    let p = take n (drop first new) in
    rw (more_rows p (parts ns (drop n (drop first new))), head_fits n ns first new fit, drop-drop n first new, all_rows ns (first + n) new (rest_fits n ns first new fit))

none_more : (k : ℕ) → 0 + k ≡ k
none_more k = omega arith

changed_cons : (a b : List ℕ) (l m : List (List ℕ)) → rows_in (changed_parts (a ∷ l) (b ∷ m)) ≡ (if differs (a, b) then rows_for 512 (length b) + 2 else 0) + rows_in (changed_parts l m)
changed_cons a b l m = search (rules, cases_Bool, more_rows, none_more)

some_rows : (ns : List ℕ) (first : ℕ) (last new : List ℕ) → Fit ns first new
    → changed_rows (changes_in (Some last) new (laid first ns)) (laid first ns) ≡ rows_in (changed_parts (parts ns (drop first last)) (parts ns (drop first new)))
some_rows [] first last new fit = refl
some_rows (n ∷ ns) first last new fit =
    let more = changed_cons (take n (drop first last)) (take n (drop first new)) (parts ns (drop n (drop first last))) (parts ns (drop n (drop first new))) in
    rw (more, head_fits n ns first new fit, drop-drop n first last, drop-drop n first new, some_rows ns (first + n) last new (rest_fits n ns first new fit))

in_turn : (g : GeographyModel) (ps : List (List ℕ)) → 2 + rows_for 128 (length (sizes g)) + rows_in ps
    ≡ 2 + rows_for 128 (length (sizes g)) + sum_by (λ p. rows_for 512 (length p)) ps + 2 * length ps
in_turn g ps = omega arith

-- the rows of a revision of a geography
pub rows_told : ListsAreCut → (g : GeographyModel) (last : Option (List ℕ)) (new : List ℕ) → length new ≡ length g.blocks → IfSome last (λ l. length l ≡ length g.blocks)
    → 2 + rows_for 128 (length (ranges_of g)) + changed_rows (changes_in last new (ranges_of g)) (ranges_of g) ≡ revision_rows g last new
rows_told are_cut g None new long old = search (rules, laid_long, all_rows, in_turn)
rows_told are_cut g (Some last) new long old = search (rules, laid_long, some_rows, in_turn)

-- the rows from a county on are its own and those of the counties after it
pub rows_at : (changes : List Bool) (ranges : List CountyRange) (place : ℕ) (b : Bool) (d : CountyRange) → place < length changes → place < length ranges
    → changed_rows (drop place changes) (drop place ranges) ≡ range_rows (get_or changes place b) (get_or ranges place d) + changed_rows (drop (place + 1) changes) (drop (place + 1) ranges)
rows_at changes ranges place b d told within = λ i. changed_rows (drop_more changes place b told i) (drop_more ranges place d within i)

-- and after the last one there are none
no_rows : (bs : List Bool) → changed_rows bs [] ≡ 0
no_rows [] = refl
no_rows (b ∷ bs) = refl

pub nothing_left : (changes : List Bool) (ranges : List CountyRange) (place : ℕ) → length ranges ≤ place → changed_rows (drop place changes) (drop place ranges) ≡ 0
nothing_left changes ranges place past = ap (λ (cs : List CountyRange). changed_rows (drop place changes) cs) (drop_all place ranges past) ∙ no_rows (drop place changes)

-- ---- within
next_within : (n : ℕ) (ns : List ℕ) (first : ℕ) (xs : List ℕ) → Fit (n ∷ ns) first xs → first ≤ length xs → first + n ≤ length xs
next_within n ns first xs fit from = search (rules, length-drop, length-take, head_fits, min-le_right)

within_laid : (ns : List ℕ) (first : ℕ) (xs : List ℕ) → Fit ns first xs → first ≤ length xs → AreWithin (length xs) (laid first ns)
within_laid [] first xs fit from k d less = absurd (omega arith)
within_laid (n ∷ ns) first xs fit from zero d less = next_within n ns first xs fit from
within_laid (n ∷ ns) first xs fit from (suc k) d less = within_laid ns (first + n) xs (rest_fits n ns first xs fit) (next_within n ns first xs fit from) k d (omega arith)

pub ranges_within : ListsAreCut → (g : GeographyModel) → AreWithin (length g.blocks) (ranges_of g)
ranges_within are_cut g = search (rules, length-map, within_laid)

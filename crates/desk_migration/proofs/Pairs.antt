-- Plans that come to hold chunks, one pair after the other.
use Rattle.std.{specs.FinMap.get, proofs.Common.{rules, take, ◌≡◌, ◌+◌, ℕ, List, [], ◌∷◌, ◌++◌, length, Bool, refl, sym, ap, subst, ◌∙◌, arith, length-append}}
use Rattle.{std.proofs.lemmas.List.Elements.All-weaker, desk_migration.specs.{Walks.{HoldsEach, HoldsIt, IsWalking, IsWithin}, declared.walks.UnheldCursor.UnheldCursor}}
use Rattle.{desk_migration.{specs.claim.Holding.{AllAreHeld, AreHeldTo, AreUnheld, IsHeldBy, IsUnheld, hold_pairs}, proofs.PartRows.named_fits}, desk_model.specs.claim.Desk.Desk}
use Rattle.{desk_store_pages.specs.claim.Desks.IsMapOf, desk_store_rows.specs.{MigrationLaws.{HoldsNamed, NamedIsHeld}, claim.{Rows.KeyMap, Shares.hold, Tidy.{IsNamedBy, Tidy}}}}
use Rattle.desk_store_rows.proofs.OneGeography.{no_value}

-- ---- one pair
pub pair_held : NamedIsHeld → (m : KeyMap) (tidy : Tidy m) (plan number : ℕ) → IsUnheld m plan number → HoldsNamed m tidy.next tidy.new plan number (hold m plan number)
pair_held law m tidy plan number is = law m tidy plan number is.fits.1 is.named

-- what was passed stays so
still_done : NamedIsHeld → (m : KeyMap) (tidy : Tidy m) (plan number : ℕ) → IsUnheld m plan number → (from : List ℕ) → AreHeldTo from m → AreHeldTo from (hold m plan number)
still_done law m tidy plan number is from done = λ other x named short.
    let held = pair_held law m tidy plan number is in
    let before : IsNamedBy m other x = record {
      revision = named.revision;
      index = named.index;
      part_fits = named.part_fits;
      numbers = named.numbers;
      chunks = named.chunks;
      row = sym (held.rest 82 (λ e. absurd (omega arith)) (λ e. absurd (omega arith)) _) ∙ named.row;
      among = named.among;
    } in
    held.still other x (named_fits m other x before) (done other x before short)

tidy_held : NamedIsHeld → (m : KeyMap) (tidy : Tidy m) (plan number : ℕ) → IsUnheld m plan number → Tidy (hold m plan number)
tidy_held law m tidy plan number is = (pair_held law m tidy plan number is).is.tidy.0

-- what a walk knows stays so
still_each : NamedIsHeld → (m : KeyMap) (tidy : Tidy m) (plan number : ℕ) → IsUnheld m plan number → (other : ℕ) (numbers : List ℕ) → HoldsEach other numbers m → HoldsEach other numbers (hold m plan number)
still_each law m tidy plan number is other numbers held =
    All-weaker (HoldsIt other m) (HoldsIt other (hold m plan number)) (λ x one. (one.0, (pair_held law m tidy plan number is).still other x one.0 one.1)) numbers held

still_within : NamedIsHeld → (m : KeyMap) (tidy : Tidy m) (plan number : ℕ) → IsUnheld m plan number → (walk : UnheldCursor) → IsWithin walk m → IsWithin walk (hold m plan number)
still_within law m tidy plan number is walk within =
    let held = pair_held law m tidy plan number is in
    record {
      revision = within.revision;
      index = within.index;
      fits = within.fits;
      key_is = within.key_is;
      chunks = within.chunks;
      row = ap (get (hold m plan number)) within.key_is ∙ held.rest 82 (λ e. absurd (omega arith)) (λ e. absurd (omega arith)) _ ∙ ap (get m) (sym within.key_is) ∙ within.row;
      held = still_each law m tidy plan number is walk.part.plan (take walk.place walk.part.numbers.items) within.held;
    }

pub still_walking : NamedIsHeld → (m : KeyMap) (plan number : ℕ) → IsUnheld m plan number → (walk : UnheldCursor) → IsWalking walk m → IsWalking walk (hold m plan number)
still_walking law m plan number is walk was = search (tidy_held, was.tidy, still_done, walk.from, was.done, still_within, was.within, still_each, walk.seen.plan)

map_held : NamedIsHeld → (m : KeyMap) (new : Bool) (d : Desk) (plan number : ℕ) → IsUnheld m plan number → IsMapOf new m d → IsMapOf new (hold m plan number) d
map_held law m new d plan number is of =
    let held = pair_held law m of.tidy plan number is in
    record { desk = held.is.desk d of.desk; tidy = held.is.tidy.0; version = held.is.tidy.2 ∙ of.version; limits = of.limits }

-- ---- several
map_pairs : NamedIsHeld → (pairs : List (ℕ × ℕ)) (m : KeyMap) (new : Bool) (d : Desk) → AreUnheld m pairs → IsMapOf new m d → IsMapOf new (hold_pairs m pairs) d
map_pairs law [] m new d all is = is
map_pairs law (pair ∷ pairs) m new d all is = map_pairs law pairs (hold m pair.0 pair.1) new d all.1 (map_held law m new d pair.0 pair.1 all.0 is)

pub map_by : NamedIsHeld → (count : ℕ) (m n : KeyMap) (new : Bool) (d : Desk) → IsHeldBy count m n → IsMapOf new m d → IsMapOf new n d
map_by law count m n new d by is = subst (λ (k : KeyMap). IsMapOf new k d) (sym by.rest) (map_pairs law by.pairs m new d by.unheld is)

pub unheld_more : (pairs more : List (ℕ × ℕ)) (m : KeyMap) → AreUnheld m pairs → AreUnheld (hold_pairs m pairs) more → AreUnheld m (pairs ++ more)
unheld_more [] more m all next = next
unheld_more (pair ∷ pairs) more m all next = (all.0, unheld_more pairs more (hold m pair.0 pair.1) all.1 next)

pub hold_more : (pairs more : List (ℕ × ℕ)) (m : KeyMap) → hold_pairs (hold_pairs m pairs) more ≡ hold_pairs m (pairs ++ more)
hold_more [] more m = refl
hold_more (pair ∷ pairs) more m = hold_more pairs more (hold m pair.0 pair.1)

pub then_by : (count more : ℕ) (m n k : KeyMap) → IsHeldBy count m n → IsHeldBy more n k → IsHeldBy (count + more) m k
then_by count more m n k one next = search (rules, one.pairs, next.pairs, length-append, one.count_is, next.count_is, unheld_more, one.unheld, next.unheld, hold_more)

pub none_by : (m : KeyMap) → IsHeldBy 0 m m
none_by m = record { pairs = []; count_is = refl; unheld = tt; rest = refl }

pub one_by : (m : KeyMap) (plan number : ℕ) → IsUnheld m plan number → IsHeldBy 1 m (hold m plan number)
one_by m plan number is = record { pairs = (plan, number) ∷ []; count_is = refl; unheld = (is, tt); rest = refl }

-- ---- whether there were any
some_unheld : (pairs : List (ℕ × ℕ)) (m : KeyMap) → (length pairs ≡ 0 → ⊥) → AreUnheld m pairs → AllAreHeld m → ⊥
some_unheld [] m some all held = some refl
some_unheld (pair ∷ pairs) m some all held = no_value [] (sym (held pair.0 pair.1 all.0.named) ∙ all.0.lacks)

pub not_all : (count : ℕ) (m n : KeyMap) → (count ≡ 0 → ⊥) → IsHeldBy count m n → AllAreHeld m → ⊥
not_all count m n some by held = some_unheld by.pairs m (λ none. some (sym by.count_is ∙ none)) by.unheld held

no_pairs : (pairs : List (ℕ × ℕ)) (m : KeyMap) → length pairs ≡ 0 → hold_pairs m pairs ≡ m
no_pairs [] m none = refl
no_pairs (pair ∷ pairs) m none = absurd (omega arith)

pub same_map : (count : ℕ) (m n : KeyMap) → count ≡ 0 → IsHeldBy count m n → n ≡ m
same_map count m n zero by = by.rest ∙ no_pairs by.pairs m (by.count_is ∙ zero)

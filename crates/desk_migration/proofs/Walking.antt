-- Steps of a walk over parts of revisions.
use Rattle.std.{specs.{FinMap.{entries, get}, Prelude.IfSome}, proofs.Common.{rules, ◌≡◌, ◌<◌, ℕ, List, [], length, take, get_or, Bool, true, false, Option, Some, sym, subst}}
use Rattle.{std.proofs.lemmas.List.Elements.Contains-get_or, btree_scan.specs.declared.rows.Row.Row, desk_migration.specs.{Outcomes.{IsReadAs, IsToldAt}, declared.parts.Part.Part}}
use Rattle.desk_migration.specs.{Parts.{IsPartFrom, IsPartRow, IsUnderWay}, Walks.{after, HoldsEach, IsNextPart, IsWalking}, claim.Holding.{AreHeldTo, IsUnheld}}
use Rattle.{desk_migration.specs.declared.walks.UnheldCursor.UnheldCursor, desk_store_rows.specs.claim.{Keys.{Fits, holding, part}, Lists.chunks_bytes, Rows.{KeyMap, Lacks}}}
use Rattle.{page_btree.specs.node.Places.entries_from, desk_migration.proofs.Order.{fewer_after, first_itself}}
use Rattle.desk_migration.proofs.PartRows.{part_passed, part_reached, part_row, read_as, stands_held}
use Rattle.desk_store_opening.proofs.tidy.FirstRows.{first_there}
use Rattle.desk_store_opening.proofs.chunk_table.Committing.{both}
use Rattle.desk_store_opening.specs.chunk_table.Holding as chunk

-- ---- the beginning
pub begins_walking : (m : KeyMap) (from : List ℕ) (walk : UnheldCursor) → walk.from ≡ from → walk.is_within ≡ false → walk.seen.numbers.items ≡ [] → IsUnderWay from m → IsWalking walk m
begins_walking m from walk same outside none way = search (rules, way.tidy, way.done, both, walk.is_within, walk.seen.plan)

-- ---- going into a part
pub enters_part : (m : KeyMap) (old new : UnheldCursor) (row : Row) → IsWalking old m → IsPartFrom true old.from row m → IsReadAs row new.part → new.from ≡ row.key → new.is_within ≡ true → new.place ≡ 0 → new.seen ≡ old.seen → IsWalking new m × IsNextPart old new m
enters_part m old new row walking found read from within place seen =
    let of = part_row m old.from row walking.tidy found in
    let plans : new.part.plan ≡ of.plan = (read_as row of new.part read).0 in
    let there : get m row.key ≡ Some row.value = first_there m old.from (row.key, row.value) found.0.0 found.0.1 in (
      record {
        tidy = walking.tidy;
        done = subst (λ (k : List ℕ). AreHeldTo k m) (sym from) (part_reached m walking.tidy old.from row found.0 walking.done);
        within = λ on. search (rules, of.revision, of.index, of.fits, of.key_is, read.chunks, new.part.plan);
        seen = subst (λ (p : Part). HoldsEach p.plan p.numbers.items m) (sym seen) walking.seen;
      },
      search (rules, found.0.0),
    )

pub stays_within : (m : KeyMap) (walk : UnheldCursor) → walk.is_within ≡ true → IsWalking walk m → IsWalking walk m × IsNextPart walk walk m
stays_within m walk on walking = search (rules, first_itself, walk.from)

-- ---- within a part
abbrev pub at_place : UnheldCursor → ℕ → UnheldCursor
at_place walk place = record { from = walk.from; is_within = walk.is_within; part = walk.part; place = place; seen = walk.seen }

module _ (m : KeyMap) (walk : UnheldCursor) (walking : IsWalking walk m) (on : walk.is_within ≡ true) where
  -- a chunk at a place isn't held, and those before it are
  pub reaches : (place : ℕ) → HoldsEach walk.part.plan (take place walk.part.numbers.items) m → place < length walk.part.numbers.items → Lacks m (holding walk.part.plan (get_or walk.part.numbers.items place 0))
      → IsWalking (at_place walk place) m × IsUnheld m walk.part.plan (get_or walk.part.numbers.items place 0)
  reaches place held less lacks = search (rules, walking.within, walk.part.plan, Contains-get_or, walking.tidy, walking.done, walking.seen)

  -- each chunk is held
  pub passes : (old new : UnheldCursor) → IsNextPart old walk m → HoldsEach walk.part.plan walk.part.numbers.items m → new.from ≡ after walk.from → new.is_within ≡ false → new.seen ≡ walk.part
      → IsWalking new m × (length (entries_from new.from (entries m)) < length (entries_from old.from (entries m)))
  passes old new next held from outside seen =
      let within = walking.within on in
      let row : Row = record { key = walk.from; value = chunks_bytes walk.part.numbers.items } in
      let of : IsPartRow row = search (walk.part.plan, within.revision, within.index, within.fits, within.key_is) in
      let first = first_itself m walk.from row.value within.row in (
        record {
          tidy = walking.tidy;
          done = subst (λ (k : List ℕ). AreHeldTo k m) (sym from) (part_passed m walking.tidy walk.from row first walking.done of held);
          within = λ again. both new.is_within again outside;
          seen = subst (λ (p : Part). HoldsEach p.plan p.numbers.items m) (sym seen) held;
        },
        subst (λ (k : List ℕ). length (entries_from k (entries m)) < length (entries_from old.from (entries m))) (sym from)
            (fewer_after m old.from (walk.from, chunks_bytes walk.part.numbers.items) next.more next.first),
      )

-- ---- what a look tells
pub told_at : (plan number : ℕ) (seen : Part) (m : KeyMap) (is : Bool) → Fits (holding plan number) → chunk.Stands is plan number m → IsToldAt seen plan number m is
told_at plan number seen m true fits stands = (λ off. cc, λ tidy known on. (fits, stands_held m tidy plan number fits stands))
told_at plan number seen m false fits stands = (λ off. stands, λ tidy known on. cc)

pub some_of : (found : Option ℕ) (place : ℕ) (P : ℕ → Type 0) → IfSome found P → found ≡ Some place → P place
some_of found place P holds is = subst (λ (o : Option ℕ). IfSome o P) is holds

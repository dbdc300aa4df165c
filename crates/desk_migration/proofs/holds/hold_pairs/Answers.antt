use Rattle.{std.proofs.Common.{List, ℕ, sym, subst, ◌∙◌, rules}, desk_migration.specs.{Parts.{IsUnderParts, IsUnderWay}, Walks.IsWalking, claim.Holding.AreHeldTo}}
use Rattle.{desk_migration.proofs.{Turns.{less_held, less_not_held}, Walking.begins_walking}, desk_store_pages.proofs.Writing.{does, told_on}}
use Rattle.desk_migration.proofs.holds.hold_pairs.Goals as goal

pub hold_along-requires-clause-under : goal.hold_along-requires-clause-under
hold_along-requires-clause-under g c = search (rules, c.from_key-walk.ensures.from, c.requires.under)

pub returns-in_err-count-clause-holds : goal.returns-in_err-count-clause-holds
returns-in_err-count-clause-holds g c =
    told_on c.from_residual.result c.in_err-count.ensures.holds c.from_residual.ensures.1
    (search (less_not_held, c.in_err-count.field-0.0, begins_walking, c.from_key-walk.ensures.from, c.from_key-walk.ensures.outside))

pub returns-clause-under : goal.returns-clause-under
returns-clause-under g c = subst IsUnderParts (sym (c.set.ensures ∙ c.as_slice-2.ensures.bytes)) c.in_ok-count.ensures.under.0

pub returns-clause-holds : goal.returns-clause-holds
returns-clause-holds g c =
    does c.in_ok-count.ensures.holds (λ did. (
      did.0,
      less_held _ _ (IsWalking c.from_key-walk.result) (IsUnderWay c.args.from.now) (IsWalking c.hold_along.new.walk) (AreHeldTo c.set.new.self) c.args.txn.now c.hold_along.new.txn c.args.pages.now c.hold_along.new.pages
          (λ m way. begins_walking m c.args.from.now c.from_key-walk.result (c.from_key-walk.ensures.from ∙ c.as_slice.ensures.bytes) c.from_key-walk.ensures.outside c.from_key-walk.ensures.none_seen way)
          (λ m walking. subst (λ (k : List ℕ). AreHeldTo k m) (sym (c.set.ensures ∙ c.as_slice-2.ensures.bytes)) walking.done) did.1,
    ))

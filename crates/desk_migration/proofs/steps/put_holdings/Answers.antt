use Rattle.{std.proofs.Common.{◌<◌, ℕ, List, Err, refl, sym, subst, ◌∙◌, arith, rules}, desk_migration.specs.{Parts.IsUnderParts, Puts.{HasHeld, HoldErr, StepErr, free_of}}}
use Rattle.{desk_store_pages.{specs.{Errors.tree_refusal, declared.error.StoreError.TheVariants.Full}, proofs.Outcomes.err_of}, page_store.proofs.Stops.quiet_none}
use Rattle.desk_migration.proofs.Stepped.{to_quiet, none_steps, halted_steps, refused_steps, commit_steps, taken_writes, still_working, none_more, some_more, some_leaves, short_of, not_committed, not_taken, no_room}
use Rattle.desk_store_opening.proofs.chunk_table.Committing.{IsBegun, begun_now}
use Rattle.desk_migration.proofs.steps.put_holdings.Given.{Over}
use Rattle.desk_migration.proofs.steps.put_holdings.Goals.{After-begin-txn, In_ok-pairs}
use Rattle.desk_migration.proofs.steps.put_holdings.Goals as goal

begun : (g : Over) (c : After-begin-txn g) → IsBegun c.args.pages.now c.begin-txn.result
begun g c = begun_now c.args.pages.now c.begin-txn.result (sym c.is_halted.ensures ∙ c.if-is_halted.false) c.begin-txn.ensures.none c.begin-txn.ensures.pages c.begin-txn.ensures.over c.begin-txn.ensures.root c.begin-txn.ensures.free

held : (g : Over) (c : In_ok-pairs g) → HasHeld (c.in_ok-pairs.pairs < 8) c.in_ok-pairs.pairs c.args.from.now c.hold_pairs.new.from c.begin-txn.result c.hold_pairs.new.txn c.args.pages.now c.hold_pairs.new.pages
held g c = rw (c.set.ensures ∙ c.as_slice.ensures.bytes) at c.in_ok-pairs.ensures.holds.put.1

pub returns-then-is_halted : goal.returns-then-is_halted
returns-then-is_halted g c =
    let ps = c.args.pages.now in
    let halted = sym c.is_halted.ensures ∙ c.if-is_halted.true in
    search (rules, to_quiet c.args.from.now ps ps (quiet_none ps), halted_steps {A = ℕ} ps, halted)

-- ---- no pair was held
pub hold_pairs-requires-clause-under : goal.hold_pairs-requires-clause-under
hold_pairs-requires-clause-under g c = subst IsUnderParts (sym (c.set.ensures ∙ c.as_slice.ensures.bytes)) c.requires.under

pub returns-in_err-pairs-clause-steps : goal.returns-in_err-pairs-clause-steps
returns-in_err-pairs-clause-steps g c = refused_steps c.args.pages.now c.hold_pairs.new.pages _ (tree_refusal c.in_err-pairs.field-0.0) c.in_err-pairs.ensures.holds.quiet (sym c.is_halted.ensures ∙ c.if-is_halted.false) c.from_residual.ensures.1

pub returns-in_err-pairs-clause-any_moment : goal.returns-in_err-pairs-clause-any_moment
returns-in_err-pairs-clause-any_moment g c = to_quiet c.args.from.now c.args.pages.now c.hold_pairs.new.pages c.in_err-pairs.ensures.holds.quiet

pub returns-in_err-pairs-clause-err : goal.returns-in_err-pairs-clause-err
returns-in_err-pairs-clause-err g c =
    let at = goal.at.returns-in_err-pairs-clause-err g c in
    let e = c.in_err-pairs.field-0.0 in
    err_of c.from_residual.result (tree_refusal e) (StepErr c.args.from.now c.args.pages.now c.hold_pairs.new.pages) c.from_residual.ensures.1
    (not_taken c.args.from.now c.begin-txn.result c.args.pages.now c.hold_pairs.new.pages (begun g at.After-begin-txn) c.begin-txn.ensures c.in_err-pairs.ensures.holds.quiet e (subst (λ (k : List ℕ). HoldErr 8 k c.begin-txn.result c.args.pages.now c.hold_pairs.new.pages e) (c.set.ensures ∙ c.as_slice.ensures.bytes) c.in_err-pairs.ensures.holds.put))

-- ---- none was left
pub returns-then-pairs-eq0 : goal.returns-then-pairs-eq0
returns-then-pairs-eq0 g c =
    let at = goal.at.returns-then-pairs-eq0 g c in
    let from = c.args.from.now in
    let a = c.args.pages.now in
    let b = c.hold_pairs.new.pages in
    let did = held g at.In_ok-pairs in
    let working = sym c.is_halted.ensures ∙ c.if-is_halted.false in
    let none = none_more c.named_is_held.ensures c.in_ok-pairs.pairs from c.hold_pairs.new.from c.begin-txn.result c.hold_pairs.new.txn a b (begun g at.After-begin-txn) did c.if-pairs-eq0.true in
    search (rules, none_steps {A = ℕ} {v = 0} a b did.passed working, to_quiet from a b did.passed.quiet, none)

-- ---- too few pages are free
pub returns-then-free-pairs : goal.returns-then-free-pairs
returns-then-free-pairs g c =
    let at = goal.at.returns-then-free-pairs g c in
    let from = c.args.from.now in
    let a = c.args.pages.now in
    let b = c.hold_pairs.new.pages in
    let did = held g at.In_ok-pairs in
    let working = sym c.is_halted.ensures ∙ c.if-is_halted.false in
    let short = short_of c.named_is_held.ensures c.in_ok-pairs.pairs from c.hold_pairs.new.from c.begin-txn.result c.hold_pairs.new.txn a b (begun g at.After-begin-txn) did c.free_pages-free.result (c.free_pages-free.ensures working) c.if-free-pairs.true c.in_ok-pairs.ensures.holds.put.0 in
    search (rules, refused_steps {A = ℕ} a b (Err Full) Full did.passed.quiet working refl, to_quiet from a b did.passed.quiet, short)

-- ---- the commit
pub commit_fitting-requires-clause-working : goal.commit_fitting-requires-clause-working
commit_fitting-requires-clause-working g c = search (rules, still_working, c.named_is_held.ensures, c.in_ok-pairs.pairs, c.hold_pairs.new.from, begun)

pub commit_fitting-requires-clause-few : goal.commit_fitting-requires-clause-few
commit_fitting-requires-clause-few g c =
    let at = goal.at.commit_fitting-requires-clause-few g c in
    let writes = taken_writes c.named_is_held.ensures c.in_ok-pairs.pairs c.args.from.now c.hold_pairs.new.from c.begin-txn.result c.hold_pairs.new.txn c.args.pages.now c.hold_pairs.new.pages (begun g at.After-begin-txn) (held g at.In_ok-pairs) c.in_ok-pairs.ensures.holds.put.0 in
    let least = c.hold_pairs.new.pages.journal.room.least_journal in
    omega arith

pub returns-in_err-commit_fitting-clause-steps : goal.returns-in_err-commit_fitting-clause-steps
returns-in_err-commit_fitting-clause-steps g c =
    commit_steps c.from_residual-in_err-commit_fitting.result c.in_ok-pairs.ensures.holds.put.1.passed (sym c.is_halted.ensures ∙ c.if-is_halted.false) c.in_err-commit_fitting.ensures (λ P never. search rules)

pub returns-in_err-commit_fitting-clause-any_moment : goal.returns-in_err-commit_fitting-clause-any_moment
returns-in_err-commit_fitting-clause-any_moment g c = λ honest working sectors d whole holds.
    let at = goal.at.returns-in_err-commit_fitting-clause-any_moment g c in
    some_leaves c.named_is_held.ensures c.in_ok-pairs.pairs c.args.from.now c.hold_pairs.new.from c.begin-txn.result c.hold_pairs.new.txn c.args.pages.now c.hold_pairs.new.pages (begun g at.After-begin-txn) (held g at.In_ok-pairs) c.commit_fitting.new.pages c.in_err-commit_fitting.ensures.any_version (c.in_err-commit_fitting.ensures.commits.honest honest) honest sectors d whole holds

pub returns-in_err-commit_fitting-clause-err : goal.returns-in_err-commit_fitting-clause-err
returns-in_err-commit_fitting-clause-err g c =
    let at = goal.at.returns-in_err-commit_fitting-clause-err g c in
    let e = c.in_err-commit_fitting.field-0.0 in
    err_of c.from_residual-in_err-commit_fitting.result e (StepErr c.args.from.now c.args.pages.now c.commit_fitting.new.pages) c.from_residual-in_err-commit_fitting.ensures.1
    (not_committed c.named_is_held.ensures c.in_ok-pairs.pairs c.args.from.now c.hold_pairs.new.from c.begin-txn.result c.hold_pairs.new.txn c.args.pages.now c.hold_pairs.new.pages (begun g at.After-begin-txn) (held g at.In_ok-pairs) c.commit_fitting.new.pages c.in_err-commit_fitting.ensures.commits.honest e c.in_err-commit_fitting.ensures.err)

pub returns : goal.returns
returns g c =
    let at = goal.at.returns g c in
    let from = c.args.from.now in
    let next = c.hold_pairs.new.from in
    let pairs = c.in_ok-pairs.pairs in
    let t = c.begin-txn.result in
    let u = c.hold_pairs.new.txn in
    let a = c.args.pages.now in
    let b = c.hold_pairs.new.pages in
    let e = c.commit_fitting.new.pages in
    let law = c.named_is_held.ensures in
    let start = begun g at.After-begin-txn in
    let did = held g at.In_ok-pairs in
    let few = c.in_ok-pairs.ensures.holds.put.0 in
    let working = sym c.is_halted.ensures ∙ c.if-is_halted.false in
    let commit = c.in_ok-commit_fitting.ensures in
    record {
      under = c.in_ok-pairs.ensures.under;
      steps = commit_steps _ did.passed working commit (λ P is. is);
      any_moment = λ honest off. some_leaves law pairs from next t u a b start did e commit.any_version (commit.commits.honest honest) honest;
      few = omega arith;
      held = λ honest. some_more law pairs from next t u a b start did e (λ m reads. (commit.held honest m reads).0) (commit.commits.honest honest);
      room = λ honest. no_room pairs c.free_pages-free.result (free_of a) (c.free_pages-free.ensures working (did.passed.quiet.honest (commit.commits.honest honest))) c.if-free-pairs.false;
      err = search rules;
      stays = search rules;
    }

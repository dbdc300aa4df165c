use Rattle.{std.proofs.Common.{inl, refl, sym, ◌∙◌, arith}, page_btree_checks.specs.Faults.TellsOf, page_store.specs.claim.Transactions.{stored, txn_pages, over}}
use Rattle.{page_btree_checks.proofs.{Errors.{unread, unsound_after}, Faults.{name_told, unread_told}}, page_btree_gets.proofs.Outcomes.{err_of, reads_ok, reads_err, refused_by}}
use Rattle.page_btree_checks.proofs.PageWhole.{list_there, walked_there, some_pages, can_list, can_root, are_owned, none_lost, is_lost}
use Rattle.page_store.proofs.Stops.{quiet_none, quiet_more, passed_more}
use Rattle.page_btree_checks.proofs.checks.check_owners.Goals as goal

pub returns-in_err-name-clause-reading : goal.returns-in_err-name-clause-reading
returns-in_err-name-clause-reading g c = refused_by _ c.from_residual.ensures.1 (quiet_none c.args.pages.now) (λ honest is.
    c.in_err-name.ensures.err (let some = some_pages _ _ is in let long = c.requires.marks.long in omega arith) (c.requires.none 0))

pub read-requires-clause-page : goal.read-requires-clause-page
read-requires-clause-page g c = search arith

pub returns-in_err-read-clause-reading : goal.returns-in_err-read-clause-reading
returns-in_err-read-clause-reading g c = unread c.in_err-read.ensures.reading c.from_residual-in_err-read.ensures.1

pub check_free-requires : goal.check_free-requires
check_free-requires g c = record {
  begun = c.requires.marks.begun ∙ sym c.in_ok-read.ensures.reading.quiet.count;
  long = c.in_ok-name.ensures.named.long ∙ c.requires.marks.long;
}

pub returns-in_err-check_free-clause-reading : goal.returns-in_err-check_free-clause-reading
returns-in_err-check_free-clause-reading g c =
    let read = c.in_ok-read.ensures in
    unsound_after read.reading.passed c.in_err-check_free.ensures.reading c.from_residual-in_err-check_free.ensures.1 (λ honest is.
    let first = c.in_err-check_free.ensures.reading.quiet.honest honest in
    rw (read.reading.quiet.same first, c.word_at.ensures, c.word_at-2.ensures, read.reads first)
    (can_list _ _ c.args.marks.now c.name.new.self c.name.new.self c.name.new.self c.requires.marks.long c.requires.none c.requires.left c.in_ok-name.ensures.named is))

pub check_root-requires : goal.check_root-requires
check_root-requires g c = record {
  begun = c.requires.marks.begun ∙ sym c.in_ok-read.ensures.reading.quiet.count ∙ sym c.in_ok-check_free.ensures.reading.quiet.count;
  long = c.in_ok-check_free.ensures.long ∙ c.in_ok-name.ensures.named.long ∙ c.requires.marks.long;
}

pub returns-in_err-check_root-clause-reading : goal.returns-in_err-check_root-clause-reading
returns-in_err-check_root-clause-reading g c =
    let read = c.in_ok-read.ensures in
    let lists = c.in_ok-check_free.ensures in
    let listed = passed_more _ _ _ read.reading.passed lists.reading.passed in
    unsound_after listed c.in_err-check_root.ensures.reading c.from_residual-in_err-check_root.ensures.1 (λ honest is.
    let then = c.in_err-check_root.ensures.reading.quiet.honest honest in
    let list = list_there c.args.txn.now read.reading.quiet lists.reading.quiet read.reads c.word_at.ensures c.word_at-2.ensures lists.free then in
    rw (listed.quiet.same then, c.word_at-3.ensures, read.reads (lists.reading.quiet.honest then))
    (can_root _ _ c.args.marks.now c.name.new.self c.check_free.new.marks c.check_free.new.marks c.requires.marks.long c.requires.none c.requires.left c.in_ok-name.ensures.named list is))

pub returns-then-marks-gt0-clause-reading : goal.returns-then-marks-gt0-clause-reading
returns-then-marks-gt0-clause-reading g c =
    let read = c.in_ok-read.ensures in
    let lists = c.in_ok-check_free.ensures in
    let walks = c.in_ok-check_root.ensures in
    reads_err (quiet_more _ _ _ read.reading.quiet (quiet_more _ _ _ lists.reading.quiet walks.reading.quiet)) (λ honest is.
    let both = walked_there c.args.txn.now read.reading.quiet lists.reading.quiet read.reads c.word_at.ensures c.word_at-2.ensures lists.free walks.reading.quiet c.word_at-3.ensures walks.walked honest in
    let long = c.requires.marks.long in
    let none = none_lost _ _ c.args.marks.now c.name.new.self c.check_free.new.marks c.check_root.new.marks long c.requires.none c.requires.left c.in_ok-name.ensures.named both.0 both.1 (omega arith) is in
    omega arith)

pub returns-clause-reading : goal.returns-clause-reading
returns-clause-reading g c = reads_ok (passed_more _ _ _ c.in_ok-read.ensures.reading.passed (passed_more _ _ _ c.in_ok-check_free.ensures.reading.passed c.in_ok-check_root.ensures.reading.passed))

pub returns-clause-owned : goal.returns-clause-owned
returns-clause-owned g c = λ honest.
    let read = c.in_ok-read.ensures in
    let lists = c.in_ok-check_free.ensures in
    let walks = c.in_ok-check_root.ensures in
    let both = walked_there c.args.txn.now read.reading.quiet lists.reading.quiet read.reads c.word_at.ensures c.word_at-2.ensures lists.free walks.reading.quiet c.word_at-3.ensures walks.walked honest in
    are_owned _ _ c.args.marks.now c.name.new.self c.check_free.new.marks c.check_root.new.marks c.requires.marks.long c.requires.none c.requires.left c.in_ok-name.ensures.named both.0 both.1 (omega arith)

pub returns-in_err-name-clause-told : goal.returns-in_err-name-clause-told
returns-in_err-name-clause-told g c = λ honest. name_told _ (txn_pages c.args.txn.now) (over c.args.txn.now (stored c.args.pages.now)) _ _ c.from_residual.ensures.1 (inl refl) (rw c.requires.marks.long at c.in_err-name.ensures.told)

pub returns-in_err-read-clause-told : goal.returns-in_err-read-clause-told
returns-in_err-read-clause-told g c = λ honest. unread_told _ (txn_pages c.args.txn.now) (over c.args.txn.now (stored c.args.pages.now)) c.in_err-read.field-0.0 c.from_residual-in_err-read.ensures.1

pub returns-in_err-check_free-clause-told : goal.returns-in_err-check_free-clause-told
returns-in_err-check_free-clause-told g c = λ honest.
    let read = c.in_ok-read.ensures in
    let first = c.in_err-check_free.ensures.reading.quiet.honest honest in
    let told = rw (read.reading.quiet.same first, c.word_at.ensures, c.word_at-2.ensures, read.reads first) at (c.in_err-check_free.ensures.told honest) in
    err_of _ _ (TellsOf (txn_pages c.args.txn.now) (over c.args.txn.now (stored c.args.pages.now))) c.from_residual-in_err-check_free.ensures.1 (told refl refl)

pub returns-in_err-check_root-clause-told : goal.returns-in_err-check_root-clause-told
returns-in_err-check_root-clause-told g c = λ honest.
    let read = c.in_ok-read.ensures in
    let lists = c.in_ok-check_free.ensures.reading in
    let then = c.in_err-check_root.ensures.reading.quiet.honest honest in
    let told = rw ((quiet_more _ _ _ read.reading.quiet lists.quiet).same then, c.word_at-3.ensures, read.reads (lists.quiet.honest then)) at (c.in_err-check_root.ensures.told honest) in
    err_of _ _ (TellsOf (txn_pages c.args.txn.now) (over c.args.txn.now (stored c.args.pages.now))) c.from_residual-in_err-check_root.ensures.1 (told refl)

pub returns-then-marks-gt0-clause-told : goal.returns-then-marks-gt0-clause-told
returns-then-marks-gt0-clause-told g c = λ honest.
    let read = c.in_ok-read.ensures in
    let lists = c.in_ok-check_free.ensures in
    let walks = c.in_ok-check_root.ensures in
    let both = walked_there c.args.txn.now read.reading.quiet lists.reading.quiet read.reads c.word_at.ensures c.word_at-2.ensures lists.free walks.reading.quiet c.word_at-3.ensures walks.walked honest in
    is_lost _ _ c.args.marks.now c.name.new.self c.check_free.new.marks c.check_root.new.marks c.requires.marks.long c.requires.none c.requires.left c.in_ok-name.ensures.named both.0 both.1
    c.first_lost.result (c.first_lost.ensures.within c.if-marks-gt0.true) (c.first_lost.ensures.lost c.if-marks-gt0.true)

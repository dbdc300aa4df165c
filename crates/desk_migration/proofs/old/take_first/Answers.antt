use Rattle.{std.{specs.{FinMap.remove as without, List.starts_with}, proofs.Common.{◌∷◌, [], Bool, nat_eq, sym, subst, ◌∙◌, rules}}, desk_store_opening.specs.tidy.Rows.IsFirst}
use Rattle.{page_btree.specs.gets.claim.Map.InTxn, sector_device.specs.claim.Disk.Image, desk_migration.proofs.Back.{none_found, none_later, one_less}}
use Rattle.page_store.proofs.Stops.{passed_more, quiet_more}
use Rattle.desk_store_opening.proofs.chunk_table.Writing.{only_read, unread}
use Rattle.desk_migration.proofs.old.take_first.Goals as goal

pub returns-in_err-first_from : goal.returns-in_err-first_from
returns-in_err-first_from g c = unread c.from_residual.result c.in_err-first_from.field-0.0 c.requires.begun c.in_err-first_from.ensures.quiet c.from_residual.ensures.1 tt

pub returns-then-not-branch : goal.returns-then-not-branch
returns-then-not-branch g c = only_read c.requires.begun c.in_ok-first_from.ensures.quiet (
  c.in_ok-first_from.ensures.passed,
  λ honest m holds.
      let tag = c.args.tag in
      let row = c.first_from.new.row in
      (holds, none_found tag m row (subst (λ (b : Bool). IsFirst b (tag ∷ []) row m) c.if-not-branch.true (c.in_ok-first_from.ensures.there honest m holds))),
)

pub returns-then-not-starts_with : goal.returns-then-not-starts_with
returns-then-not-starts_with g c = only_read c.requires.begun c.in_ok-first_from.ensures.quiet (
  search c.in_ok-first_from.ensures.passed,
  λ honest m holds. search (rules, nat_eq, c.if-not-starts_with.true, none_later, c.if-not-branch.false),
)

pub returns-in_err-remove : goal.returns-in_err-remove
returns-in_err-remove g c = search (rules, c.in_err-remove.ensures, unread, c.in_err-remove.field-0.0, c.requires.begun, quiet_more, c.in_ok-first_from.ensures.quiet)

pub returns : goal.returns
returns g c =
    let gone = c.in_ok-remove.ensures in
    only_read (gone.pages ∙ c.requires.begun) (quiet_more c.args.pages.now c.first_from.new.pages c.remove.new.pages c.in_ok-first_from.ensures.quiet gone.reading.quiet) (
      passed_more c.args.pages.now c.first_from.new.pages c.remove.new.pages c.in_ok-first_from.ensures.passed gone.reading.passed,
      λ honest m holds.
          let key = c.as_slice-key.result.now in
          let same = c.in_ok-first_from.ensures.quiet.same (c.in_ok-remove.ensures.reading.quiet.honest honest) in
          let there = subst (λ (P : Image). InTxn c.args.txn.now P m) (sym same) holds in
          let after = subst (λ (P : Image). InTxn c.remove.new.txn P (without m key)) same (c.in_ok-remove.ensures.remove honest m there).0 in
          (without m key, after, one_less c.args.tag m key (sym c.starts_with.ensures.value ∙ c.if-not-starts_with.false)),
    )

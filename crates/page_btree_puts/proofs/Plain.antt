-- Puts by a finger that knows no leaf.
use Rattle.{std.{specs.Prelude.◌≡◌, proofs.Common.rules}, page_btree_gets.specs.{claim.Errors.PutErr, declared.error.TreeError.TreeError}, page_store.specs.declared.txn.Txn.Txn}
use Rattle.{page_btree_puts.specs.{Fingers.{StandsIn, PutByErr}, declared.finger.Finger.Finger}, page_store.specs.declared.pages.Pages.Pages, sector_device.specs.claim.Disk.Image}
use Rattle.{sector_device.specs.declared.SectorDevice.Ghosts, page_btree_gets.proofs.Refusals.by_case}

pub none_stands : (t : Txn) (S : Image) (f : Finger) → f.page ≡ 0 → StandsIn t S f
none_stands t S f none = λ some. absurd (some none)

module _ {D : Type 0} {g : Ghosts D} where
  pub plain_err : (was : Finger) (t : Txn) (old new : Pages D g) → was.page ≡ 0 → (e : TreeError) → PutByErr was t old new e → PutErr t old new e
  plain_err was t old new none = search (rules, by_case, none_stands)

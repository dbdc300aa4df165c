-- A transaction that an edit of a leaf alone left alike.
use Rattle.{std.{specs.Prelude.{Option, Some, None, IfSome}, proofs.Common.rules}, page_btree_gets.specs.{Editing.IsAlike, claim.{Keys.KeyMap, Map.InTxn}}}
use Rattle.{page_store.specs.declared.txn.Txn.Txn, sector_device.specs.claim.Disk.Image}

pub some_of : {T : Type 0} (o : Option T) (A B : T → Type 0) → ((x : T) → A x → B x) → IfSome o A → IfSome o B
some_of (Some x) A B f h = f x h
some_of None A B f h = tt

-- ---- a transaction that is alike
pub still_in : (t u : Txn) (S : Image) (m : KeyMap) → IsAlike t u → InTxn t S m → InTxn u S m
still_in t u S m alike is = search rules

-- Looks, one after the other.
use Rattle.std.{specs.{FinMap.get as row_at, Prelude.{◌≡◌, ℕ, List, Option, Result, Ok, Err, IsErrAnd}}, proofs.Common.{rules, refl, sym, subst, ◌∙◌}}
use Rattle.{desk_store_pages.specs.{Looking.{Gathers, Looks, Seeks}, Reading.{IsReadAs, ReadErr, SeekErr, StandsAs}}, desk_store_rows.specs.claim.Rows.KeyMap}
use Rattle.page_btree.specs.gets.{claim.Map.InTxn, declared.error.TreeError.{TreeError, TheVariants.{DeviceFault, NotAStore, Halted, Memory}}}
use Rattle.{page_store.specs.{claim.Transactions.{stored, disk_in, IsQuiet, Passed}, declared.{pages.Pages.Pages, txn.Txn.Txn}}, sector_device.specs.declared.SectorDevice.Ghosts}
use Rattle.{desk_store_pages.proofs.Reading.{less_sought, value_read, value_unread}, page_store.proofs.Stops.{quiet_more, passed_more, passed_none, failed_more}}

module _ {D X : Type 0} {g : Ghosts D} {short : Type 0} {says : KeyMap → X → Type 0} {has : KeyMap → Type 0} {t : Txn} {a b : Pages D g} where
  -- calls passed, and this is so after them
  pub looked : {x : X} → Passed a b → ((disk_in b).is_honest → (m : KeyMap) → InTxn t (stored a) m → says m x) → Seeks short says has t a b (Ok x)
  looked passed there = record { quiet = passed.quiet; passed = passed; there = there; err = tt }

  -- or one failed
  pub not_looked : {e : TreeError} → IsQuiet a b → SeekErr short has t a b e → Seeks short says has t a b (Err e)
  not_looked quiet err = record { quiet = quiet; passed = tt; there = λ honest m holds. tt; err = err }

-- what failed is told
module _ {D Y : Type 0} {g : Ghosts D} {short : Type 0} {also : KeyMap → Y → Type 0} {more : KeyMap → Type 0} {t : Txn} {a b : Pages D g} (has : KeyMap → Type 0) where
  pub fails_from : (e : TreeError) (r : Result Y TreeError) → IsQuiet a b → SeekErr short has t a b e → IsErrAnd r (λ x. x ≡ e) → ((m : KeyMap) → more m → has m) → Seeks short also more t a b r
  fails_from e (Ok y) quiet why is gives = absurd is
  fails_from e (Err x) quiet why is gives = not_looked quiet (less_sought short has more t a b gives x (subst (SeekErr short has t a b) (sym is) why))

-- nothing was read yet
pub begins : {D X : Type 0} {g : Ghosts D} {short : Type 0} {says : KeyMap → X → Type 0} {has : KeyMap → Type 0} {t : Txn} {a : Pages D g} {x : X} → ((m : KeyMap) → InTxn t (stored a) m → says m x) → Seeks short says has t a a (Ok x)
begins {D} {X} {g} {short} {says} {has} {t} {a} is = looked (passed_none a) (λ honest m holds. is m holds)

module _ {D X Y : Type 0} {g : Ghosts D} {short : Type 0} {says : KeyMap → X → Type 0} {also : KeyMap → Y → Type 0} {has more : KeyMap → Type 0} {t : Txn} {a b : Pages D g} where
  -- what was found says something else
  pub finds : {x : X} {y : Y} → Seeks short says has t a b (Ok x) → ((m : KeyMap) → says m x → also m y) → Seeks short also more t a b (Ok y)
  finds look gives = looked look.passed (λ honest m holds. gives m (look.there honest m holds))

  -- or it can't be
  pub refuses : {x : X} → Seeks short says has t a b (Ok x) → ((m : KeyMap) → says m x → more m → ⊥) → Seeks short also more t a b (Err NotAStore)
  refuses look clash = not_looked look.quiet (λ honest m holds is. clash m (look.there honest m holds) is)

  -- what failed is told on
  pub fails : {e : TreeError} (r : Result Y TreeError) → Seeks short says has t a b (Err e) → IsErrAnd r (λ x. x ≡ e) → ((m : KeyMap) → more m → has m) → Seeks short also more t a b r
  fails {e} r look is gives = fails_from has e r look.quiet look.err is gives

-- what a look came to says something else
module _ {D X : Type 0} {g : Ghosts D} {short : Type 0} {says also : KeyMap → X → Type 0} {has more : KeyMap → Type 0} {t : Txn} {a b : Pages D g} where
  pub tells : (r : Result X TreeError) → Seeks short says has t a b r → ((m : KeyMap) (x : X) → says m x → also m x) → ((m : KeyMap) → more m → has m) → Seeks short also more t a b r
  tells (Ok x) look gives needs = finds look (λ m is. gives m x is)
  tells (Err e) look gives needs = fails (Err e) look refl needs

-- what isn't read after calls that passed, where the rows say what it needs
module _ {D : Type 0} {g : Ghosts D} (short : Type 0) (has more : KeyMap → Type 0) (t : Txn) (a b d : Pages D g) (read : Passed a b) (quiet : IsQuiet b d) where
  pub then_unread : ((disk_in b).is_honest → (m : KeyMap) → InTxn t (stored a) m → more m → has m) → (e : TreeError) → SeekErr short has t b d e → SeekErr short more t a d e
  then_unread gives DeviceFault why = failed_more a b d read quiet why
  then_unread gives NotAStore why = λ honest m holds is. search rules
  then_unread gives Halted why = sym read.halted ∙ why
  then_unread gives _ why = why

-- a look is a gathering
pub may_lack : {D : Type 0} {g : Ghosts D} (has : KeyMap → Type 0) (t : Txn) (a b : Pages D g) (e : TreeError) → ReadErr has t a b e → SeekErr (Unit {0}) has t a b e
may_lack has t a b Memory why = tt
may_lack has t a b _ why = why

module _ {D X : Type 0} {g : Ghosts D} {says : KeyMap → X → Type 0} {has : KeyMap → Type 0} {t : Txn} {a b : Pages D g} where
  pub gathered : (r : Result X TreeError) → Looks says has t a b r → Gathers says has t a b r
  gathered (Ok x) look = looked look.passed look.there
  gathered (Err e) look = not_looked look.quiet (may_lack has t a b e look.err)

  -- memory was short
  pub lacks_memory : {e : TreeError} (r : Result X TreeError) → IsQuiet a b → e ≡ Memory → IsErrAnd r (λ x. x ≡ e) → Gathers says has t a b r
  lacks_memory (Ok x) quiet short is = absurd is
  lacks_memory (Err e) quiet short is = not_looked quiet (subst (SeekErr (Unit {0}) has t a b) (sym (is ∙ short)) tt)

-- a second look after a first
module _ {D X Y : Type 0} {g : Ghosts D} {short : Type 0} {says : KeyMap → X → Type 0} {then : KeyMap → Y → Type 0} {has needed : KeyMap → Type 0} {t : Txn} {a b d : Pages D g} {x : X} (first : Seeks short says has t a b (Ok x)) where
  -- both were found
  pub both : {y : Y} → Seeks short then needed t b d (Ok y) → Seeks short (λ m y. says m x × then m y) needed t a d (Ok y)
  both {y} next = search (rules, looked, passed_more a b d first.passed next.passed)

  -- the second fails
  pub fails_then : {Z : Type 0} {also : KeyMap → Z → Type 0} {more : KeyMap → Type 0} {e : TreeError} (r : Result Z TreeError) → Seeks short then needed t b d (Err e) → IsErrAnd r (λ y. y ≡ e) → ((m : KeyMap) → says m x → more m → needed m) → Seeks short also more t a d r
  fails_then (Ok z) next is needs = absurd is
  fails_then {Z} {also} {more} (Err y) next is needs = not_looked (quiet_more a b d first.quiet next.quiet)
      (then_unread short needed more t a b d first.passed next.quiet (λ honest m holds is. needs m (first.there honest m holds) is) y (subst (SeekErr short needed t b d) (sym is) next.err))

  -- what the second comes to is told
  pub looks : {also : KeyMap → Y → Type 0} {more : KeyMap → Type 0} (r : Result Y TreeError) → Seeks short then needed t b d r
      → ((m : KeyMap) (y : Y) → says m x → then m y → also m y) → ((m : KeyMap) → says m x → more m → needed m) → Seeks short also more t a d r
  looks (Ok y) next gives needs = finds (both next) (λ m is. gives m y is.0 is.1)
  looks (Err e) next gives needs = fails_then (Err e) next refl needs

-- a value that was copied from under a key is read
module _ {D X : Type 0} {g : Ghosts D} {t : Txn} {a b : Pages D g} (bytes : X → List ℕ) (copied : Option (List ℕ)) (key : List ℕ) where
  pub reads_as : (r : Result (Option X) TreeError) → Passed a b → ((disk_in b).is_honest → (m : KeyMap) → InTxn t (stored a) m → copied ≡ row_at m key) → IsReadAs bytes copied r
      → Looks (StandsAs bytes key) (λ m. (value : Option X) × StandsAs bytes key m value) t a b r
  reads_as (Ok value) passed is read = looked passed (λ honest m holds. value_read bytes copied (row_at m key) (Ok value) (is honest m holds) read)
  reads_as (Err e) passed is read = not_looked passed.quiet (value_unread bytes copied key t a b (Err e) is read)

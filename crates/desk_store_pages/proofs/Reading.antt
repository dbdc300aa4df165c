-- Lemmas on the definitions of Reading.
use Rattle.std.specs.{FinMap.get as row_at, Prelude.{◌≡◌, ℕ, List, [], Option, Some, None, Result, Ok, Err, IfOk, IfErr, option_map, MatchOption}}
use Rattle.{std.proofs.Common.{rules, refl, sym, ap, ◌∙◌}, desk_store_pages.specs.Reading.{HasNext, IsReadAs, ReadErr, ReadErrWith, SeekErr, StandsAs}}
use Rattle.{desk_store_pages.specs.claim.Puts.{HasPut, PutsErr}, desk_store_rows.specs.claim.{Keys.{key_of, counters}, Puts.Row, Rows.KeyMap, Tidy.no_numbers}}
use Rattle.{desk_store_rows.specs.{claim.Values.counters_bytes, declared.value.Counters.Counters}, page_btree.specs.gets.claim.{Errors.GetErr, Map.InTxn}}
use Rattle.page_btree.specs.{gets.declared.error.TreeError.{TreeError, TheVariants.NotAStore}, puts.{Fingers.{Stand, GetWhereErr}, declared.finger.Fingers.Fingers}}
use Rattle.{page_store.specs.{claim.Transactions.{stored, disk_in, IsQuiet, Passed}, declared.{pages.Pages.Pages, txn.Txn.Txn}}, sector_device.specs.claim.Disk.Image}
use Rattle.{sector_device.specs.declared.SectorDevice.Ghosts, desk_store_pages.proofs.RowsPut.{more_put, then_not_put}}

-- and has one value
pub one_value : (key a b : List ℕ) (m : KeyMap) → row_at m key ≡ Some a → row_at m key ≡ Some b → a ≡ b
one_value key a b m one other = let same : ◌≡◌ {A = Option (List ℕ)} (Some a) (Some b) = sym one ∙ other in cc

-- the bytes that were copied are those of the value
pub value_read : {X : Type 0} (bytes : X → List ℕ) (copied row : Option (List ℕ)) (r : Result (Option X) TreeError) → copied ≡ row → IsReadAs bytes copied r → IfOk r (λ value. option_map bytes value ≡ row)
value_read bytes copied row (Ok value) is read = read ∙ is
value_read bytes copied row (Err e) is read = tt

module _ {D : Type 0} {g : Ghosts D} where
  -- or are those of no value
  pub value_unread : {X : Type 0} (bytes : X → List ℕ) (copied : Option (List ℕ)) (key : List ℕ) (t : Txn) (old new : Pages D g) (r : Result (Option X) TreeError)
      → ((disk_in new).is_honest → (m : KeyMap) → InTxn t (stored old) m → copied ≡ row_at m key) → IsReadAs bytes copied r
      → IfErr r (λ e. ReadErr (λ m. (value : Option X) × StandsAs bytes key m value) t old new e)
  value_unread bytes copied key t old new (Ok value) is read = tt
  value_unread {X} bytes copied key t old new (Err e) is read = search rules

  pub value_unread_with : {X : Type 0} (bytes : X → List ℕ) (copied : Option (List ℕ)) (key : List ℕ) (fs : Fingers) (t : Txn) (old new : Pages D g) (r : Result (Option X) TreeError)
      → ((disk_in new).is_honest → (m : KeyMap) → InTxn t (stored old) m → Stand t (stored old) fs → copied ≡ row_at m key) → IsReadAs bytes copied r
      → IfErr r (λ e. ReadErrWith fs (λ m. (value : Option X) × StandsAs bytes key m value) t old new e)
  value_unread_with bytes copied key fs t old new (Ok value) is read = tt
  value_unread_with {X} bytes copied key fs t old new (Err e) is read = search rules

  -- a value that isn't copied isn't read
  pub get_unread : (has : KeyMap → Type 0) (t : Txn) (old new : Pages D g) (e : TreeError) → GetErr t old new e → ReadErr has t old new e
  get_unread has t old new NotAStore why = λ honest m holds is. why honest m holds
  get_unread has t old new _ why = why

  pub get_unread_with : (has : KeyMap → Type 0) (fs : Fingers) (t : Txn) (old new : Pages D g) (e : TreeError) → GetWhereErr (λ (S : Image). Stand t S fs) t old new e → ReadErrWith fs has t old new e
  get_unread_with has fs t old new NotAStore why = λ honest m holds stand is. why honest m holds stand
  get_unread_with has fs t old new _ why = why

  -- one who needs more of a map isn't told more
  pub less_sought : (short : Type 0) (has more : KeyMap → Type 0) (t : Txn) (old new : Pages D g) → ((m : KeyMap) → more m → has m) → (e : TreeError) → SeekErr short has t old new e → SeekErr short more t old new e
  less_sought short has more t old new gives NotAStore why = λ honest m holds is. why honest m holds (gives m is)
  less_sought short has more t old new gives _ why = why

next_in : (row : Option (List ℕ)) (next : Counters) → MatchOption row (next ≡ no_numbers) (λ value. value ≡ counters_bytes next) → (value : Option Counters) × (option_map counters_bytes value ≡ row)
next_in None next is = (None, refl)
next_in (Some bytes) next is = (Some next, ap Some (sym is))

-- counters are a value under their key, or none
pub next_stands : (m : KeyMap) → HasNext m → (value : Option Counters) × StandsAs counters_bytes (key_of counters) m value
next_stands m next = next_in (row_at m (key_of counters)) next.0 next.1

-- what was put, or not put, after calls that read at most
module _ {D : Type 0} {g : Ghosts D} (t : Txn) (a b : Pages D g) (read : Passed a b) where
  first_read : HasPut [] t t a b
  first_read = search rules

  pub put_after : (rows : List Row) (u : Txn) (c : Pages D g) → HasPut rows t u b c → HasPut rows t u a c
  put_after rows u c put = more_put [] rows t t u a b c first_read put

  pub not_put_after : (rows : List Row) (c : Pages D g) (e : TreeError) → IsQuiet b c → PutsErr rows t b c e → PutsErr rows t a c e
  not_put_after rows c e quiet why = then_not_put [] rows t t a b c e first_read quiet why

-- Why rows aren't found to be a desk's.
use Rattle.std.{specs.Prelude.{Option, Some, None, is_some}, proofs.{Common.{◌≡◌, ℕ, List, Bool, true, false, refl, sym, ap, subst, ◌∙◌}, lemmas.Bool.both_ways}}
use Rattle.{desk_model.specs.{Ranges.ranges_in, claim.Desk.Desk, declared.ranges.CountyRange.CountyRange}, desk_store.specs.plan_revisions_sweeps.Checks.IsNewTidy}
use Rattle.desk_store.specs.{desk_store_opening.Opening.{HasVersion, IsReadFrom, OpenErr}, plan_revisions_sweeps.claim.Checks.AreSoundHoldings}
use Rattle.desk_store_pages.specs.{Errors.{row_refusal, unread}, Reading.{ReadErr, SeekErr}, claim.Desks.InTxn, declared.error.StoreError.StoreError}
use Rattle.{desk_store_rows.specs.claim.{Keys.{in_four, version}, Rows.{KeyMap, Has}}, inspect_command.specs.Sound.{CheckErr, IsFoundAs, IsSoundAs, OldIn, UnsoundIn}}
use Rattle.{inspect_command.specs.Verifying.Unsound, page_btree.specs.gets.declared.error.TreeError.TreeError, page_store.specs.declared.{pages.Pages.Pages, txn.Txn.Txn}}
use Rattle.{page_store.specs.{claim.Transactions.{stored, disk_in, has_halted, IsQuiet, Passed}, gate_journal.claim.Contents.is_halted}, sector_device.specs.claim.Disk.Image}
use Rattle.{sector_device.specs.declared.SectorDevice.Ghosts, store_command.specs.{Faults.fault_of_store, declared.fault.StoreFault.StoreFault}}
use Rattle.{store_command.specs.declared.fault.StoreFault.TheVariants.{NotAStore, OldVersion, DeviceFault, Memory}, store_verification.specs.rows.Wholes.AllSay}
use Rattle.{store_verification.specs.rows.{Strays.{AllBelong, IsChecked, IsStray}, declared.wrong.WrongRow.WrongRow}, desk_store_rows.proofs.OneGeography.no_value}
use Rattle.page_store.proofs.Stops.{failed_more}
use Rattle.store_verification.proofs.rows.Whole.{all_say}
use Rattle.page_btree.specs.gets.declared.error.TreeError.TheVariants as tree
use Rattle.store_command.proofs.desk_store.Opened.{new_tells}
use Rattle.store_command.proofs.desk_store.Prepared.{IsBegun, begun_reads}

module _ {D : Type 0} {g : Ghosts D} where
  -- what was read in between is read still
  pub still : (P : Image → Type 0) {a b c : Pages D g} → Passed a b → IsQuiet b c → (disk_in c).is_honest → P (stored a) → P (stored b)
  still P passed quiet honest held = subst P (sym (passed.quiet.same (quiet.honest honest))) held

  -- ---- errors of the checks
  pub opening_check : (t : Txn) (a b : Pages D g) (e : TreeError) → OpenErr t a b e → CheckErr t a b e
  opening_check t a b tree.NotAStore why = λ honest d held. why honest true d held
  opening_check t a b _ why = why

  pub whole_check : (t : Txn) (a b : Pages D g) (e : TreeError) → ReadErr AllSay t a b e → CheckErr t a b e
  whole_check t a b tree.NotAStore why = λ honest d held. why honest held.m held.holds (all_say held.m held.is.tidy)
  whole_check t a b tree.Memory why = tt
  whole_check t a b _ why = why

  pub holdings_check : (t : Txn) (a b : Pages D g) (e : TreeError) → SeekErr (Unit {0}) IsNewTidy t a b e → CheckErr t a b e
  holdings_check t a b tree.NotAStore why = λ honest d held. why honest held.m held.holds (record { tidy = held.is.tidy; new = held.is.version })
  holdings_check t a b _ why = why

  -- after calls that passed
  pub then_check : (t : Txn) (a b c : Pages D g) (e : TreeError) → Passed a b → IsQuiet b c → CheckErr t b c e → CheckErr t a c e
  then_check t a b c tree.DeviceFault passed quiet why = failed_more a b c passed quiet why
  then_check t a b c tree.NotAStore passed quiet why = λ honest d held. why honest d (still (λ P. InTxn t P d) passed quiet honest held)
  then_check t a b c tree.Halted passed quiet why = sym passed.halted ∙ why
  then_check t a b c _ passed quiet why = why

  -- ---- what is told of them: the fault, where one came
  pub told_as : (says : StoreFault → Type 0) (b : Pages D g) (e : TreeError) (halted : Bool) {error : StoreError} {fault : StoreFault} → fault ≡ fault_of_store error → error ≡ row_refusal e halted → halted ≡ has_halted b
      → (has_halted b ≡ true → says DeviceFault) → (has_halted b ≡ false → says (fault_of_store (unread e))) → says fault
  told_as says b e true told of is on off = subst says (sym (told ∙ ap (λ (x : StoreError). fault_of_store x) of)) (on (sym is))
  told_as says b e false told of is on off = subst says (sym (told ∙ ap (λ (x : StoreError). fault_of_store x) of)) (off (sym is))

  -- where none came
  pub unsound_told : (t : Txn) (a b : Pages D g) (e : TreeError) → has_halted a ≡ false → has_halted b ≡ false → CheckErr t a b e → UnsoundIn t a b (fault_of_store (unread e))
  unsound_told t a b tree.DeviceFault working works why = absurd (both_ways (has_halted b) works why.halted)
  unsound_told t a b tree.Halted working works why = absurd (both_ways (has_halted a) working why)
  unsound_told t a b tree.NoPages working works why = absurd why
  unsound_told t a b tree.TooDeep working works why = absurd why
  unsound_told t a b _ working works why = why

  pub version_told : (t : Txn) (a b : Pages D g) (e : TreeError) → has_halted a ≡ false → has_halted b ≡ false → ReadErr HasVersion t a b e → OldIn t a b (fault_of_store (unread e))
  version_told t a b tree.DeviceFault working works why = absurd (both_ways (has_halted b) works why.halted)
  version_told t a b tree.NotAStore working works why = why
  version_told t a b tree.Halted working works why = absurd (both_ways (has_halted a) working why)
  version_told t a b _ working works why = absurd why

  pub old_unsound : (t : Txn) (a b : Pages D g) (fault : StoreFault) → OldIn t a b fault → UnsoundIn t a b fault
  old_unsound t a b NotAStore why = λ honest d held. why honest held.m held.holds (held.is.tidy.new, held.is.tidy.holdings.told)
  old_unsound t a b OldVersion why = λ honest d held. no_value (in_four 2) (sym (new_tells held.m d held.is) ∙ why honest held.m held.holds)
  old_unsound t a b Memory why = absurd why
  old_unsound t a b _ why = why

  -- ---- pages
  pub pages_unsound : (t : Txn) (a b c : Pages D g) (fault : StoreFault) → IsBegun a t → IsQuiet a b → IsQuiet b c → UnsoundIn t a b fault → Unsound a c fault
  pages_unsound t a b c NotAStore begun first then why = λ honest d holds. why (then.honest honest) d (begun_reads a t d begun (first.honest (then.honest honest)) holds)
  pages_unsound t a b c OldVersion begun first then why = λ honest d holds. why (then.honest honest) d (begun_reads a t d begun (first.honest (then.honest honest)) holds)
  pages_unsound t a b c DeviceFault begun first then why = ap (λ j. is_halted j) (then.still why) ∙ why
  pages_unsound t a b c _ begun first then why = why

-- ---- what is found of rows beside the counties of the desk that is read
module _ (m : KeyMap) (d : Desk) (ranges : List CountyRange) (same : ranges ≡ ranges_in d.geography) where
  -- a row that doesn't belong
  pub found_stray : (found : Option WrongRow) (rows : ℕ) → is_some found ≡ true → IsReadFrom m d → IsChecked found rows ranges m → IsFoundAs found rows m
  found_stray None rows some read is = absurd (let clash : false ≡ true = some in cc)
  found_stray (Some row) rows some read is = (d, read, subst (λ (l : List CountyRange). IsStray l m row.key) same is)

  -- none
  pub found_as : (found : Option WrongRow) (rows : ℕ) → is_some found ≡ false → IsReadFrom m d → AreSoundHoldings m → IsChecked found rows ranges m → IsFoundAs found rows m
  found_as None rows none read holdings is = (d, record { read = read; whole = is.0; belong = subst (λ (l : List CountyRange). AllBelong l m) same is.1; holdings = holdings })
  found_as (Some row) rows none read holdings is = absurd (let clash : true ≡ false = none in cc)

  -- where all rows belong, none is told
  pub not_stray : (found : Option WrongRow) (rows : ℕ) → AllBelong (ranges_in d.geography) m → IsChecked found rows ranges m → found ≡ None
  not_stray None rows belong is = refl
  not_stray (Some row) rows belong is = absurd (let all : AllBelong ranges m = subst (λ (l : List CountyRange). AllBelong l m) (sym same) belong in is.3.2 (all is.0 is.3.0 is.1 is.3.1))

-- in the new version
pub sound_as : (m : KeyMap) (found : Option WrongRow) (rows : ℕ) → Has m version (in_four 2) → IsFoundAs found rows m → IsSoundAs found rows m
sound_as m None rows new is = (is.0, record { version = new; read = is.1.read; whole = is.1.whole; belong = is.1.belong; holdings = is.1.holdings })
sound_as m (Some row) rows new is = is

-- A new store holds the desk without geography and plans, and the row of the version alone.
use Rattle.std.{specs.FinMap.{empty, get, len, get-empty, len-empty}, proofs.Common.{◌≡◌, ℕ, List, Option, Some, None, sym, ◌∙◌, subst, arith}}
use Rattle.{desk_model.specs.claim.Desk.{Plan, name_cmp}, desk_store_pages.specs.{Desks.new_desk, Errors.page_refusal, Formats.{FormatErr, OpensNew, HasJournal}}}
use Rattle.{desk_store_pages.specs.claim.Desks.{IsSized, IsWithinLimits}, desk_store_rows.specs.{MigrationLaws.as_new, claim.{DeskRows.{IsPlanAt, IsDesk}, Order.key_cmp}}}
use Rattle.{desk_store_rows.specs.claim.{Keys.{key_of, seal, named, version, in_four}, Rows.KeyMap, Tidy.AllHold}, page_btree.specs.gets.{Map.IsOnlyRow, claim.Map.Holds}}
use Rattle.page_store.specs.{New.{IsNewWith, FormatErr as PagesErr}, claim.Chain.free_in, gate_journal.{claim.Store.pages, declared.error.PageError.PageError}}
use Rattle.{sector_device.specs.{claim.Disk.Disk, declared.SectorDevice.Ghosts}, desk_store_rows.proofs.{Migrating.{version_told, new_tidy}, TidyFree.empty_tidy}}
use Rattle.page_store.proofs.gate_journal.Commit.{settled_opens}
use Rattle.page_store.specs.gate_journal.declared.error.PageError.TheVariants as page

abbrev none : KeyMap
none = empty

no_plan : (name : List ℕ) → IsPlanAt none None name (get (empty {X = Plan} {R = name_cmp}) name)
no_plan name = subst (λ (p : Option Plan). IsPlanAt none None name p) (sym (get-empty name_cmp name)) (get-empty key_cmp (key_of (named name)))

pub no_rows_desk : IsDesk none new_desk
no_rows_desk = record { geography = get-empty key_cmp (key_of seal); plans = no_plan }

no_size : (name : List ℕ) (p : Plan) → get (empty {X = Plan} {R = name_cmp}) name ≡ Some p → IsSized p
no_size name p is = absurd (cc (sym (get-empty {X = Plan} name_cmp name) ∙ is))

no_plans_within : IsWithinLimits new_desk
no_plans_within = let none : len new_desk.plans ≡ 0 = len-empty name_cmp Plan in record { few = omega arith; sizes = no_size }

all_hold : AllHold none
all_hold = λ name plan number there named_by. absurd (cc (sym (get-empty {X = List ℕ} key_cmp (key_of (named name))) ∙ there.row))

pub first_desk : IsDesk (as_new none) new_desk
first_desk = (version_told none empty_tidy.0 all_hold).desk new_desk no_rows_desk

-- each image of it opens to that desk
pub new_opens : (J : ℕ) (bytes : List ℕ) (disk : Disk) → IsOnlyRow bytes (key_of version) (in_four 2) → IsNewWith J bytes disk → OpensNew disk
new_opens J bytes disk row new c leaves =
    let P = pages J disk.reads in
    let whole = new.free in
    record {
      J = J;
      n = new.n;
      P = P;
      whole = new.whole;
      opens = settled_opens J new.n disk new.settled c leaves;
      holds = record {
        m = as_new none;
        holds = subst (λ (root : ℕ). Holds new.n P root (free_in P) (as_new none)) (sym new.root)
            (row new.n P (free_in P) new.there (omega arith) new.sound.free new.used new.free);
        is = record { desk = first_desk; tidy = new_tidy.0; version = new_tidy.2; limits = no_plans_within };
      };
      sound = new.sound;
    }

-- and is one of a store with so many journal pages
pub new_journal : (J : ℕ) (bytes : List ℕ) (disk : Disk) → IsNewWith J bytes disk → HasJournal J disk
new_journal J bytes disk new c leaves = (new.n, new.whole, (settled_opens J new.n disk new.settled c leaves).store)

-- why its pages aren't written
pub format_refused : {D : Type 0} (g : Ghosts D) (J : ℕ) (old new : D) (e : PageError) → PagesErr g J old new e → FormatErr g J old new (page_refusal e)
format_refused g J old new page.DeviceFault why = why
format_refused g J old new page.TooSmall why = why
format_refused g J old new page.Memory why = why
format_refused g J old new _ why = absurd why

-- What the layers above need of a stop where a call read at most.
use Rattle.{std.{specs.Prelude.{◌≡◌, ℕ, false}, proofs.{Common.{rules, inl, inr, sym, subst, ◌∙◌}, lemmas.Bool.cases_Bool}}, gate_journal.specs.claim.Store.Opens}
use Rattle.{gate_journal.specs.{claim.Contents.{content, page_count, journal_size}, declared.journal.Journal.Journal}, page_store.specs.declared.pages.Pages.Pages}
use Rattle.{page_store.specs.claim.Transactions.{stored, disk_in, has_halted, IsQuiet, IsKept, HasFailed, Passed}, sector_device.specs.claim.Disk.{Disk, Image, Touches, Nowhere}}
use Rattle.sector_device.{specs.{claim.Moments.LeavesOnly, declared.SectorDevice.Ghosts}, proofs.Moments.{now_but, leaves_still, touches_none, touches_more}}

-- a run that begins now has left what a stop now may leave
pub leaves_here : (P : Image → Type 0) (a : Disk) → ((c : Image) → a.leaves c → P c) → LeavesOnly P a a
leaves_here P a has = search rules

-- a call that wrote nothing keeps what each image stands for
pub kept_still : (J n K m : ℕ) (b c : Disk) (P Q : Image) → K ≡ J → m ≡ n → Q ≡ P → ((x : Image) → b.leaves x → Opens J n P x) → Touches Nowhere b c → (x : Image) → c.leaves x → Opens K m Q x
kept_still J n K m b c P Q same_journal same_count same kept bc x leaves =
    let but = now_but Nowhere b c bc x leaves in
    let there : Opens J n P x = subst (λ (y : Image). Opens J n P y) (λ i k. (sym (but.2.same k (λ none. none))) i) (kept but.0 but.1) in
    rw (same_journal, same_count, same) there

module _ {D : Type 0} {g : Ghosts D} (old new : Pages D g) (quiet : IsQuiet old new) (honest : (disk_in new).is_honest) where
  -- what is so of the pages, and stays so where they hadn't halted
  by_halt : (Q : Journal D g → Type 0) → Q old.journal → (has_halted old ≡ false → Q new.journal) → Q new.journal
  by_halt Q was moved = search (rules, cases_Bool (has_halted old), quiet.still)

  -- a call that read at most: the pages are kept, also by pages that have halted
  pub kept_quiet : IsKept old → IsKept new
  kept_quiet kept = by_halt (λ j. (c : Image) → (g.disk j.device).leaves c → Opens (journal_size j) (page_count j) (content j) c) kept (λ working.
      kept_still (journal_size old.journal) (page_count old.journal) (journal_size new.journal) (page_count new.journal) (disk_in old) (disk_in new) (stored old) (stored new)
      quiet.journal quiet.count (quiet.same honest) kept (quiet.moves honest working))

  -- and a run goes on with it
  pub leaves_quiet : (P : Image → Type 0) (a : Disk) → LeavesOnly P a (disk_in old) → LeavesOnly P a (disk_in new)
  leaves_quiet P a left = by_halt (λ j. LeavesOnly P a (g.disk j.device)) left (λ working. leaves_still P a (disk_in old) (disk_in new) left (quiet.moves honest working))

-- ---- calls that follow one another
module _ {D : Type 0} {g : Ghosts D} where
  -- nothing was read
  pub quiet_none : (a : Pages D g) → IsQuiet a a
  quiet_none a = search (rules, touches_none)

  pub quiet_more : (a b c : Pages D g) → IsQuiet a b → IsQuiet b c → IsQuiet a c
  quiet_more a b c ab bc = record {
    count = bc.count ∙ ab.count;
    journal = bc.journal ∙ ab.journal;
    honest = λ honest. ab.honest (bc.honest honest);
    same = λ honest. bc.same honest ∙ ab.same (bc.honest honest);
    moves = λ honest working. elim (cases_Bool (has_halted b)) [
      | inl halted ↦ subst (λ j. Touches Nowhere (disk_in a) (g.disk j.device)) (sym (bc.still halted)) (ab.moves (bc.honest honest) working)
      | inr on ↦ touches_more Nowhere Nowhere (disk_in a) (disk_in b) (disk_in c) (λ i t. t) (ab.moves (bc.honest honest) working) (bc.moves honest on)
    ];
    still = λ halted. search (rules, cases_Bool);
    rose = λ working halted honest. search (rules, cases_Bool);
    calm = λ working honest. search (rules, cases_Bool);
  }

  pub passed_none : (a : Pages D g) → Passed a a
  passed_none a = search (rules, quiet_none)

  pub passed_more : (a b c : Pages D g) → Passed a b → Passed b c → Passed a c
  passed_more a b c ab bc = search (rules, quiet_more a b c ab.quiet bc.quiet)

  -- calls that met no fault, and then one that failed
  pub failed_more : (a b c : Pages D g) → Passed a b → IsQuiet b c → HasFailed b c → HasFailed a c
  failed_more a b c ab bc failed = search rules

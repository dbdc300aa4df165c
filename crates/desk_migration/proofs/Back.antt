-- Rows that are taken out, tag after tag, until the rows are of the old version.
use Rattle.{std.specs.{Cmp.Lexicographic.nat_list_cmp_total, FinMap.{get, get-remove, remove}, List.starts_with, Ordering.eq_by_cmp}, btree_scan.specs.declared.rows.Row.Row}
use Rattle.std.proofs.Common.{◌≡◌, ◌+◌, inl, ℕ, zero, List, [], ◌∷◌, drop, Bool, true, false, cond, nat_eq, Some, None, refl, sym, ap, subst, ◌∙◌, arith}
use Rattle.{desk_migration.specs.TurningBack.{IsLess, IsWithout, NoneOf}, desk_model.specs.claim.Desk.Desk, desk_store_opening.specs.tidy.Rows.{IsFirst, NoneFrom}}
use Rattle.{desk_store_pages.specs.claim.Desks.{InPages, InTxnOf, IsMapOf, OpensDesk, OpensEither}, desk_store_rows.specs.{Rows.SameTag, claim.{Holders.AreTallied, Rows.KeyMap}}}
use Rattle.{page_btree.specs.{gets.claim.Map.InTxn, node.claim.Places.key_cmp}, page_store.specs.{declared.{pages.Pages.Pages, txn.Txn.Txn}, gate_journal.claim.Store.home}}
use Rattle.{page_store.specs.claim.Transactions.{stored, disk_in, count_of, journal_of, has_halted, IsQuiet, Passed}, sector_device.specs.claim.{Disk.Image, Moments.LeavesOnly}}
use Rattle.{sector_device.specs.declared.SectorDevice.Ghosts, desk_store_rows.proofs.{Frames.{desk_stays, either_way, remove_keeps_tag}, KeyPrefixes.{after_tag, starts_itself}}}
use Rattle.desk_store_rows.proofs.{OneGeography.no_value, TidyParts.{AllKept, chunks_stay, kept_of, loads_stay, next_moves, plans_stay, tidy_at, some_or_none as none_or}}
use Rattle.sector_device.proofs.Moments.{leaves_wider}
use Rattle.desk_store_opening.proofs.tidy.After.{from_tag}
use Rattle.desk_store_opening.proofs.tidy.FirstRows.{none_at_all, none_after}
use Rattle.desk_store_opening.proofs.chunk_table.Committing.{IsBegun, quiet_leaves}

-- ---- one row
none_of : (tag : ℕ) (m : KeyMap) → NoneFrom (tag ∷ []) (tag ∷ []) m → NoneOf tag m
none_of tag m none rest = none_or (get m (tag ∷ rest)) (λ value there. none (tag ∷ rest) value there (from_tag tag tag rest (omega arith)) (starts_itself (tag ∷ []) rest))

pub none_found : (tag : ℕ) (m : KeyMap) (row : Row) → IsFirst false (tag ∷ []) row m → NoneOf tag m
none_found tag m row first = none_of tag m (none_at_all m (tag ∷ []) (tag ∷ []) first)

pub none_later : (tag : ℕ) (m : KeyMap) (row : Row) → IsFirst true (tag ∷ []) row m → starts_with nat_eq row.key (tag ∷ []) ≡ false → NoneOf tag m
none_later tag m row first off = none_of tag m (none_after m (tag ∷ []) (row.key, row.value) first.0 first.1 (tag ∷ []) (starts_itself (tag ∷ []) []) off)

removed_less : (tag : ℕ) (m : KeyMap) (rest : List ℕ) → IsLess tag m (remove m (tag ∷ rest))
removed_less tag m rest = record {
  others = λ other apart. remove_keeps_tag m other tag rest apart;
  rows = λ key value there. either_way (eq_by_cmp key_cmp key (tag ∷ rest)) (get m key ≡ Some value)
      (λ same. absurd (no_value value (sym there ∙ get-remove nat_list_cmp_total m (tag ∷ rest) key ∙ ap (λ (b : Bool). cond b None (get m key)) same)))
      (λ other. sym (ap (λ (b : Bool). cond b None (get m key)) other) ∙ sym (get-remove nat_list_cmp_total m (tag ∷ rest) key) ∙ there);
}

pub one_less : (tag : ℕ) (m : KeyMap) (key : List ℕ) → starts_with nat_eq key (tag ∷ []) ≡ true → IsLess tag m (remove m key)
one_less tag m key on = subst (λ (k : List ℕ). IsLess tag m (remove m k)) (sym (after_tag key tag (drop 1 key) on refl)) (removed_less tag m (drop 1 key))

pub none_less : (tag : ℕ) (m : KeyMap) → IsLess tag m m
none_less tag m = record { others = λ other apart rest. refl; rows = λ key value there. there }

pub more_less : (tag : ℕ) (m n k : KeyMap) → IsLess tag m n → IsLess tag n k → IsLess tag m k
more_less tag m n k one next = search (next.others, one.others, one.rows, next.rows)

-- ---- all three tags
module _ (m n k l : KeyMap) (held : IsLess 72 m n) (none_held : NoneOf 72 n) (told : IsLess 75 n k) (none_told : NoneOf 75 k) (versions : IsLess 86 k l) (none_versions : NoneOf 86 l) where
  same : (tag : ℕ) → (tag ≡ 72 → ⊥) → (tag ≡ 75 → ⊥) → (tag ≡ 86 → ⊥) → SameTag tag m l
  same tag a b c rest = versions.others tag c rest ∙ told.others tag b rest ∙ held.others tag a rest

  no_holding : NoneOf 72 l
  no_holding rest = versions.others 72 (λ e. absurd (omega arith)) rest ∙ told.others 72 (λ e. absurd (omega arith)) rest ∙ none_held rest

  none_counted_by_holders : AreTallied l
  none_counted_by_holders number fits = record {
    count = zero;
    fits = omega arith;
    row = versions.others 75 (λ e. absurd (omega arith)) _ ∙ none_told _;
    holders = record {
      plan_at = λ place. zero;
      each = λ place less. absurd (omega arith);
      all = λ plan plan_fits holds. absurd (no_value [] (sym holds ∙ no_holding _));
      apart = λ a b less more. absurd (omega arith);
    };
  }

  pub turned : (new : Bool) (d : Desk) → IsMapOf new m d → IsMapOf false l d
  turned new d is =
      let next = is.tidy.next in
      let kept = kept_of m is.tidy in
      let names = same 80 (λ e. absurd (omega arith)) (λ e. absurd (omega arith)) (λ e. absurd (omega arith)) in
      let parts = same 82 (λ e. absurd (omega arith)) (λ e. absurd (omega arith)) (λ e. absurd (omega arith)) in
      let seals = same 83 (λ e. absurd (omega arith)) (λ e. absurd (omega arith)) (λ e. absurd (omega arith)) in
      let loads = same 103 (λ e. absurd (omega arith)) (λ e. absurd (omega arith)) (λ e. absurd (omega arith)) in
      let chunks = same 107 (λ e. absurd (omega arith)) (λ e. absurd (omega arith)) (λ e. absurd (omega arith)) in
      let gone = same 68 (λ e. absurd (omega arith)) (λ e. absurd (omega arith)) (λ e. absurd (omega arith)) in
      let begun = same 76 (λ e. absurd (omega arith)) (λ e. absurd (omega arith)) (λ e. absurd (omega arith)) in
      let all : AllKept l next false = record {
        rows = λ key value there. kept.rows key value (held.rows key value (told.rows key value (versions.rows key value there)));
        plans = plans_stay m l next.plan next.plan (omega arith) names gone parts kept.plans;
        chunks = chunks_stay m l next.chunk next.chunk (omega arith) parts chunks kept.chunks;
        loads = loads_stay m l next.load next.load (omega arith) begun seals loads kept.loads;
        holders = record {
          told = none_versions [];
          held = λ plan number value fits there. absurd (no_value value (sym there ∙ no_holding _));
          counted_by_holders = none_counted_by_holders;
          hold = λ never. absurd (let clash : false ≡ true = never in cc);
        };
      } in
      let tidy = tidy_at l next false (next_moves m l next (same 65 (λ e. absurd (omega arith)) (λ e. absurd (omega arith)) (λ e. absurd (omega arith)) []) is.tidy.is_next) is.tidy.fits all in
      record { desk = desk_stays m l d names parts seals loads chunks is.desk; tidy = tidy.0; version = tidy.2; limits = is.limits }

-- what a transaction reads then
pub turned_txn : (t u v : Txn) (P : Image) (d : Desk) (m : KeyMap) → IsMapOf true m d → (one : IsWithout 72 t P m) → (two : IsWithout 75 u P one.n) → IsWithout 86 v P two.n → InTxnOf false v P d
turned_txn t u v P d m is one two three = search (three.reads, turned, one.less, one.none, two.less, two.none, three.less)

module _ {D : Type 0} {g : Ghosts D} where
  -- one tag after the other
  pub turned_pages : (t u v w : Txn) (a b c e : Pages D g) → Passed a b → Passed b c → IsQuiet c e → ((disk_in b).is_honest → (m : KeyMap) → InTxn t (stored a) m → IsWithout 72 u (stored a) m) → ((disk_in c).is_honest → (m : KeyMap) → InTxn u (stored b) m → IsWithout 75 v (stored b) m)
      → ((disk_in e).is_honest → (m : KeyMap) → InTxn v (stored c) m → IsWithout 86 w (stored c) m) → (disk_in e).is_honest → (d : Desk) → InTxnOf true t (stored a) d → InTxnOf false w (stored a) d
  turned_pages t u v w a b c e ab bc ce held told versions honest d holds =
      let hc = ce.honest honest in
      let hb = bc.quiet.honest hc in
      let same = ab.quiet.same hb in
      let both = bc.quiet.same hc ∙ same in
      let one : IsWithout 72 u (stored a) holds.m = held hb holds.m holds.holds in
      let two : IsWithout 75 v (stored a) one.n = subst (λ (P : Image). IsWithout 75 v P one.n) same (told hc one.n (subst (λ (P : Image). InTxn u P one.n) (sym same) one.reads)) in
      let three : IsWithout 86 w (stored a) two.n = subst (λ (P : Image). IsWithout 86 w P two.n) both (versions honest two.n (subst (λ (P : Image). InTxn v P two.n) (sym both) two.reads)) in
      turned_txn u v w (stored a) d holds.m holds.is one two three

  -- ---- and it is committed
  pub back_reads : (t u : Txn) (a b : Pages D g) → IsBegun a t → IsQuiet a b → ((disk_in b).is_honest → (d : Desk) → InTxnOf true t (stored a) d → InTxnOf false u (stored a) d) → (disk_in b).is_honest → (d : Desk) → InPages a d → InTxnOf false u (stored b) d
  back_reads t u a b start quiet old honest d holds = search (holds.m, start.reads, quiet.honest, holds.holds, holds.is, quiet.same)

  pub back_quiet : (a b : Pages D g) → IsQuiet a b → (disk_in b).is_honest → has_halted a ≡ false → (sectors : ℕ) (d : Desk) → home (journal_of a) + count_of a ≡ sectors → InPages a d → LeavesOnly (OpensEither sectors d) (disk_in a) (disk_in b)
  back_quiet a b quiet honest working sectors d whole holds =
      leaves_wider (OpensDesk sectors d) (OpensEither sectors d) (disk_in a) (disk_in b) (λ x opens. inl opens) (quiet_leaves true a b quiet honest working sectors d whole holds)

-- Plans come to hold what they name, and the version is told: the desk stays as it is, and the rows stay tidy.
use Rattle.{std.{specs.FinMap.{empty, get-empty}, proofs.Common.{true, ◌≡◌, ◌<◌, ◌^◌, ℕ, [], ◌∷◌, refl, sym, subst, ◌∙◌, inl, inr, arith}}, desk_store_rows.specs.Rows.SameTag}
use Rattle.desk_store_rows.specs.{MigrationLaws.{as_new, IsMigrated, HoldsNamed}, Shares.{CanHold, Holds}, Tidy.TidyWith, claim.{Holders.IsHeld, Lists.chunks_bytes, Order.key_cmp}}
use Rattle.desk_store_rows.{specs.claim.{Keys.{key_of, Fits, holding, part, version, in_four}, Rows.{KeyMap, Has}, Shares.hold}, proofs.Forked.known_can_hold}
use Rattle.desk_store_rows.{specs.claim.Tidy.{no_numbers, IsNamedBy, AllHold, AreHoldings, Tidy}, proofs.{Frames.{put_is_there, put_keeps_tag, desk_stays}, OneGeography.no_value}}
use Rattle.desk_store_rows.proofs.{HolderCounts.holder_counts_stay, Sharing.{only_one, all_held}, TidyFree.{named_below, empty_tidy}, TidyRevisions.held_or_not}
use Rattle.desk_store_rows.proofs.TidyParts.{holders_kept, stays_tidy, tidy_at, next_moves, numbered_moves, naming_moves, rows_put}

-- a plan that names a chunk can hold it
pub names_can_hold : (m : KeyMap) (tidy : Tidy m) (plan number : ℕ) → IsNamedBy m plan number → CanHold m tidy.next.plan plan
names_can_hold m tidy plan number naming = known_can_hold m tidy plan (named_below m tidy plan number naming)

module _ (m : KeyMap) (tidy : Tidy m) (plan number : ℕ) (fits : number < 2 ^ 64) (naming : IsNamedBy m plan number) where
  abbrev after : KeyMap
  after = hold m plan number

  holds : Holds m after tidy.next.plan plan (number ∷ [])
  holds = all_held m tidy.next.plan plan (number ∷ []) (names_can_hold m tidy plan number naming) (λ x among. subst (λ (k : ℕ). k < 2 ^ 64) (only_one number x among) fits)

  parts : SameTag 82 m after
  parts = holds.rest 82 (λ e. absurd (omega arith)) (λ e. absurd (omega arith))

  names : SameTag 80 m after
  names = holds.rest 80 (λ e. absurd (omega arith)) (λ e. absurd (omega arith))

  -- what was held is held still
  still_held : (other x : ℕ) → Fits (holding other x) → IsHeld m other x → IsHeld after other x
  still_held other x both held = elim (held_or_not other plan (number ∷ []) x) [
    | inl (is, among) ↦ subst (λ (k : ℕ). IsHeld after k x) (sym is) (holds.held x among)
    | inr apart ↦ holds.others other x both apart ∙ held
  ]

  migrated : IsMigrated m tidy.next tidy.new after
  migrated =
      let holders : AreHoldings after tidy.new = record {
        told = holds.rest 86 (λ e. absurd (omega arith)) (λ e. absurd (omega arith)) [] ∙ tidy.holdings.told;
        held = λ other x value both there. elim (held_or_not other plan (number ∷ []) x) [
          | inl (is, among) ↦ (
            holds.can.empty x value (subst (λ (k : ℕ). Fits (holding k x)) is both) (subst (λ (k : ℕ). Has after (holding k x) value) is there),
            subst (λ (k : ℕ). IsNamedBy after k x) (sym is) (subst (λ (k : ℕ). IsNamedBy after plan k) (only_one number x among) (naming_moves m after plan number parts naming)),
          )
          | inr apart ↦ search (tidy.holdings.held other x value both (sym (holds.others other x both apart) ∙ there), naming_moves, parts)
        ];
        counted_by_holders = holds.can.counted_by_holders;
        hold = λ is_new name other x there named_by.
            let before : IsNamedBy m other x = naming_moves after m other x (λ rest. sym (parts rest)) named_by in
            still_held other x (there.fits, omega arith) (tidy.holdings.hold is_new name other x (numbered_moves after m name other (sym (names _)) there) before);
      } in
      record {
        desk = λ d is. desk_stays m after d names parts (holds.rest 83 (λ e. absurd (omega arith)) (λ e. absurd (omega arith))) (holds.rest 103 (λ e. absurd (omega arith)) (λ e. absurd (omega arith))) (holds.rest 107 (λ e. absurd (omega arith)) (λ e. absurd (omega arith))) is;
        tidy = stays_tidy m after tidy (holds.rest 65 (λ e. absurd (omega arith)) (λ e. absurd (omega arith)) []) (holders_kept m after tidy tidy.new (λ tag a b c. holds.rest tag a b) (holds.rows tidy.rows) holders);
      }

  pub named_held : HoldsNamed m tidy.next tidy.new plan number after
  named_held = record { is = migrated; held = holds.held number (0, omega arith, refl); still = still_held; rest = holds.rest }

-- ---- the version is told
pub version_told : (m : KeyMap) (tidy : Tidy m) → AllHold m → IsMigrated m tidy.next true (as_new m)
version_told m tidy hold =
    let next = tidy.next in
    let n = as_new m in
    let same = λ (tag : ℕ) (apart : tag ≡ 86 → ⊥). put_keeps_tag m tag 86 [] (in_four 2) apart in
    let names : SameTag 80 m n = same 80 (λ e. absurd (omega arith)) in
    let parts : SameTag 82 m n = same 82 (λ e. absurd (omega arith)) in
    let rows : SameTag 72 m n = same 72 (λ e. absurd (omega arith)) in
    let holders : AreHoldings n true = record {
      told = put_is_there m (key_of version) (in_four 2);
      held = λ plan number value fits there. let is = tidy.holdings.held plan number value fits (sym (rows _) ∙ there) in (is.0, naming_moves m n plan number parts is.1);
      counted_by_holders = holder_counts_stay m n rows (same 75 (λ e. absurd (omega arith))) tidy.holdings.counted_by_holders;
      hold = λ is_new name plan number there named_by. rows _ ∙ hold name plan number (numbered_moves n m name plan (sym (names _)) there) (naming_moves n m plan number (λ rest. sym (parts rest)) named_by);
    } in
    record {
      desk = λ d is. desk_stays m n d names parts (same 83 (λ e. absurd (omega arith))) (same 103 (λ e. absurd (omega arith))) (same 107 (λ e. absurd (omega arith))) is;
      tidy = tidy_at n next true (next_moves m n next (same 65 (λ e. absurd (omega arith)) []) tidy.is_next) tidy.fits (holders_kept m n tidy true (λ tag a b c. same tag c) (rows_put m version (in_four 2) tt tidy.rows) holders);
    }

-- a new store
pub new_tidy : TidyWith (as_new empty) no_numbers true
new_tidy =
    let old = empty_tidy in
    let made = (version_told empty old.0 (λ name plan number there named_by. absurd (no_value (chunks_bytes named_by.numbers) (sym named_by.row ∙ get-empty key_cmp (key_of (part plan named_by.revision named_by.index)))))).tidy in
    (made.0, made.1 ∙ old.1, made.2)

-- Lemmas on the definitions of Held.
use Rattle.std.{specs.Prelude.{◌≡◌, ◌≤◌, ◌<◌, ◌^◌, ℕ, Bool, true, false, List, [], ◌∷◌, length, cond, ◌+◌}, proofs.lemmas.Bool.{cases_eq, Decides.nat_tests}}
use Rattle.{std.proofs.Common.{get_or, set, nat_eq, ◌≢◌, inl, inr, sym, subst, ◌∙◌, arith, get_or-set_other}, sector_device.specs.{Disk.Only, claim.Disk.{Disk, Image, Touches}}}
use Rattle.sector_device.specs.Held.{Leaves, State, disk_from, refused}

-- c, with the sector as it was
abbrev put_back : List (List ℕ) → ℕ → Image → Image
put_back sectors i c j = cond (nat_eq j i) (get_or sectors j []) (c j)

put_back_other : (sectors : List (List ℕ)) (i : ℕ) (c : Image) (j : ℕ) → j ≢ i → put_back sectors i c j ≡ c j
put_back_other sectors i c j off = grind (arith, nat_tests)

-- Only the i-th sector may have changed, and it counts as written.
module _ (honest honest' : Type 0) (was_honest : honest) (sectors sectors' : List (List ℕ)) (few : length sectors < 2 ^ 32) (few' : length sectors' < 2 ^ 32) (unsynced : List Bool) (states : List State) (i : ℕ) (told : Bool)
    (long : length sectors' ≡ length sectors) (same : (j : ℕ) → j ≢ i → get_or sectors' j [] ≡ get_or sectors j []) where
  abbrev old : Disk
  old = disk_from honest sectors few unsynced states

  abbrev new : Disk
  new = disk_from honest' sectors' few' (set unsynced i true) ((sectors, unsynced, told) ∷ states)

  put_back_leaves : (c : Image) → Leaves sectors' (set unsynced i true) c → Leaves sectors unsynced (put_back sectors i c)
  put_back_leaves c leaves j clean = elim (cases_eq j i) [
    | inl here ↦ let P : Type 0 = put_back sectors i c j ≡ get_or sectors j [] in let it : P = grind (arith, nat_tests) in it
    | inr off ↦ put_back_other sectors i c j off ∙ leaves j (get_or-set_other unsynced i j true false off ∙ clean) ∙ same j off
  ]

  -- the same where the states are known by what was noted
  pub write_touches : (later : List State) (noted_sectors : List (List ℕ)) (noted_unsynced : List Bool) → later ≡ (noted_sectors, noted_unsynced, told) ∷ states → noted_sectors ≡ sectors → noted_unsynced ≡ unsynced
      → Touches (Only i) (disk_from honest sectors few unsynced states) (disk_from honest' sectors' few' (set unsynced i true) later)
  write_touches later s d is s_is d_is =
      let whole : later ≡ (sectors, unsynced, told) ∷ states = is ∙ (λ k. (s_is k, d_is k, told) ∷ states) in
      subst (λ (l : List State). Touches (Only i) old (disk_from honest' sectors' few' (set unsynced i true) l)) (sym whole) (record {
        was_honest = was_honest;
        sectors = long;
        later = omega arith;
        faults = elim told as (λ b. refused states ≤ cond b (refused states + 1) (refused states)) [ true ↦ omega arith | false ↦ omega arith ];
        reads = record { same = λ j off. same j off };
        since = λ t c le left. elim left [
          | inl now ↦ inr (put_back sectors i c, put_back_leaves c now, record { same = λ j off. sym (put_back_other sectors i c j off) })
          | inr had ↦ search arith
        ];
        keeps = λ t c le left. search arith;
      })

-- Whether the device failed in a run, by induction on its calls.
use Rattle.{std.proofs.Common.{◌≡◌, ◌<◌, Bool, true, false, List, inl, inr, ⊎_elim, refl, sym, subst, ◌∙◌, arith}, desk_model.specs.claim.{Desk.Desk, Step.step}}
use Rattle.{inspect_command.specs.desk_store.{claim.Clerks.{desk_of, disk_of, pages_of, HaltsByDevice, Keeps, Moves}, declared.clerk.Clerk.Clerk}, page_store.proofs.Chains.either}
use Rattle.{inspect_command.specs.desk_theorem_runs.claim.{Runs.Call, SweptRuns.SweptRun}, page_store.specs.claim.Transactions.{has_halted, IsSame}}
use Rattle.sector_device.specs.declared.SectorDevice.{Ghosts}

module _ {D : Type 0} {g : Ghosts D} where
  -- What is known of the device from one clerk to another. From a halt on nothing changes; and where the store kept the desk, a clerk who
  -- halts does so by a fault.
  pub record Along (x z : Clerk D g) : Type 0 where
    pub honest : (disk_of z).is_honest → (disk_of x).is_honest
    pub stays : x.halted ≡ true → IsSame (pages_of x) (pages_of z)
    pub device : HaltsByDevice x z
    pub rose : Keeps x → x.halted ≡ false → z.halted ≡ true → (disk_of z).is_honest → (disk_of x).faults < (disk_of z).faults

  unmoved : (x : Clerk D g) → Along x x
  unmoved x = record {
    honest = λ honest. honest;
    stays = λ on. refl;
    device = record { rose = λ off on. absurd (let clash : true ≡ false = sym on ∙ off in cc); calm = λ off honest. refl };
    rose = λ keeps off on honest. absurd (let clash : true ≡ false = sym on ∙ off in cc);
  }

  -- the pages halt where the device fails, in the run as in each call
  halted_by : (y : Clerk D g) → has_halted (pages_of y) ≡ true → y.halted ≡ true
  halted_by y fell = ⊎_elim (λ on. on) (λ off. absurd (let clash : true ≡ false = sym fell ∙ y.working off in cc)) (either y.halted)

  one_more : (next : Desk) (x y z : Clerk D g) → Moves next x y → HaltsByDevice x y → Along y z → Along x z
  one_more next x y z moves one rest = record {
    honest = λ honest. moves.honest (rest.honest honest);
    stays = λ on. (let still = moves.still on in rest.stays still.2 ∙ still.0);
    device = record {
      rose = λ off on honest. elim (either (has_halted (pages_of y))) [
        | inl fell ↦ subst (λ j. (disk_of x).faults < (g.disk j.device).faults) (sym (rest.stays (halted_by y fell))) (one.rose off fell (rest.honest honest))
        | inr works ↦ (let rises = rest.device.rose works on honest in let same = one.calm works (rest.honest honest) in omega (arith, rises, same))
      ];
      calm = λ off honest. elim (either (has_halted (pages_of y))) [
        | inl fell ↦ (
            let on : has_halted (pages_of z) ≡ true = subst (λ j. j.halted ≡ true) (sym (rest.stays (halted_by y fell))) fell in
            absurd (let clash : true ≡ false = sym on ∙ off in cc))
        | inr works ↦ rest.device.calm off honest ∙ one.calm works (rest.honest honest)
      ];
    };
    rose = λ keeps off on honest. elim (either y.halted) [
      | inl fell ↦ subst (λ j. (disk_of x).faults < (g.disk j.device).faults) (sym (rest.stays fell)) (moves.rose keeps off fell (rest.honest honest))
      | inr works ↦ (let rises = rest.rose (moves.keeps keeps) works on honest in let same = moves.calm works (rest.honest honest) in omega (arith, rises, same))
    ];
  }

  pub along : (a : Bool) (x : Clerk D g) (calls : List Call) (b : Bool) (z : Clerk D g) → SweptRun a x calls b z → Along x z
  along a x _ _ z (SweptRun.over _ _) = unmoved x
  along a x _ b z (SweptRun.went _ _ c r y calls _ _ does run) = one_more (step (desk_of x) c).1 x y z does.moves does.device (along a y calls b z run)
  along a x calls b z (SweptRun.tended _ _ m y _ _ _ tends run) = one_more (desk_of x) x y z tends.moves tends.device (along m y calls b z run)

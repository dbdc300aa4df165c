-- Calls at a clerk, one after the other.
use Rattle.{std.proofs.Common.{rules, ◌≡◌, ◌⊎◌, false, inl, inr, ⊎_elim, sym, subst, ◌∙◌}, desk_model.specs.claim.Desk.Desk, desk_store.specs.declared.clerk.Clerk.Clerk}
use Rattle.{desk_store.specs.claim.Clerks.{desk_of, disk_of, sectors_of, MovesIf}, desk_store_pages.specs.claim.Desks.OpensDesk, sector_device.specs.claim.Disk.Image}
use Rattle.{sector_device.{specs.{claim.Moments.LeavesOnly, declared.SectorDevice.Ghosts}, proofs.Moments.{leaves_more, leaves_wider}}, page_store.proofs.Chains.either}

module _ {D : Type 0} {g : Ghosts D} where
  abbrev pub OneOf : Clerk D g → Desk → Image → Type 0
  OneOf x next c = OpensDesk (sectors_of x) (desk_of x) c ⊎ OpensDesk (sectors_of x) next c

  -- a call that leaves the desk may as well have come to the next one
  pub may_move : (sound : Type 0) (next : Desk) (x y : Clerk D g) → MovesIf sound (desk_of x) x y → MovesIf sound next x y
  may_move sound next x y moves =
      let any_moment : sound → x.halted ≡ false → (disk_of y).is_honest → LeavesOnly (OneOf x next) (disk_of x) (disk_of y) = λ is off honest.
      leaves_wider (OneOf x (desk_of x)) (OneOf x next) (disk_of x) (disk_of y) (λ c. ⊎_elim (λ was. inl was) (λ same. inl same)) (moves.any_moment is off honest) in
      search rules

  -- a call that leaves the desk, and one more after it
  module _ (sound then : Type 0) (next : Desk) (x y z : Clerk D g) (one : MovesIf sound (desk_of x) x y) (desk : desk_of y ≡ desk_of x) (gives : sound → then) (two : MovesIf then next y z) where
    before : sound → x.halted ≡ false → (disk_of z).is_honest → LeavesOnly (OneOf x next) (disk_of x) (disk_of y)
    before is off honest = (may_move sound next x y one).any_moment is off (two.honest honest)

    moved : (c : Image) → OneOf y next c → OneOf x next c
    moved c = search rules

    after : sound → y.halted ≡ false → (disk_of z).is_honest → LeavesOnly (OneOf x next) (disk_of y) (disk_of z)
    after is off honest = leaves_wider (OneOf y next) (OneOf x next) (disk_of y) (disk_of z) moved (two.any_moment (gives is) off honest)

    pub then_moved : MovesIf sound next x z
    then_moved = record {
      sectors = two.sectors ∙ one.sectors;
      room = two.room ∙ one.room;
      honest = λ honest. one.honest (two.honest honest);
      any_moment = λ is off honest. elim (either y.halted) [
        | inl on ↦ subst (λ j. LeavesOnly (OneOf x next) (disk_of x) (g.disk j.device)) (sym (two.still on).0) (before is off honest)
        | inr works ↦ leaves_more (OneOf x next) (disk_of x) (disk_of y) (disk_of z) (before is off honest) (after is works honest)
      ];
      keeps = λ is. two.keeps (gives is);
      still = λ on. (let first = one.still on in let second = two.still first.2 in (second.0 ∙ first.0, second.1 ∙ first.1, second.2));
      rose = λ is off halts honest. search rules;
      calm = λ off honest. search rules;
    }

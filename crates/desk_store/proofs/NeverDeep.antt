-- A command of few rows isn't refused for the depth of a tree of few levels.
use Rattle.{std.proofs.{Common.{◌<◌, ◌≤◌, ◌+◌, ◌*◌, ℕ, zero, suc, inl, inr, arith}, Math.Nat.min-le_left}, desk_model.specs.claim.Room.{command_rows, need}}
use Rattle.{desk_model.specs.declared.command.Command.{Command, TheVariants.{Create, Retire}}, desk_store.specs.Depth.{level_of, IsAnsweredFull, IsNeverDeep}}
use Rattle.{desk_store.specs.{claim.{Clerks.{desk_of, free_of, pages_of, room_of}, Commands.IsExhausted}, declared.clerk.Clerk.Clerk}, page_btree.specs.node.claim.Node.count_in}
use Rattle.{page_btree.specs.gets.claim.Errors.{level_in, reach_at, reach_in}, page_store.specs.claim.{Chain.root_in, Transactions.stored}, sector_device.specs.claim.Disk.Image}
use Rattle.sector_device.specs.declared.SectorDevice.{Ghosts}

reach_most : (d e : ℕ) → reach_at d e ≤ 50 * d + 51
reach_most zero e = omega arith
reach_most (suc d) e = let most = min-le_left 51 e in omega (arith, most)

reach_most_in : (P : Image) (p : ℕ) → reach_in P p ≤ 50 * level_in P p + 51
reach_most_in P zero = omega arith
reach_most_in P (suc p) = reach_most (level_in P (suc p)) (count_in (P (suc p)))

module _ {D : Type 0} {g : Ghosts D} where
  -- a journal has 256 pages at least
  enough : (x : Clerk D g) → 26 ≤ room_of x
  enough x = let least = x.pages.journal.room.least_journal in omega (arith, least)

  few_rows : (x y : Clerk D g) (c : Command) → command_rows (desk_of x) c + 50 * level_of x < 250 → need (desk_of x) c ≤ free_of x → need (desk_of x) c ≤ room_of x → IsAnsweredFull x c y → IsExhausted x c
  few_rows x y c few free room full =
      let most = reach_most_in (stored (pages_of x)) (root_in (stored (pages_of x))) in
      elim (full.does.outcome.1.no_room full.keeps full.honest) [
        | inl short ↦ elim short [ inl pages ↦ absurd (omega (arith, pages, free)) | inr journal ↦ absurd (omega (arith, journal, room)) ]
        | inr other ↦ elim other [ inl numbers ↦ numbers | inr deep ↦ let near = deep.near in absurd (omega (arith, near, most, few)) ]
      ]

  pub never_deep : IsNeverDeep D g
  never_deep = record {
    few_rows = few_rows;
    retire = λ x y name low free full. (few_rows x y (Retire name) (omega (arith, low)) (omega (arith, free)) (enough x) full).none tt;
    create = λ x y name size low free full. few_rows x y (Create name size) (omega (arith, low)) (omega (arith, free)) (enough x) full;
  }

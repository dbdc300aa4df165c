-- Steps of a migration, one after the other, and the end after them.
use Rattle.{std.{specs.Prelude.{Result, Ok, Err}, proofs.Common.{rules, ◌≡◌, ◌≤◌, ◌+◌, ℕ, false, inl, inr, refl, sym, subst, ◌∙◌, arith}}, desk_model.specs.claim.Desk.Desk}
use Rattle.{desk_store_pages.specs.claim.Desks.{OpensDesk, OpensOld, OpensEither}, desk_store_rows.specs.claim.Rows.KeyMap, desk_theorem.specs.runs.Recovery.ImagesAreOne}
use Rattle.desk_theorem.specs.runs.desk_migration.claim.Migrating.{device_of, disk_of, is_halted, sectors_of, Ends, HasMore, HasRows, Keeps, KeepsNew, Moves}
use Rattle.{desk_theorem.specs.runs.desk_migration.declared.migration.Migration.Migration, sector_device.specs.claim.{Disk.Disk, Moments.LeavesOnly}}
use Rattle.{sector_device.specs.declared.SectorDevice.Ghosts, store_command.specs.{Filling.HasDesk, Reading.BeginsAtWhatIsRead, declared.fault.StoreFault.StoreFault}}
use Rattle.store_command.specs.Migrating.{HasMigrated, HasOld, HasPut, HasStopped, IsBegun, IsStopped, LeavesEither, MigratesAll, MigratesDevice, WhereItReadsOld}
use Rattle.{store_command.specs.declared.fault.StoreFault.TheVariants.NotAStore, sector_device.proofs.Moments.{leaves_more, leaves_wider}}
use Rattle.store_command.proofs.Led.{migrated_life, stopped_life}
use Rattle.desk_theorem.proofs.runs.desk_migration.Pairs.{then_by, none_by}

module _ {D : Type 0} {g : Ghosts D} where
  -- ---- steps
  pub unmoved : (x : Migration D g) → is_halted x ≡ false → Moves x x
  unmoved x working = record {
    goes = search rules;
    any_moment = λ d keeps off honest. record { later = omega arith; each = λ c left. keeps.left honest c ((disk_of x).only_now c left); before = λ t c le left. inl left };
    keeps = λ d keeps. keeps;
  }

  pub then_moved : (x y z : Migration D g) → is_halted x ≡ false → is_halted y ≡ false → Moves x y → Moves y z → Moves x z
  then_moved x y z off working one two = record {
    goes = search rules;
    any_moment = λ d keeps was honest. leaves_more (OpensOld (sectors_of x) d) (disk_of x) (disk_of y) (disk_of z)
        (one.any_moment d keeps was (two.goes.honest honest))
        (subst (λ (n : ℕ). LeavesOnly (OpensOld n d) (disk_of y) (disk_of z)) one.goes.sectors (two.any_moment d (one.keeps d keeps) working honest));
    keeps = λ d keeps. two.keeps d (one.keeps d keeps);
  }

  pub none_put : (x : Migration D g) (d : Desk) (m : KeyMap) → HasRows x d m → HasPut x d m 0 x
  none_put x d m has = record { n = m; has = has; pairs = 0; two_each = refl; by = none_by m }

  pub more_put : (x y z : Migration D g) (d : Desk) (m : KeyMap) (rows count sum : ℕ) → rows + count ≡ sum → (one : HasPut x d m rows y) → HasMore y d one.n count z → HasPut x d m sum z
  more_put x y z d m rows count sum are one next = record {
    n = next.n;
    has = next.has;
    pairs = one.pairs + next.pairs;
    two_each = omega (arith, one.two_each, next.two_each, are);
    by = then_by one.pairs next.pairs m one.n next.n one.by next.by;
  }

  -- so many steps were made that more rows were put than a store has
  pub endless : (x y : Migration D g) (rows : ℕ) → 281474976710656 ≤ rows → is_halted y ≡ false → ((disk_of y).is_honest → (d : Desk) (m : KeyMap) → HasRows x d m → HasPut x d m rows y) → IsStopped x NotAStore y
  endless x y rows many works put = inr (refl, record { works = works; rows = rows; many = many; put = put })

  -- ---- the device
  module _ (device : D) (x : Migration D g) (begun : IsBegun device x) (begins : BeginsAtWhatIsRead device x) where
    abbrev old : Disk
    old = g.disk device

    -- at any moment since the opening began
    stepped : (y : Migration D g) → Moves x y → WhereItReadsOld old (disk_of y) (λ d. LeavesEither old (disk_of y) d)
    stepped y moves honest d reads =
        let began = begins (moves.goes.honest honest) d reads in
        let later = subst (λ (n : ℕ). LeavesOnly (OpensOld n d) (disk_of x) (disk_of y)) begun.sectors (moves.any_moment d began.keeps begun.working honest) in
        leaves_wider (OpensOld old.sectors d) (OpensEither old.sectors d) old (disk_of y) (λ c is. inr is) (leaves_more (OpensOld old.sectors d) old (disk_of x) (disk_of y) began.any_moment later)

    ended : (y z : Migration D g) → Moves x y → is_halted y ≡ false → Ends y z → WhereItReadsOld old (disk_of z) (λ d. LeavesEither old (disk_of z) d)
    ended y z moves works ends honest d reads =
        let was = ends.goes.honest honest in
        let began = begins (moves.goes.honest was) d reads in
        let last = subst (λ (n : ℕ). LeavesOnly (OpensEither n d) (disk_of y) (disk_of z)) (moves.goes.sectors ∙ begun.sectors) (ends.any_moment d (moves.keeps d began.keeps) works honest) in
        leaves_more (OpensEither old.sectors d) old (disk_of y) (disk_of z) (stepped y moves was d reads) last

    new_left : (y z : Migration D g) → Moves x y → Ends y z → ((disk_of z).is_honest → (d : Desk) → Keeps y d → KeepsNew z d) → WhereItReadsOld old (disk_of z) (λ d. HasDesk old (disk_of z) d)
    new_left y z moves ends told honest d reads c leaves =
        let began = begins (moves.goes.honest (ends.goes.honest honest)) d reads in
        subst (λ (n : ℕ). OpensDesk n d c) (ends.goes.sectors ∙ moves.goes.sectors ∙ begun.sectors) ((told honest d (moves.keeps d began.keeps)).left c leaves)

    old_left : (z : Migration D g) → sectors_of z ≡ sectors_of x → ((disk_of z).is_honest → (disk_of x).is_honest) → ((d : Desk) → Keeps x d → Keeps z d) → WhereItReadsOld old (disk_of z) (λ d. HasOld old (disk_of z) d)
    old_left z same before keeps honest d reads c leaves = subst (λ (n : ℕ). OpensOld n d c) (same ∙ begun.sectors) ((keeps d (begins (before honest) d reads).keeps).left honest c leaves)

    any_left : (z : Migration D g) (fault : StoreFault) → MigratesAll x (Err fault) z → WhereItReadsOld old (disk_of z) (λ d. LeavesEither old (disk_of z) d)
    any_left z fault (inl did) = stepped z did.0
    any_left z fault (inr did) = ended did.2.y z did.2.moves did.2.put.works did.2.ends

    old_after : (z : Migration D g) (fault : StoreFault) → MigratesAll x (Err fault) z → is_halted z ≡ false → WhereItReadsOld old (disk_of z) (λ d. HasOld old (disk_of z) d)
    old_after z fault (inl did) works = old_left z did.0.goes.sectors did.0.goes.honest did.0.keeps
    old_after z fault (inr did) works =
        let it = did.2 in
        old_left z (it.ends.goes.sectors ∙ it.moves.goes.sectors) (λ is. it.moves.goes.honest (it.ends.goes.honest is)) (λ d keeps. it.stays works d (it.moves.keeps d keeps))

    -- what was opened, migrated and given back
    pub device_migrated : ImagesAreOne → (z : Migration D g) (did : Result ℕ StoreFault) → MigratesAll x did z → (left : D) → left ≡ device_of z → MigratesDevice g device did left
    device_migrated law z (Ok rows) is left back = subst (λ (d : D). HasMigrated g device rows d) (sym back) (let life = migrated_life law device x begun rows z is in search (ended, new_left, life))
    device_migrated law z (Err fault) is left back = inr (subst (λ (d : D). HasStopped g device fault d) (sym back) (let life = stopped_life law device x begun fault z is in search (any_left, old_after, life)))

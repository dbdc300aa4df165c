-- Lives of a store, by induction on them.
use Rattle.std.proofs.Common.{◌≡◌, ◌≤◌, ℕ, ap, true, false, inl, inr, Ok, zero, suc, List, [], ◌∷◌, ◌++◌, length, take, get_or, refl, sym, subst, ◌∙◌, arith}
use Rattle.{std.proofs.lemmas.List.Sums.fold-append, desk_migration.specs.{claim.Migrating.disk_of as migrated_disk, declared.migration.Migration.Migration}}
use Rattle.{desk_model.specs.{claim.{Desk.Desk, Step.step}, declared.command.Command.Command}, desk_store.specs.claim.Clerks.{desk_of, disk_of, sectors_of}}
use Rattle.{desk_store.specs.declared.clerk.Clerk.Clerk, desk_store_pages.specs.claim.Desks.OpensDesk, desk_theorem_runs.{specs.Recovery.ImagesAreOne, proofs.SweptRuns.one_more}}
use Rattle.desk_theorem_runs.specs.claim.{Lives.{Life, found, accepted, told, left_by, IsSound, Finds, Follow, last_left, Lasted, LivesSurvive}, Migrations.{IsEntry, Migrates}}
use Rattle.desk_theorem_runs.specs.claim.Runs.{Call, Run, after, acknowledged, acknowledged_at, in_flight, OpensAfterSome, OpenSince, SurvivesEachRun}
use Rattle.{sector_device.specs.{claim.Disk.{Disk, Image}, declared.SectorDevice.Ghosts}, desk_theorem_runs.proofs.Migrated.{honest_migration, migration_leaves}}
use Rattle.desk_theorem_runs.proofs.One.{OpensTo, HoldsTo, all_of, one_of, opens_it}

-- the image since a place of the moments opens to the desk after so many commands at least
later : (disk : Disk) (sectors : ℕ) (d : Desk) (t : ℕ) (ms : List ℕ) (commands : List Command) (least : ℕ) → OpenSince disk sectors d t ms commands → least ≤ length ms
    → (c : Image) → disk.left (get_or (t ∷ ms) least 0) c → (some : OpensAfterSome sectors d commands c) × (least ≤ some.count)
later disk sectors d t [] commands zero since few c left = (since.1 c left, omega arith)
later disk sectors d t [] commands (suc least) since few c left = absurd (omega (arith, few))
later disk sectors d t (m ∷ ms) [] least since few c left = absurd since
later disk sectors d t (m ∷ ms) (a ∷ commands) zero since few c left = (since.1 c left, omega arith)
later disk sectors d t (m ∷ ms) (a ∷ commands) (suc least) since few c left =
    let there = later disk sectors (step d a).1 m ms commands least since.2 (omega (arith, few)) c left in
    (one_more sectors d a commands c there.0, omega (arith, there.1))

-- the desk to which it opens is also one of those
to_wider : (n : ℕ) (P Q : Desk → Type 0) (c : Image) → ((e : Desk) → P e → Q e) → OpensTo n P c → OpensTo n Q c
to_wider n P Q c wider is = record { desk = is.desk; has = wider is.desk is.has; opens = is.opens }

-- all images open to one of these desks
found_to : {D : Type 0} (g : Ghosts D) (n : ℕ) (P : Desk → Type 0) (left : Image → Type 0) → ((c : Image) → left c → OpensTo n P c) → (device : D) → Finds g n left device
    → HoldsTo P (g.disk device)
found_to g n P left has device finds c leaves = rw finds.0 (has c (finds.1 c leaves))

module _ {D : Type 0} {g : Ghosts D} where
  pub honest_before : (x : Clerk D g) (calls : List Call) (z : Clerk D g) → Run x calls z → (disk_of z).is_honest → (disk_of x).is_honest
  honest_before x _ z (Run.over _) honest = honest
  honest_before x _ z (Run.went _ c r y calls _ does run) honest = does.moves.honest (honest_before y calls z run honest)

  -- the desks to which one of these may have come after a life
  record Next (P : Desk → Type 0) (life : Life g) (e : Desk) : Type 0 where
    from : Desk
    has : P from
    count : ℕ
    enough : told life ≤ count
    within : count ≤ length (accepted life)
    desk : e ≡ after from (take count (accepted life))

  -- a life without commands leaves the desks as they are
  stays : (n : ℕ) (P : Desk → Type 0) (life : Life g) → told life ≡ 0 → (c : Image) → OpensTo n P c → OpensTo n (Next P life) c
  stays n P life none c is = to_wider n P (Next P life) c (λ e has. record { from = e; has = has; count = 0; enough = omega (arith, none); within = omega arith; desk = refl }) is

  -- an image that a migration leaves
  steps_leave : ImagesAreOne → (P : Desk → Type 0) (device : D) (x : Migration D g) → IsEntry g device (Ok x) → (z : Migration D g) → Migrates x z → HoldsTo P (g.disk device)
      → (migrated_disk z).is_honest → (c : Image) → (migrated_disk z).left (g.disk device).moment c → OpensTo (g.disk device).sectors P c
  steps_leave one P device x is z steps holds honest c stopped =
      let old = g.disk device in
      let all = all_of P old holds in
      let was_honest = honest_migration x z steps honest in
      let kept = is.opened all was_honest in
      let leaves = migration_leaves x z steps kept.0 kept.1.0 honest in
      let began = is.any_moment was_honest all in
      elim (leaves.before old.moment c began.later stopped) [
        | inl earlier ↦ opens_it one P old holds c (began.each c earlier)
        | inr opens ↦ record { desk = kept.0; has = one_of one P old holds (false, kept.0) kept.1.1; opens = rw is.working.1 at opens }
      ]

  life_leaves : ImagesAreOne → ((x : Clerk D g) → SurvivesEachRun x) → (P : Desk → Type 0) (life : Life g) → HoldsTo P (g.disk (found life)) → IsSound life
      → (c : Image) → left_by life c → OpensTo (g.disk (found life)).sectors (Next P life) c
  life_leaves one runs P (Life.opening device result is) holds sound c stopped =
      stays _ P (Life.opening device result is) refl c (opens_it one P (g.disk device) holds c ((is.any_moment sound (all_of P (g.disk device) holds)).each c stopped))
  life_leaves one runs P (Life.running device x is calls z run count) holds sound c stopped =
      let opened = is.opened (all_of P (g.disk device) holds) in
      let survives = runs x calls z run opened.0 is.working.0 sound.0 in
      let commands = acknowledged calls ++ in_flight x calls z run in
      let there = later (disk_of z) (sectors_of x) (desk_of x) (disk_of x).moment (acknowledged_at x calls z run) commands count survives.since sound.1 c stopped in
      let from = one_of one P (g.disk device) holds (true, desk_of x) (opened.1 (honest_before x calls z run sound.0)) in
      record {
        desk = after (desk_of x) (take there.0.count commands);
        has = record { from = desk_of x; has = from; count = there.0.count; enough = there.1; within = there.0.within; desk = refl };
        opens = inl (subst (λ (n : ℕ). OpensDesk n (after (desk_of x) (take there.0.count commands)) c) is.working.1 there.0.opens);
      }
  life_leaves one runs P (Life.entering device result is) holds sound c stopped =
      stays _ P (Life.entering device result is) refl c (opens_it one P (g.disk device) holds c ((is.any_moment sound (all_of P (g.disk device) holds)).each c stopped))
  life_leaves one runs P (Life.migrating device x is z steps) holds sound c stopped =
      stays _ P (Life.migrating device x is z steps) refl c (steps_leave one P device x is z steps holds sound c stopped)

  -- what came of one of these desks in all these lives
  record Later (P : Desk → Type 0) (lives : List (Life g)) (e : Desk) : Type 0 where
    from : Desk
    has : P from
    commands : List Command
    lasted : Lasted lives commands
    desk : e ≡ after from commands

  later_of : (P : Desk → Type 0) (life : Life g) (lives : List (Life g)) (e : Desk) → Later (Next P life) lives e → Later P (life ∷ lives) e
  later_of P life lives e there =
      let next = there.has in
      let prefix = take next.count (accepted life) in
      record {
        from = next.from;
        has = next.has;
        commands = prefix ++ there.commands;
        lasted = Lasted.more life lives next.count there.commands next.enough next.within there.lasted;
        desk = there.desk ∙ ap (λ (d : Desk). after d there.commands) next.desk ∙ sym (fold-append (λ (d : Desk) (a : Command). (step d a).1) next.from prefix there.commands);
      }

  lives_leave : ImagesAreOne → ((x : Clerk D g) → SurvivesEachRun x) → (n : ℕ) (P : Desk → Type 0) (left : Image → Type 0) → ((c : Image) → left c → OpensTo n P c)
      → (lives : List (Life g)) → Follow n left lives → (c : Image) → last_left left lives c → OpensTo n (Later P lives) c
  lives_leave one runs n P left has [] follow c stopped =
      to_wider n P (Later P []) c (λ e was. record { from = e; has = was; commands = []; lasted = Lasted.none; desk = refl }) (has c stopped)
  lives_leave one runs n P left has (life ∷ lives) follow c stopped =
      let leaves = λ (i : Image) (gone : left_by life i). rw follow.0.0 at (life_leaves one runs P life (found_to g n P left has (found life) follow.0) follow.1 i gone) in
      let is = lives_leave one runs n (Next P life) (left_by life) leaves lives follow.2 c stopped in
      record { desk = is.desk; has = later_of P life lives is.desk is.has; opens = is.opens }

  pub lives_survive : ImagesAreOne → ((x : Clerk D g) → SurvivesEachRun x) → LivesSurvive g
  lives_survive one runs first d lives holds follow =
      let n = (g.disk first).sectors in
      let left = last_left (g.disk first).leaves lives in
      let Ends = Later (λ e. e ≡ d) lives in
      let first_opens : HoldsTo (λ e. e ≡ d) (g.disk first) = λ c leaves. record { desk = d; has = refl; opens = holds c leaves } in
      let opens : (c : Image) → left c → OpensTo n Ends c = lives_leave one runs n (λ e. e ≡ d) (g.disk first).leaves first_opens lives follow in
      let desk = λ (e : Desk) (is : Ends e). rw is.has at is.desk in
      record {
        images = λ c gone. (let is = opens c gone in record { commands = is.has.commands; lasted = is.has.lasted; opens = rw (desk is.desk is.has) at is.opens });
        shown = λ device x finds is honest.
            (let ends = found_to g n Ends left opens device finds in
            let there = one_of one Ends (g.disk device) ends (true, desk_of x) ((is.opened (all_of Ends (g.disk device) ends)).1 honest) in
            record { commands = there.commands; lasted = there.lasted; shown = desk (desk_of x) there });
      }

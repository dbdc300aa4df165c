-- A device that a clerk opened, and that was opened once more by its pages.
use Rattle.std.{specs.Prelude.{Result, Ok, Err, IfOk, IfErr}, proofs.Common.{◌≡◌, ◌≤◌, ◌<◌, ℕ, [], true, refl, sym, subst, ◌∙◌, inl, inr, arith}}
use Rattle.{desk_model.specs.claim.Desk.Desk, desk_store_pages.specs.{Openings.{AllDesks, LeavesOneOf, OpensOneOf}, claim.Desks.OpensDesk}, desk_store_rows.specs.claim.Rows.KeyMap}
use Rattle.inspect_command.specs.{Figures.AreHeld, Rows.{AreCounted, CountsRows, IsUncounted}, Stats.{joined, HasNoFigures, IsLookedAt, StatsDevice}, declared.figures.Held.Held}
use Rattle.{inspect_command.specs.{claim.Living.{Hinders, IsOfDesk}, declared.rows.Rows.Rows}, page_btree.specs.gets.claim.Map.InPages, page_store.specs.declared.pages.Pages.Pages}
use Rattle.{page_store.specs.{claim.Transactions.{disk_in, device_in, count_of, journal_of, IsQuiet}, gate_journal.Recovery.Found}, sector_device.specs.claim.Disk.Disk}
use Rattle.{sector_device.specs.declared.SectorDevice.Ghosts, store_command.specs.{Reading.{LeavesDesk, ShowsWhatIsRead}, declared.fault.StoreFault.StoreFault}}
use Rattle.store_command.specs.{declared.fault.StoreFault.TheVariants.Memory, desk_store.{claim.Clerks.{desk_of, disk_of, pages_of}, declared.clerk.Clerk.Clerk}}
use Rattle.store_command.specs.desk_theorem.{claim.{Device.{HoldsStore, OnDevice}, OneLife.{RequestsHold, Asked}}, lives.claim.Versions.Store}
use Rattle.{store_command.specs.{desk_theorem_loading.Openings.IsOpened, desk_theorem_runs.Recovery.ImagesAreOne}, desk_store_pages.proofs.Found.{found_after, rows_before}}
use Rattle.sector_device.proofs.Moments.{leaves_more, leaves_now, leaves_wider}
use Rattle.store_command.proofs.desk_theorem_runs.One.{few_sectors}
use Rattle.store_command.proofs.{Opened.asked_life, desk_store.Opened.reopened, desk_theorem.{Asked.none_asked, Device.{and_on, held_all, held_desk}, Looked.looked_on}}

then_left : ImagesAreOne → (old mid new : Disk) (d : Desk) → mid.sectors ≡ old.sectors → LeavesDesk old mid d → AllDesks mid → new.is_honest → LeavesOneOf mid new → LeavesDesk old new d
then_left law old mid new d sectors first all honest then =
    leaves_more (OpensDesk old.sectors d) old mid new first
    (leaves_wider (OpensOneOf mid) (OpensDesk old.sectors d) mid new
    (λ c (is : OpensOneOf mid c).
    let was : OpensDesk old.sectors is.desk is.one.was = subst (λ (n : ℕ). OpensDesk n is.desk is.one.was) sectors is.one.opens in
    let same : is.desk ≡ d = law true true old.sectors is.desk d is.one.was (few_sectors old) was (leaves_now (OpensDesk old.sectors d) old mid first is.one.was is.one.left) in
    subst (λ (e : Desk). OpensDesk old.sectors e c) same (subst (λ (n : ℕ). OpensDesk n is.desk c) sectors is.opens))
    (then honest all))

module _ {D : Type 0} (g : Ghosts D) where
  looked_at : ImagesAreOne → (device : D) (x : Clerk D g) (left : D) → IsOpened device x → ShowsWhatIsRead device x → (g.disk left).sectors ≡ (disk_of x).sectors → ((g.disk left).is_honest → (disk_of x).is_honest) → LeavesOneOf (disk_of x) (g.disk left)
      → ((g.disk left).is_honest → (disk_of x).faults ≤ (g.disk left).faults) → IsLookedAt g device x left
  looked_at law device x left opened shows sectors honest leaves more =
      let same : (disk_of x).sectors ≡ (g.disk device).sectors = sym (pages_of x).journal.room.whole ∙ opened.sectors in
      record {
        opened = opened;
        shows = shows;
        sectors = sectors ∙ same;
        honest = honest;
        any_moment = λ good d reads. then_left law (g.disk device) (disk_of x) (g.disk left) d same ((shows d reads).any_moment (honest good)) (reopened x (shows d reads).keeps (honest good)) good leaves;
        life = looked_on law (g.disk device) (disk_of x) (g.disk left) (asked_life law device x x (RequestsHold [] []) opened (none_asked x)) sectors honest more leaves;
      }

  -- what is known of the store in that life
  abbrev Once : (t u : ℕ) → Store → Store → Type 0
  Once = Asked (RequestsHold [] [])

  hindered : (device : D) (x : Clerk D g) (left : D) (fault : StoreFault) → IsLookedAt g device x left → ((g.disk left).is_honest → (s : Store) → HoldsStore s (g.disk device) → Hinders fault (g.disk device).faults (g.disk left).faults)
      → OnDevice (λ t u s e. Once t u s e × Hinders fault t u) (g.disk device) (g.disk left)
  hindered device x left fault looked so = and_on Once (λ t u s. Hinders fault t u) (g.disk device) (g.disk left) so looked.life

  of_desk : (x : Clerk D g) (held : Held) (d : Desk) → desk_of x ≡ d → AreHeld x held → IsOfDesk d held
  of_desk x held d same has = subst (λ (e : Desk). IsOfDesk e held) same (record { blocks = has.blocks; pairs = has.pairs; plans = has.plans; revisions = has.revisions })

  figures_life : ImagesAreOne → (device : D) (x : Clerk D g) (left : D) (held : Held) → IsLookedAt g device x left → AreHeld x held → OnDevice (λ t u s e. Once t u s e × IsOfDesk s.1 held) (g.disk device) (g.disk left)
  figures_life law device x left held looked has = and_on Once (λ t u s. IsOfDesk s.1 held) (g.disk device) (g.disk left)
      (λ good s held_is. of_desk x held s.1 (held_desk law s (g.disk device) (desk_of x) held_is (looked.opened.one (held_all s (g.disk device) held_is) (looked.honest good))) has)
      looked.life

  no_figures : (device : D) (x : Clerk D g) (left : D) (fault : StoreFault) → IsLookedAt g device x left → IsUncounted g (device_in (pages_of x)) left fault → HasNoFigures g device fault left
  no_figures device x left fault looked (inl memory) =
      record { x = x; looked = looked; told = inl memory; life = hindered device x left fault looked (λ good s held. subst (λ (f : StoreFault). Hinders f (g.disk device).faults (g.disk left).faults) (sym memory) tt) }
  no_figures device x left fault looked (inr (inl failed)) =
      let rose : (g.disk left).is_honest → (g.disk device).faults < (g.disk left).faults = λ good. omega (arith, failed.1 good, looked.opened.calm (looked.honest good)) in
      record {
        x = x;
        looked = looked;
        told = inr (inl (failed.0, rose));
        life = hindered device x left fault looked (λ good s held. subst (λ (f : StoreFault). Hinders f (g.disk device).faults (g.disk left).faults) (sym failed.0) (rose good));
      }
  no_figures device x left fault looked (inr (inr none)) = record {
    x = x;
    looked = looked;
    told = inr (inr (none.0, λ good d reads. none.1 good (reopened x (looked.shows d reads).keeps (looked.honest good))));
    life = hindered device x left fault looked (λ good s held. absurd (none.1 good (reopened x (looked.opened.keeps (held_all s (g.disk device) held)) (looked.honest good))));
  }

  told_so : ImagesAreOne → (device : D) (x : Clerk D g) (left : D) (sectors : ℕ) (told : Result Held StoreFault) (counted : Result Rows StoreFault) → IsLookedAt g device x left → sectors ≡ (g.disk device).sectors → IfOk told (λ held. AreHeld x held) → IfErr told (λ fault. fault ≡ Memory)
      → IfOk counted (λ rows. CountsRows g (device_in (pages_of x)) rows left) → IfErr counted (λ fault. IsUncounted g (device_in (pages_of x)) left fault) → StatsDevice g device (joined sectors told counted) left
  told_so law device x left sectors (Ok held) (Ok rows) looked same has none counts why =
      record { x = x; looked = looked; sectors = same; held = has; rows = counts; life = figures_life law device x left held looked has }
  told_so law device x left sectors (Ok held) (Err fault) looked same has none counts why = inr (no_figures device x left fault looked why)
  told_so law device x left sectors (Err fault) counted looked same has none counts why = inr (no_figures device x left fault looked (inl none))

  -- what the clerk gave back was opened by its pages
  abbrev Reopened : D → D → Result Rows StoreFault → Type 0
  Reopened middle left counted = ((g.disk left).sectors ≡ (g.disk middle).sectors) × ((g.disk left).is_honest → (g.disk middle).is_honest) × LeavesOneOf (g.disk middle) (g.disk left)
      × ((g.disk left).is_honest → (g.disk middle).faults ≤ (g.disk left).faults)
      × IfOk counted (λ rows. CountsRows g middle rows left) × IfErr counted (λ fault. IsUncounted g middle left fault)

  pub stated : ImagesAreOne → (device : D) (x : Clerk D g) (middle left : D) (sectors : ℕ) (told : Result Held StoreFault) (counted : Result Rows StoreFault) → IsOpened device x → ShowsWhatIsRead device x → middle ≡ device_in (pages_of x) → sectors ≡ (g.disk device).sectors → IfOk told (λ held. AreHeld x held) → IfErr told (λ fault. fault ≡ Memory)
      → Reopened middle left counted → StatsDevice g device (joined sectors told counted) left
  stated law device x middle left sectors told counted opened shows is same has none again =
      let here : Reopened (device_in (pages_of x)) left counted = subst (λ (m : D). Reopened m left counted) is again in
      told_so law device x left sectors told counted (looked_at law device x left opened shows here.0 here.1 here.2 here.3) same has none here.4 here.5

  pub counts : (device : D) (a b : Pages D g) (left : D) (result : Result Rows StoreFault) → left ≡ device_in b → ((disk_in a).is_honest → Found (journal_of a) (count_of a) (g.disk device) (disk_in a)) → IsQuiet a b → IfOk result (λ rows. rows.pages ≡ count_of a)
      → ((disk_in b).is_honest → (m : KeyMap) → InPages a m → IfOk result (λ rows. AreCounted m rows)) → IfOk result (λ rows. CountsRows g device rows left)
  counts device a b left (Ok rows) back found quiet many counted = subst (λ (d : D). CountsRows g device rows d) (sym back) (record {
    ps = b;
    back = refl;
    found = λ honest. found_after (g.disk device) a b found quiet honest;
    pages = many ∙ sym quiet.count;
    counted = λ honest m holds. counted honest m (rows_before a b m quiet honest holds);
  })
  counts device a b left (Err fault) back found quiet many counted = tt

-- A run from a clerk who is like the first one.
use Rattle.std.proofs.{Common.{◌≡◌, ℕ, Bool, true, false, Result, Ok, Err, IfOk, List, [], refl, sym, subst, ◌∙◌, arith}, lemmas.List.Elements.All-nil}
use Rattle.{desk_model.specs.{claim.Desk.Desk, declared.command.Command.Command}, http_desk.specs.{connections.declared.ran.Ran.Ran, seats.desk_gallery.claim.Telling.halts_of}}
use Rattle.http_desk.specs.seats.{claim.Streams.{Traffic, IsAskedOf, AreCounted}, desk_gallery.claim.{Begun.{HasRun, IsLeftBy}, Working.AreAccepted}}
use Rattle.inspect_command.specs.{desk_store.{claim.Clerks.{desk_of, disk_of, is_halted, pages_of}, declared.clerk.Clerk.Clerk}, desk_theorem_runs.claim.Runs.Call}
use Rattle.inspect_command.specs.{desk_theorem_runs.claim.SweptRuns.{SweptRun, SurvivesEachSwept}, store_command.Reading.{ReadsDesk, ShowsWhatIsRead}}
use Rattle.{page_store.specs.claim.Transactions.has_halted, sector_device.specs.declared.SectorDevice.Ghosts, serve_command.specs.Outlasting.{FailsSince, OutlastsWhatIsRead}}
use Rattle.serve_command.{specs.claim.Lasting.{IsLike, HasTalked, LastsAsked, Outlasts, ServesStreams}, proofs.Failing.along}

-- from what the device read as it was opened
pub lasts_on : {D : Type 0} {g : Ghosts D} (device : D) (first last : Clerk D g) → ShowsWhatIsRead device first → is_halted first ≡ false → (lasts : Outlasts first last) → OutlastsWhatIsRead device first last lasts
lasts_on device first last shows working lasts honest d reads =
    let shown = shows d reads in
    let was = lasts.is_first.honest ((along false lasts.start lasts.calls lasts.checked last lasts.run).honest honest) in
    record { desk = shown.desk was; opening = shown.any_moment was; survives = lasts.survives shown.keeps working honest }

-- whether the device has failed since
pub fails_since : {D : Type 0} {g : Ghosts D} (first last : Clerk D g) (failed : Bool) → is_halted first ≡ false → Outlasts first last → has_halted (pages_of last) ≡ failed → FailsSince first last failed
fails_since first last failed working lasts pages =
    let start = lasts.is_first in
    let run = (along false lasts.start lasts.calls lasts.checked last lasts.run).device in
    record {
      pages = pages;
      rose = λ so honest. (let rises = run.rose (lasts.start.working (start.halted ∙ working)) (pages ∙ so) honest in let same = start.faults in omega (arith, rises, same));
      calm = λ so honest. run.calm (pages ∙ so) honest ∙ start.faults;
    }

-- a clerk who halted though it hasn't, opened what read as no desk
pub none_read : {D : Type 0} {g : Ghosts D} (device : D) (first last : Clerk D g) (failed : Bool) → ShowsWhatIsRead device first → is_halted first ≡ false → Outlasts first last → FailsSince first last failed → is_halted last ≡ true → failed ≡ false → (disk_of last).is_honest
    → (d : Desk) → ReadsDesk (g.disk device) d → ⊥
none_read device first last failed shows working lasts since on so honest d reads =
    let start = lasts.is_first in
    let rises = (along false lasts.start lasts.calls lasts.checked last lasts.run).rose (start.keeps (shows d reads).keeps) (start.halted ∙ working) on honest in
    let same = since.calm so honest in
    let was = start.faults in
    omega (arith, rises, same, was)

module _ {D : Type 0} {g : Ghosts D} {R W : Type 0} (s : Traffic R W) where
  -- commands were done from a clerk like the first one
  abbrev lasts_by : (first last : Clerk D g) (start : Desk) (commands : List Command) (halts : ℕ) → start ≡ desk_of first → ((x : Clerk D g) → SurvivesEachSwept x) → AreAccepted start commands
      → HasRun (λ E h x. IsLike first x) (IsAskedOf s) last commands halts → Outlasts first last
  lasts_by first last start commands halts same survive accepted ran = record {
    start = ran.first;
    is_first = ran.began;
    calls = ran.calls;
    checked = ran.checked;
    run = ran.run;
    accepted = subst (λ (l : List Command). AreAccepted (desk_of first) l) (sym ran.are_shown) (subst (λ (d : Desk). AreAccepted d commands) same accepted);
    survives = λ keeps working honest. survive ran.first false ran.calls ran.checked last ran.run (ran.began.keeps keeps) (ran.began.halted ∙ working) honest;
  }

  pub lasts_asked : (first last : Clerk D g) (start : Desk) → start ≡ desk_of first → ((x : Clerk D g) → SurvivesEachSwept x) → IsLeftBy start (λ E h x. IsLike first x) (IsAskedOf s) last → LastsAsked s first last
  lasts_asked first last start same survive left =
      record { lasts = lasts_by first last start left.commands left.halts same survive left.accepted left.ran; asked = left.ran.each }

  -- none was done
  pub none_asked : (first : Clerk D g) → ((x : Clerk D g) → SurvivesEachSwept x) → LastsAsked s first first
  none_asked first survive = record {
    lasts = record {
      start = first;
      is_first = record { desk = refl; sectors = refl; moment = refl; faults = refl; halted = refl; honest = λ honest. honest; keeps = λ keeps. keeps };
      calls = [];
      checked = false;
      run = SweptRun.over false first;
      accepted = tt;
      survives = λ keeps working honest. survive first false [] false first (SweptRun.over false first) keeps working honest;
    };
    asked = All-nil (λ (call : Call). IsAskedOf s call.0);
  }

  serves_streams : (workers : ℕ) (first last : Clerk D g) (start : Desk) (came_to : Ran) → start ≡ desk_of first → ((x : Clerk D g) → SurvivesEachSwept x) → HasTalked s workers start (λ E h x. IsLike first x) last came_to
      → ServesStreams s workers first last came_to
  serves_streams workers first last start came_to same survive talked =
      let ran = talked.served.left in
      record {
        lasts = lasts_by first last start talked.served.changes talked.served.halts same survive talked.served.accepted ran;
        asked = ran.each;
        visitors = talked.visitors;
        many = talked.many;
        fresh = talked.fresh;
        counted = subst (λ (l : List Command). AreCounted s (desk_of first) l (halts_of ran.calls) talked.visitors came_to) (sym ran.are_shown) (subst (λ (n : ℕ). AreCounted s (desk_of first) talked.served.changes n talked.visitors came_to) (sym ran.are_halts)
            (subst (λ (d : Desk). AreCounted s d talked.served.changes talked.served.halts talked.visitors came_to) same talked.served.counted));
      }

  pub all_serve : {E : Type 0} (workers : ℕ) (first : Clerk D g) (start : Desk) (r : Result (Clerk D g × Ran) E) → start ≡ desk_of first → ((x : Clerk D g) → SurvivesEachSwept x) → IfOk r (λ end. HasTalked s workers start (λ E h x. IsLike first x) end.0 end.1)
      → IfOk r (λ end. ServesStreams s workers first end.0 end.1)
  all_serve workers first start (Ok end) same survive talked = serves_streams workers first end.0 start end.1 same survive talked
  all_serve workers first start (Err e) same survive none = none

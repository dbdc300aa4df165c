-- What a run of `serve` is, by its exit status.
use Rattle.{std.{specs.Prelude.Option, proofs.Common.{◌≡◌, ◌<◌, ℕ, Bool, true, false, [], inl, inr, refl, sym, ◌∙◌}}, byte_stream.specs.declared.source.Source.Ghosts as Sources}
use Rattle.{command_output.specs.{claim.{Faults.status_of_open, Writing.Written}, declared.status.Status.Status}, desk_model.specs.claim.Desk.Desk}
use Rattle.desk_theorem.specs.{claim.{Device.OnDevice, InFile.LivedOn, OneLife.{Asked, ClosedHolds, OfficeHolds, RequestsHold}}, lives.claim.Calls.{asked_in, told_in}}
use Rattle.{desk_theorem.specs.lives.claim.Versions.Store, http_desk.specs.{connections.declared.ran.Ran.Ran, seats.claim.Streams.Traffic}, sector_device.specs.claim.Disk.Disk}
use Rattle.{plandesk.specs.claim.Running.{RunsServe, SomeRequests}, sector_device.specs.declared.SectorDevice.Ghosts, serve_command.specs.Serving.fault_of_halt}
use Rattle.{serve_command.specs.claim.Living.ServesLife, state_files.specs.declared.fault.OpenFault.{OpenFault, TheVariants.{Unreadable, Memory as NoMemory}}}
use Rattle.{store_command.specs.{Telling.status_of, declared.fault.StoreFault.StoreFault}, desk_theorem.proofs.OneLife.requests_hold}
use Rattle.command_output.specs.declared.status.Status.TheVariants as status
use Rattle.store_command.specs.declared.fault.StoreFault.TheVariants as store

-- ---- the status isn't 0
pub not_store : (end : Status) → end ≡ status.Store → end ≡ status.Done → ⊥
not_store end is done = let clash : status.Store ≡ status.Done = sym is ∙ done in cc

pub not_memory : (end : Status) → end ≡ status.Memory → end ≡ status.Done → ⊥
not_memory end is done = let clash : status.Memory ≡ status.Done = sym is ∙ done in cc

pub not_stream : (end : Status) → end ≡ status.Stream → end ≡ status.Done → ⊥
not_stream end is done = let clash : status.Stream ≡ status.Done = sym is ∙ done in cc

pub not_refused : (end : Status) → end ≡ status.Refused → end ≡ status.Done → ⊥
not_refused end is done = let clash : status.Refused ≡ status.Done = sym is ∙ done in cc

not_fault : (end : Status) (f : StoreFault) → end ≡ status_of f → end ≡ status.Done → ⊥
not_fault end store.Memory is done = not_memory end is done
not_fault end _ is done = not_store end is done

pub not_open : (end : Status) (f : OpenFault) → end ≡ status_of_open f → end ≡ status.Done → ⊥
not_open end Unreadable is done = not_refused end is done
not_open end NoMemory is done = not_memory end is done

halt_status : (failed : Bool) → status_of (fault_of_halt failed) ≡ status.Store
halt_status true = refl
halt_status false = refl

-- ---- what a life of more is one of
on_more : (life more : (t u : ℕ) → Store → Store → Type 0) → ((t u : ℕ) (s e : Store) → life t u s e → more t u s e) → (old new : Disk) → OnDevice life old new → OnDevice more old new
on_more life more so old new once = record {
  sectors = once.sectors;
  honest = once.honest;
  lived = λ now s held.
      (let leads = once.lived now s held in
      record { no_fewer = leads.no_fewer; left = λ c stops. (let is = leads.left c stops in (is.0, so old.faults new.faults s is.0 is.1, is.2)) });
}

module _ {D : Type 0} (g : Ghosts D) (opened : D → Type 0) where
  more_on : (life more : (t u : ℕ) → Store → Store → Type 0) → ((t u : ℕ) (s e : Store) → life t u s e → more t u s e) → LivedOn g opened life → LivedOn g opened more
  more_on life more so is = record { old = is.old; new = is.new; was = is.was; lived = on_more life more so (g.disk is.old) (g.disk is.new) is.lived }

  module _ {A R W : Type 0} (streams : A → Traffic R W) (fails : A → Bool → Type 0) (listening : Option A) (workers port : ℕ) (none : Type 0) {F : Type 0} (r : Sources F) (end : Status) where
    -- the commands of an office are requests of one life
    some : (from : A) (ran : Ran) (t u : ℕ) (d e : Desk) → OfficeHolds (streams from) workers ran t u d e → SomeRequests t u d e
    some from ran t u d e is = let did = is.told_so.did in (asked_in did.calls, (told_in did.calls, requests_hold (asked_in did.calls) (told_in did.calls) t u d e did.lived))

    closed : (from : A) (t u : ℕ) (d e : Desk) → ClosedHolds (streams from) workers t u d e → SomeRequests t u d e
    closed from t u d e is = let did = is.told_so in (asked_in did.calls, (told_in did.calls, requests_hold (asked_in did.calls) (told_in did.calls) t u d e did.lived))

    asked : (life : (t u : ℕ) → Desk → Desk → Type 0) → ((t u : ℕ) (d e : Desk) → life t u d e → SomeRequests t u d e) → LivedOn g opened (Asked life) → LivedOn g opened (Asked SomeRequests)
    asked life so is = more_on (Asked life) (Asked SomeRequests) (λ t u s e was. (was.0, was.1, so t u s.1 e.1 was.2)) is

    pub runs_serve : (old new told_old told_new : Written) → ServesLife g opened none streams fails listening workers port end old new told_old told_new → RunsServe g opened r end
    runs_serve old new told_old told_new (ServesLife.served is life) = RunsServe.served (inl is.1.0) (asked (OfficeHolds (streams life.from) workers life.ran) (some life.from life.ran) life.life)
    runs_serve old new told_old told_new (ServesLife.unheard is life) = RunsServe.served (inr is.1.0) (asked (OfficeHolds (streams life.from) workers life.ran) (some life.from life.ran) life.life)
    runs_serve old new told_old told_new (ServesLife.halted failed is life) = RunsServe.halted (is.1.0 ∙ halt_status failed)
        (more_on (λ t u s e. Asked (OfficeHolds (streams life.from) workers life.ran) t u s e × (t < u)) (λ t u s e. Asked SomeRequests t u s e × (t < u))
        (λ t u s e was. ((was.0.0, was.0.1, some life.from life.ran t u s.1 e.1 was.0.2), was.1)) life.life)
    runs_serve old new told_old told_new (ServesLife.given_up is life) = RunsServe.given_up is.1.0 (asked (ClosedHolds (streams life.from) workers) (closed life.from) life.life)
    runs_serve old new told_old told_new (ServesLife.unused fault wrote is life) = RunsServe.served (inr is.0) (asked (RequestsHold [] []) (λ t u d e was. ([], ([], was))) life)
    runs_serve old new told_old told_new (ServesLife.barred is) = RunsServe.barred (not_fault end _ is.told.1.0) is.why is.life
    runs_serve old new told_old told_new (ServesLife.not_opened is) = RunsServe.not_opened (not_fault end is.fault is.told.1.0)
    runs_serve old new told_old told_new (ServesLife.not_listening none same is untouched) = RunsServe.not_opened (not_stream end is.0)

-- What a run of `serve` is for the store that it opened.
use Rattle.{std.proofs.Common.{◌≡◌, ◌⊎◌, ◌<◌, ℕ, Bool, true, false, List, Option, Result, Ok, Err, inl, inr, ⊎_elim, sym, subst, ◌∙◌, arith}, serve_command.proofs.Failing.along}
use Rattle.{command_output.specs.{claim.Writing.Written, declared.status.Status.Status}, http_desk.specs.{connections.declared.ran.Ran.Ran, seats.claim.Streams.Traffic}}
use Rattle.inspect_command.specs.{desk_store.claim.Clerks.{disk_of, pages_of}, desk_theorem.claim.{Device.HoldsStore, OneLife.{Asked, OfficeHolds}}}
use Rattle.inspect_command.specs.{desk_theorem.lives.claim.Versions.Store as Held, store_command.{claim.Living.{Bars, IsRefused}, declared.fault.StoreFault.StoreFault}}
use Rattle.{page_store.specs.claim.Transactions.device_in, sector_device.specs.declared.SectorDevice.Ghosts, serve_command.specs.declared.fault.ServingFault.ServingFault}
use Rattle.serve_command.specs.Serving.{Announces, EndsServing, HasAnnounced, HasStopped, IsNoStore, IsServed, IsGivenUp, NotOpened, Serves}
use Rattle.serve_command.specs.{claim.Living.{ClosedLived, HaltedLived, HasServed, OfficeLived, ServesLife}, declared.fault.ServingFault.TheVariants.{Store, Socket, Output}}
use Rattle.inspect_command.proofs.{desk_theorem.Device.{and_on, held_all}, store_command.Living.{none_opened, told_for}}

module _ {D O : Type 0} (g : Ghosts D) (opens : O → List ℕ → Result D StoreFault → O → Type 0) (closes : O → D → O → Type 0) {A R W : Type 0} (streams : A → Traffic R W) (heard : A → Ran → Type 0) (fails : A → Bool → Type 0) (listening : Option A) (workers : ℕ) (opened : D → Type 0) (none : O → Type 0) (tells : (before : O) (name : List ℕ) (d : D) (after : O) → opens before name (Ok d) after → opened d) (refuses : (before : O) (name : List ℕ) (f : StoreFault) (after : O) → opens before name (Err f) after → none before → none after) where
  module _ (stores after : O) (fresh : none stores) (name : List ℕ) (port : ℕ) (end : Status) (old new told_old told_new : Written) where
    abbrev Lives : Type 0
    Lives = ServesLife g opened (none after) streams fails listening workers port end old new told_old told_new

    office : (halted device_failed socket_failed : Bool) → IsServed g opens closes streams heard fails listening workers stores name halted device_failed socket_failed after → OfficeLived g opened (none after) streams fails listening workers port end socket_failed
    office halted device_failed socket_failed is = record {
      from = is.listener;
      listens = is.listens;
      failed = is.failed;
      ran = is.came_to;
      life = record { old = is.found.device; new = device_in (pages_of is.last); was = tells stores name is.found.device is.middle is.found.given; lived = is.life };
    }

    -- where the office halted over a store, its device has failed since
    fell : (device_failed socket_failed : Bool) (is : IsServed g opens closes streams heard fails listening workers stores name true device_failed socket_failed after) → (disk_of is.last).is_honest → (s : Held) → HoldsStore s (g.disk is.found.device)
        → (g.disk is.found.device).faults < (disk_of is.last).faults
    fell device_failed socket_failed is honest s held =
        let lasts = is.served.lasts in
        let start = lasts.is_first in
        let went = along false lasts.start lasts.calls lasts.checked is.last lasts.run in
        let keeps = start.keeps (is.found.opened.keeps (held_all s (g.disk is.found.device) held)) in
        let rose = went.rose keeps (start.halted ∙ is.found.opened.working) is.halts honest in
        let same = is.found.opened.calm (start.honest (went.honest honest)) in
        let first = start.faults in
        omega (arith, rose, same, first)

    halted_office : (device_failed socket_failed : Bool) → IsServed g opens closes streams heard fails listening workers stores name true device_failed socket_failed after → HaltedLived g opened (none after) streams fails listening workers port end
    halted_office device_failed socket_failed is = record {
      from = is.listener;
      listens = is.listens;
      ran = is.came_to;
      life = record {
        old = is.found.device;
        new = device_in (pages_of is.last);
        was = tells stores name is.found.device is.middle is.found.given;
        lived = and_on (Asked (OfficeHolds (streams is.listener) workers is.came_to)) (λ t u s. t < u) (g.disk is.found.device) (disk_of is.last) (fell device_failed socket_failed is) is.life;
      };
    }

    given_up : IsGivenUp g opens closes streams heard fails listening workers stores name after → ClosedLived g opened (none after) streams fails listening workers port end
    given_up is = record {
      from = is.listener;
      listens = is.listens;
      life = record { old = is.found.device; new = device_in (pages_of is.last); was = tells stores name is.found.device is.middle is.found.given; lived = is.life };
    }

    no_store : (f : StoreFault) → IsRefused f end old new told_old told_new → IsNoStore g opens closes stores name f after → Bars g opened (none after) end old new told_old told_new
    no_store f is not = record {
      why = not.why.error;
      told = told_for end old new told_old told_new not.why.told is;
      life = record { old = not.device; new = not.left; was = tells stores name not.device not.middle not.given; lived = not.why.life };
    }

    unopened : (f : StoreFault) → IsRefused f end old new told_old told_new → NotOpened g opens closes stores name f after → Lives
    unopened f is (inl same) = ServesLife.not_opened (none_opened g opens closes opened none tells refuses stores after fresh name end old new told_old told_new f is (inl same))
    unopened f is (inr (inl refused)) = ServesLife.not_opened (none_opened g opens closes opened none tells refuses stores after fresh name end old new told_old told_new f is (inr refused))
    unopened f is (inr (inr not)) = ServesLife.barred (no_store f is not)

    -- a fault is told by another name
    ends_as : {e f : StoreFault} → e ≡ f → HasAnnounced port old new → EndsServing (Err (Store e)) end told_old told_new → HasServed g opened (none after) streams fails listening workers port end (Err (Store f)) old new told_old told_new
    ends_as same line ends = (line, subst (λ (h : StoreFault). EndsServing (Err (Store h)) end told_old told_new) same ends)

    stopped : (f : StoreFault) → HasAnnounced port old new → EndsServing (Err (Store f)) end told_old told_new → HasStopped g opens closes streams heard fails listening workers stores name f after → Lives
    stopped f line ends (inl given) = ServesLife.given_up (ends_as given.0 line ends) (given_up given.1)
    stopped f line ends (inr served) = ServesLife.halted served.0 (ends_as served.1 line ends) (halted_office served.0 served.2 served.3)

    announced : (ended : Result (Unit {0}) ServingFault) → Announces g opens closes streams heard fails listening workers port stores name ended after old new → EndsServing ended end told_old told_new → Lives
    announced (Ok u) is ends = ServesLife.served (is.0, ends) (office false false false is.1)
    announced (Err (Store f)) is ends = ⊎_elim (λ first. unopened f (first.0, ends) first.1) (λ stop. stopped f stop.0 ends stop.1) is
    announced (Err Socket) is ends =
        ⊎_elim (λ first. ServesLife.not_listening first.0 first.1 ends (subst none (sym first.2) fresh)) (λ served. ServesLife.unheard (served.0, ends) (office false false true served.1)) is
    announced (Err Output) is ends =
        let it = is.1 in
        ServesLife.unused is.0.0 is.0.1 ends (record { old = it.given.device; new = device_in (pages_of it.clerk); was = tells stores name it.given.device it.middle it.given.given; lived = it.life })

    pub serves_life : Serves g opens closes streams heard fails listening workers port stores name end after old new told_old told_new → Lives
    serves_life is = announced is.0 is.1 is.2

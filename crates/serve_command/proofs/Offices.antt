-- The run of an office as a life.
use Rattle.{std.proofs.Common.{◌≡◌, ℕ, false, if◌then◌else◌, List, [], ◌∷◌, ◌++◌, All, refl, subst, subst₂, ◌∙◌, Result, Ok, Err, IfOk}, desk_model.specs.claim.Desk.Desk}
use Rattle.{desk_model.specs.declared.{command.Command.Command, reply.Reply.Reply}, http_desk.specs.{connections.declared.ran.Ran.Ran, seats.claim.Streams.{Traffic, IsAskedOf}}}
use Rattle.{http_desk.specs.seats.desk_gallery.claim.Working.AreAccepted, inspect_command.specs.desk_store.{claim.Clerks.{desk_of, disk_of}, declared.clerk.Clerk.Clerk}}
use Rattle.inspect_command.specs.desk_theorem.{claim.{Offices.{Officed, Answered}, OneLife.{ClosedHolds, OfficeHolds}}, lives.{DeskInside.LivedThrough, claim.DeskLives.Lived}}
use Rattle.inspect_command.specs.{desk_theorem.lives.claim.Calls.{asked_in, told_in, is_done, acknowledged}, desk_theorem_runs.desk_store_pages.claim.Desks.OpensDesk}
use Rattle.inspect_command.specs.desk_theorem.lives.desk_theorem_runs.claim.Runs.{Call, if_accepted, acknowledged as acknowledged_calls}
use Rattle.{sector_device.specs.declared.SectorDevice.Ghosts, serve_command.specs.claim.Lasting.{Outlasts, LastsAsked, ServesStreams}}
use Rattle.inspect_command.proofs.desk_theorem.Device.{through_more}
use Rattle.inspect_command.proofs.desk_theorem.OneLife.{closed_holds, office_holds}
use Rattle.inspect_command.proofs.desk_theorem.Sweeping.{swept_lived}
use Rattle.desk_model.specs.declared.reply.Reply.TheVariants as reply

-- the acknowledged commands of a run, in the words of a life
done_is : (c : Command) (r : Reply) → if_accepted c r ≡ (if is_done r then c ∷ [] else [])
done_is c (reply.Created name revisions) = refl
done_is c _ = refl

told_as : (calls : List Call) → acknowledged_calls calls ≡ acknowledged calls
told_as [] = refl
told_as (call ∷ calls) = λ i. done_is call.0 call.1 i ++ told_as calls i

module _ {D : Type 0} {g : Ghosts D} where
  -- the calls of a run from one who is like the first, as a life of whatever they lead to
  calls_lived : (first last : Clerk D g) (lasts : Outlasts first last) (life : (t u : ℕ) → Desk → Desk → Type 0)
      → ((t u : ℕ) (e : Desk) → Lived t u (desk_of first) (asked_in lasts.calls) (told_in lasts.calls) e → life t u (desk_of first) e) → LivedThrough life first last
  calls_lived first last lasts life is =
      let like = lasts.is_first in
      let run = swept_lived false lasts.start lasts.calls lasts.checked last lasts.run in
      record {
        sectors = run.sectors ∙ like.sectors;
        honest = λ now. like.honest (run.honest now);
        faults = λ keeps off now. rw like.faults at (run.faults (like.keeps keeps) (like.halted ∙ off) now);
        lived = λ keeps off now i left.
            (let there = run.lived (like.keeps keeps) (like.halted ∙ off) now i left in
            let lived = subst₂ (λ (d : Desk) (t : ℕ). Lived t (disk_of last).faults d (asked_in lasts.calls) (told_in lasts.calls) there.0) like.desk like.faults there.1 in
            (there.0, is (disk_of first).faults (disk_of last).faults there.0 lived, subst (λ (n : ℕ). OpensDesk n there.0 i) like.sectors there.2));
      }

  module _ {R W : Type 0} (s : Traffic R W) (workers : ℕ) where
    abbrev served : (first last : Clerk D g) (lasts : Outlasts first last) → All (λ (call : Call). IsAskedOf s call.0) lasts.calls → (t u : ℕ) (e : Desk)
        → Lived t u (desk_of first) (asked_in lasts.calls) (told_in lasts.calls) e → Officed s workers t u (desk_of first) e
    served first last lasts asked t u e lived = record {
      calls = lasts.calls;
      asked = asked;
      accepted = subst (λ (done : List Command). AreAccepted (desk_of first) done) (told_as lasts.calls) lasts.accepted;
      lived = lived;
    }

    pub office_lived : (first last : Clerk D g) → LastsAsked s first last → LivedThrough (λ t u d e. Officed s workers t u d e) first last
    office_lived first last did = calls_lived first last did.lasts (λ t u d e. Officed s workers t u d e) (served first last did.lasts did.asked)

    pub streams_lived : (first last : Clerk D g) (ran : Ran) → ServesStreams s workers first last ran → LivedThrough (λ t u d e. Answered s workers t u d ran e) first last
    streams_lived first last ran serves = calls_lived first last serves.lasts (λ t u d e. Answered s workers t u d ran e) (λ t u e lived. record {
      did = served first last serves.lasts serves.asked t u e lived;
      visitors = serves.visitors;
      many = serves.many;
      fresh = serves.fresh;
      counted = rw told_as at serves.counted;
    })

    -- with the clauses of one life
    pub office_life : (first last : Clerk D g) (ran : Ran) → ServesStreams s workers first last ran → LivedThrough (OfficeHolds s workers ran) first last
    office_life first last ran serves = through_more first last (λ t u d e. Answered s workers t u d ran e) (OfficeHolds s workers ran) (office_holds s workers ran) (streams_lived first last ran serves)

    pub closed_life : (first last : Clerk D g) → LastsAsked s first last → LivedThrough (ClosedHolds s workers) first last
    closed_life first last did = through_more first last (λ t u d e. Officed s workers t u d e) (ClosedHolds s workers) (closed_holds s workers) (office_lived first last did)

    pub all_live : {E : Type 0} (first : Clerk D g) (r : Result (Clerk D g × Ran) E) → IfOk r (λ end. ServesStreams s workers first end.0 end.1) → IfOk r (λ end. LivedThrough (OfficeHolds s workers end.1) first end.0)
    all_live first (Ok end) serves = office_life first end.0 end.1 serves
    all_live first (Err e) none = none

-- A talk of clerks is one of the desks that they show.
use Rattle.std.{specs.Prelude.{◌⊎◌, ℕ, ◌+◌, Bool, false, List, [], ◌++◌, Option, Result, Ok, Err}, proofs.Common.{refl, sym, ap, subst, inl, inr, ⊎_elim, add-zero}}
use Rattle.{std.proofs.lemmas.List.append-nil, desk_model.specs.{claim.{Desk.Desk, Outcome.{CommandMay, IsStep}, Sample.sample_desk}, declared.command.Command.Command}}
use Rattle.{desk_model.specs.declared.reply.{Refusal.TheVariants.{BadCompanion, Full, Memory, Halted}, Reply.Reply}, desk_theorem.specs.claim.Streams.Ends}
use Rattle.{desk_theorem.specs.runs.desk_store.{claim.Clerks.desk_of, declared.clerk.Clerk.Clerk}, http_desk.specs.streams.claim.Serving.{ServesTo, IsPrefixTalk, IsCutInHead}}
use Rattle.{http_desk.specs.streams.{claim.Talk.Talk, declared.serve.{ServeFault.ServeFault, Served.Served}}, sector_device.specs.declared.SectorDevice.Ghosts}
use Rattle.talk_command.{specs.Desks.{desk_commands, desk_asks, DeskTalk, IsTalkToHead, DeskServesTo, ServesDesk}, proofs.Seen.talk_seen}
use Rattle.talk_command.specs.claim.Talking.{clerk_commands, clerk_asks, ServesSample, ServesClerk, IsUnserved}
use Rattle.desk_model.specs.declared.reply.Reply.TheVariants as reply
use Rattle.http_desk.specs.streams.declared.serve.ServeFault.TheVariants as fault

step_seen : (must : Type 0) (d : Desk) (c : Command) (r : Reply) (e : Desk) → IsStep must d c r e → IsStep ⊥ d c r e
step_seen must d c r e is = record { reply = is.reply; desk = is.desk; room = λ accepted none. none }

outcome_seen : (must may failed : Type 0) (d : Desk) (c : Command) (r : Reply) (e : Desk) → CommandMay must may failed d c r e → desk_commands d c r e
outcome_seen must may failed d c (reply.Refused Memory) e told = inl (λ none. none, told.1)
outcome_seen must may failed d c (reply.Refused Halted) e told = inr (refl, told.1)
outcome_seen must may failed d c (reply.Refused Full) e told = inl (λ none. none, record { accepted = told.1.accepted; no_room = tt; desk = told.1.desk })
outcome_seen must may failed d c (reply.Refused BadCompanion) e told = absurd told
outcome_seen must may failed d c (reply.Refused refusal) e told = inl (λ none. none, step_seen must d c (reply.Refused refusal) e told.1)
outcome_seen must may failed d c (reply.Created name revisions) e told = inl (λ none. none, step_seen must d c (reply.Created name revisions) e told.1)
outcome_seen must may failed d c (reply.Retired name) e told = inl (λ none. none, step_seen must d c (reply.Retired name) e told.1)
outcome_seen must may failed d c _ e told = absurd told

-- no clerk could be made
unserved_seen : (served : Result Served ServeFault) (old new : Ends) → IsUnserved served old new → ServesDesk served old.unread new.unread old.written new.written
unserved_seen served old new is = record {
  last = sample_desk;
  input = [];
  output = [];
  reads = is.reads;
  writes = is.writes;
  serves = subst (λ (s : Result Served ServeFault). DeskServesTo sample_desk s new.unread [] [] sample_desk) (sym is.memory) (refl, refl);
}

module _ {D : Type 0} {g : Ghosts D} where
  desks_talk : (x : Clerk D g) (input output : List ℕ) (n : ℕ) (shut : Bool) (y : Clerk D g) → Talk (clerk_commands g) (clerk_asks g) x input output n shut y → DeskTalk (desk_of x) input output n shut (desk_of y)
  desks_talk x input output n shut y talk = talk_seen (λ (z : Clerk D g). desk_of z) (clerk_commands g) (clerk_asks g) desk_commands desk_asks (λ x c r y does. outcome_seen _ _ _ (desk_of x) c r (desk_of y) does.outcome)
      (λ x q r y told. (told.0, ap (λ (z : Clerk D g). desk_of z) told.1)) x input output n shut y talk

  -- no more is read after the head's beginning
  head_seen : (x : Clerk D g) (input output : List ℕ) (y : Clerk D g) → IsCutInHead (clerk_commands g) (clerk_asks g) x input output y → IsTalkToHead (desk_of x) input output (desk_of y)
  head_seen x input output y cut =
      let whole : Talk (clerk_commands g) (clerk_asks g) x (cut.taken ++ []) (output ++ []) (cut.count + 0) false y = cut.on [] [] 0 false y (Talk.over y) in
      record {
        taken = cut.taken;
        rest = cut.rest;
        read = cut.read;
        cut = cut.cut;
        count = cut.count;
        talk = desks_talk x cut.taken output cut.count false y (rw (append-nil cut.taken, append-nil output, add-zero cut.count) at whole);
      }

  prefix_seen : (x : Clerk D g) (input answers : List ℕ) (y : Clerk D g) → IsPrefixTalk (clerk_commands g) (clerk_asks g) x input answers y → IsPrefixTalk desk_commands desk_asks (desk_of x) input answers (desk_of y)
  prefix_seen x input answers y prefix = record {
    prefix = prefix.prefix;
    unread = prefix.unread;
    read = prefix.read;
    count = prefix.count;
    shut = prefix.shut;
    talk = desks_talk x prefix.prefix answers prefix.count prefix.shut y prefix.talk;
  }

  served_seen : (served : Result Served ServeFault) (left : Option (List ℕ)) (x : Clerk D g) (input output : List ℕ) (y : Clerk D g) → ServesTo (clerk_commands g) (clerk_asks g) x served left input output y → DeskServesTo (desk_of x) served left input output (desk_of y)
  served_seen (Ok served) left x input output y told = (told.0, desks_talk x input output served.requests told.0 y told.1, told.2)
  served_seen (Err fault.WriteFault) left x input output y told = record { answers = told.answers; unwritten = told.unwritten; written = told.written; over_prefix = prefix_seen x input told.answers y told.over_prefix }
  served_seen (Err fault.Memory) left x input output y told = (told.0, told.1)
  served_seen (Err _) left x input output y told = ⊎_elim (λ all. inl (all.0, desks_talk x input output all.0 false y all.1)) (λ cut. inr (head_seen x input output y cut)) told

  clerk_seen : (served : Result Served ServeFault) (old new : Ends) → ServesClerk g served old new → ServesDesk served old.unread new.unread old.written new.written
  clerk_seen served old new is = record {
    last = desk_of is.last;
    input = is.serves.input;
    output = is.serves.output;
    reads = is.serves.reads;
    writes = is.serves.writes;
    serves = subst (λ (d : Desk). DeskServesTo d served new.unread is.serves.input is.serves.output (desk_of is.last)) is.desk (served_seen served new.unread is.clerk is.serves.input is.serves.output is.last is.serves.serves);
  }

  pub sample_seen : (served : Result Served ServeFault) (old new : Ends) → ServesSample g served old new → ServesDesk served old.unread new.unread old.written new.written
  sample_seen served old new = ⊎_elim (clerk_seen served old new) (unserved_seen served old new)

-- What became of a command.
use Rattle.{std.proofs.Common.{rules, ◌≡◌, ◌⊎◌, ◌+◌, ℕ, Bool, true, false, length, inl, inr, ⊎_elim, refl, sym, ap, subst, ◌∙◌, arith}, desk_model.specs.claim.Desk.Desk}
use Rattle.desk_model.specs.{claim.{Outcome.{IsAcceptance, CommandMay}, Room.need}, declared.{command.Command.{Command, TheVariants.Fork}, reply.{Refusal.Refusal, Reply.Reply}}}
use Rattle.{desk_model.specs.declared.reply.Reply.TheVariants.Refused, desk_store.specs.{claim.Keeping.{IsLeft, OpensOneMore}, declared.{clerk.Clerk.Clerk, ready.Ready.Ready}}}
use Rattle.{desk_store.specs.claim.Clerks.{desk_of, disk_of, pages_of, sectors_of, free_of, HaltsByDevice, Keeps, Reads, Moves}, page_store.specs.claim.Chain.free_in}
use Rattle.desk_store.{specs.claim.Commands.{command_of, after_of, IsExhausted, MustBeFull, MayBeFull, PrepareErr, IsReady, IsNotMade, Commits, Does}, proofs.Kept.acceptance_is}
use Rattle.{desk_store_catalogue.specs.claim.Accepting.{IsAfter, acceptance}, desk_store_pages.specs.claim.Desks.{InPages, OpensDesk}, page_store.specs.claim.Transactions.IsQuiet}
use Rattle.{page_store.{specs.gate_journal.claim.Store.home, proofs.Chains.either}, sector_device.specs.{claim.{Disk.Image, Moments.LeavesOnly}, declared.SectorDevice.Ghosts}}
use Rattle.{page_store.proofs.Stops.{leaves_here, leaves_quiet}, sector_device.proofs.Moments.{leaves_more, leaves_now}}
use Rattle.desk_store_opening.proofs.chunk_table.Committing.{both}

-- an accepted command has the step's outcome
made_may : (must may failed : Type 0) (d : Desk) (c : Command) (e : Desk) → ¬ failed → IsAfter d c e → ¬ must → CommandMay must may failed d c (acceptance c) e
made_may must may failed d (Fork name from) e works is room = (works, record { reply = sym is.reply; desk = is.desk; room = λ accepted. room })
made_may must may failed d _ e works is room = (works, record { reply = sym is.reply; desk = is.desk; room = λ accepted. room })

-- what is left of a clerk that has not halted
left_working : (halted : Bool) (sectors : ℕ) (d : Desk) (c : Image) → halted ≡ false → IsLeft halted sectors d c → OpensDesk sectors d c
left_working halted sectors d c working left = ⊎_elim (λ opens. opens) (λ (more : OpensOneMore halted sectors d c). both halted more.halt working) left

-- a clerk that halts later leaves no less
left_later : (before after : Bool) (sectors : ℕ) (d : Desk) (c : Image) → (before ≡ true → after ≡ true) → IsLeft before sectors d c → IsLeft after sectors d c
left_later before after sectors d c halts left = ⊎_elim (λ opens. inl opens) (λ (more : OpensOneMore before sectors d c). inr (record { halt = halts more.halt; next = more.next; is = more.is; opens = more.opens })) left

-- the same of what they are known to be
pub left_as : {h k : Bool} {s n : ℕ} {d e : Desk} {c : Image} → h ≡ k → s ≡ n → d ≡ e → IsLeft k n e c → IsLeft h s d c
left_as halt sectors desk left = rw (halt, sectors, desk) left

module _ {D : Type 0} {g : Ghosts D} where
  abbrev pub OneOf : Clerk D g → Desk → Image → Type 0
  OneOf x next c = OpensDesk (sectors_of x) (desk_of x) c ⊎ OpensDesk (sectors_of x) next c

  sectors_same : (x y : Clerk D g) → Reads x y → sectors_of y ≡ sectors_of x
  sectors_same x y reads = λ i. home (reads.quiet.journal i) + reads.quiet.count i

  free_same : (x y : Clerk D g) → Reads x y → (disk_of y).is_honest → free_of y ≡ free_of x
  free_same x y reads honest = ap (λ (P : Image). length (free_in P)) (reads.quiet.same honest)

  -- each image that a stop may leave of a call that read at most, it could leave before
  quiet_left : (P : Image → Type 0) (x y : Clerk D g) → Reads x y → (disk_of y).is_honest → ((c : Image) → (disk_of x).leaves c → P c) → LeavesOnly P (disk_of x) (disk_of y)
  quiet_left P x y reads honest has = leaves_quiet (pages_of x) (pages_of y) reads.quiet honest P (disk_of x) (leaves_here P (disk_of x) has)

  reads_left : (next : Desk) (x y : Clerk D g) → Reads x y → Keeps x → x.halted ≡ false → (disk_of y).is_honest → LeavesOnly (OneOf x next) (disk_of x) (disk_of y)
  reads_left next x y reads keeps working honest =
      quiet_left (OneOf x next) x y reads honest (λ c leaves. inl (left_working x.halted (sectors_of x) (desk_of x) c working (keeps.left (reads.quiet.honest honest) c leaves)))

  was_working : (x y : Clerk D g) → Reads x y → y.halted ≡ false → x.halted ≡ false
  was_working x y reads works = search (rules, either)

  still_holds : (x y : Clerk D g) → Reads x y → (disk_of y).is_honest → InPages (pages_of x) (desk_of x) → InPages (pages_of y) (desk_of y)
  still_holds x y reads honest holds = search (rules, reads.quiet.same honest)

  -- the numbers of its rows are what they were
  still_exhausted : (x y : Clerk D g) (c q : Command) → Reads x y → q ≡ c → (disk_of y).is_honest → IsExhausted x c → IsExhausted y q
  still_exhausted x y c q reads is honest exhausted = record {
    m = exhausted.m;
    holds = search rules;
    next = exhausted.next;
    fit = exhausted.fit;
    is_next = exhausted.is_next;
    none = λ enough. exhausted.none (rw (reads.desk, is) at enough);
  }

  still_keeps : (x y : Clerk D g) → Reads x y → Keeps x → Keeps y
  still_keeps x y reads keeps = record {
    holds = λ works honest. still_holds x y reads honest (keeps.holds (was_working x y reads works) (reads.quiet.honest honest));
    left = λ honest c leaves.
        let Was = IsLeft x.halted (sectors_of x) (desk_of x) in
        let was = leaves_now Was (disk_of x) (disk_of y) (quiet_left Was x y reads honest (keeps.left (reads.quiet.honest honest))) c leaves in
        left_as refl (sectors_same x y reads) reads.desk (left_later x.halted y.halted (sectors_of x) (desk_of x) c reads.halts was);
  }

  pub reads_move : (next : Desk) (x y : Clerk D g) → Reads x y → Moves next x y
  reads_move next x y reads =
      search (sectors_same, reads.quiet.journal, reads.quiet.honest, reads_left, still_keeps, reads.still, reads.desk, reads.halts, reads.rose, reads.quiet.calm, y.working)

  -- the pages halt where the device fails
  pub quiet_device : (x y : Clerk D g) → IsQuiet (pages_of x) (pages_of y) → HaltsByDevice x y
  quiet_device x y quiet = record { rose = quiet.rose; calm = quiet.calm }

  device_more : (x y z : Clerk D g) → Reads x y → y.halted ≡ false → ((disk_of z).is_honest → (disk_of y).is_honest) → HaltsByDevice y z → HaltsByDevice x z
  device_more x y z reads works was_honest then = search rules

  pub moves_more : (next : Desk) (x y z : Clerk D g) → Reads x y → y.halted ≡ false → Moves next y z → Moves next x z
  moves_more next x y z reads works moves =
      let sectors = sectors_same x y reads in
      record {
        sectors = moves.sectors ∙ sectors;
        room = moves.room ∙ reads.quiet.journal;
        honest = λ honest. reads.quiet.honest (moves.honest honest);
        any_moment = λ keeps working honest.
            let then : LeavesOnly (OneOf x next) (disk_of y) (disk_of z) = rw (reads.desk, sectors) at (moves.any_moment (still_keeps x y reads keeps) works honest) in
            leaves_more (OneOf x next) (disk_of x) (disk_of y) (disk_of z) (reads_left next x y reads keeps working (moves.honest honest)) then;
        keeps = λ keeps. moves.keeps (still_keeps x y reads keeps);
        still = λ on. both y.halted (reads.halts on) works;
        rose = λ keeps working on honest. search (rules, still_keeps);
        calm = λ off honest. moves.calm off honest ∙ reads.quiet.calm (y.working works) (moves.honest honest);
      }

  -- a command that was refused before its commit
  pub refused_does : (x y : Clerk D g) (c : Command) (r : Refusal) → Reads x y → y.loading ≡ x.loading → PrepareErr x c r y → Does x c (Refused r) y
  refused_does x y c r reads loading why = search (rules, quiet_device, reads_move, free_same)

  -- one that was made ready, and then committed or not
  pub committed_does : (x y z : Clerk D g) (c : Command) (r : Ready) (reply : Reply) → Reads x y → y.loading ≡ x.loading → IsReady y r → command_of r ≡ c → (MustBeFull x c → ⊥) → y.halted ≡ false → Commits y r reply z → Does x c reply z
  committed_does x y z c r reply reads loading ready is room works commits =
      let after = subst (λ (q : Command). IsAfter (desk_of x) q (after_of r)) is (rw reads.desk at ready.accepted) in
      let not_made : (IsAcceptance reply → ⊥) → IsNotMade y reply z = λ other. ⊎_elim (λ made. absurd (other (rw made.reply_is (acceptance_is (command_of r))))) (λ fault. fault) commits.outcome in
      record {
        loading = commits.loading ∙ loading;
        device = device_more x y z reads works commits.moves.honest commits.device;
        moves = rw after.desk at (moves_more (after_of r) x y z reads works commits.moves);
        outcome = elim commits.outcome [
          | inl made ↦ subst (λ (a : Reply). CommandMay (MustBeFull x c) (MayBeFull x (pages_of z) c) (z.halted ≡ true) (desk_of x) c a (desk_of z)) (ap (λ (q : Command). acceptance q) (sym is) ∙ sym made.reply_is)
              (subst (λ (e : Desk). CommandMay (MustBeFull x c) (MayBeFull x (pages_of z) c) (z.halted ≡ true) (desk_of x) c (acceptance c) e) (sym made.desk)
              (made_may (MustBeFull x c) (MayBeFull x (pages_of z) c) (z.halted ≡ true) (desk_of x) c (after_of r) (λ on. both z.halted on made.works) after room))
          | inr fault ↦ rw fault.reply_is (fault.halted, fault.desk ∙ reads.desk)
        ];
        free = λ keeps honest accepted. elim commits.outcome [
          | inl made ↦ (
              let few = made.free (still_keeps x y reads keeps) honest in
              let same = free_same x y reads (commits.moves.honest honest) in
              let needs : need (desk_of y) (command_of r) ≡ need (desk_of x) c = (λ i. need (reads.desk i) (is i)) in
              omega (arith, few, same, needs))
          | inr fault ↦ absurd (rw fault.reply_is at accepted)
        ];
        numbers = λ honest accepted exhausted. ready.numbers (commits.moves.honest honest) (still_exhausted x y c (command_of r) reads is (commits.moves.honest honest) exhausted);
        spared = λ honest off other. both z.halted (not_made other).halted off;
        shown = λ other. (not_made other).desk ∙ reads.desk;
        quiet = λ off other. both z.halted (not_made other).halted off;
      }

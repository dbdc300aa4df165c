-- What the streams of many workers came to, and what they were answered.
use Rattle.std.specs.{List.sum_by, Prelude.{◌≡◌, ℕ, All, List, [], ◌∷◌, length, map, reverse, fold, Option, Some, None, Result, ⊤}}
use Rattle.{desk_model.specs.{claim.Desk.Desk, declared.command.Command.Command}, http_desk_connections.specs.claim.Running.{joined, no_streams, one_more, requests_of}}
use Rattle.{http_desk_connections.specs.declared.ran.Ran.Ran, http_desk_seats.specs.claim.{Explained.{ExplainsCommand, ExplainsQuery}, Seated.{Seated, newcomer}}}
use Rattle.http_desk_streams.specs.{claim.{Asking.IsAskedIn, Serving.{Serves, read_failures, write_failures}}, declared.serve.{ServeFault.ServeFault, Served.Served}}
use mathlib.Core.List.{IsPrefix}

-- the streams of one worker, the last first
abbrev pub counts_of : List (Result Served ServeFault) → Ran
counts_of [] = no_streams
counts_of (served ∷ streams) = one_more (counts_of streams) (requests_of served)

-- all workers together
abbrev pub total_of : List Ran → Ran
total_of workers = fold joined no_streams workers

-- What is known of streams: what was given where a worker, by its number, asked for the next one, and what was taken back, with what it
-- came to; what is unread of a reader, what a writer holds, and how often each failed.
pub record Traffic (R W : Type 0) : Type 1 where
  pub gives : (worker : ℕ) → Option (R × W) → Type 0
  pub takes_back : R → W → Result Served ServeFault → Type 0
  pub unread : R → Option (List ℕ)
  pub failed_reads : R → ℕ
  pub written : W → Option (List ℕ)
  pub failed_writes : W → ℕ

-- a stream was given to a worker, and in the bytes that its reader gives the command is asked for
pub record IsAskedOf {R W : Type 0} (s : Traffic R W) (c : Command) : Type 0 where
  pub worker : ℕ
  pub reader : R
  pub writer : W
  pub given : s.gives worker (Some (reader, writer))
  pub asked : IsAskedIn (s.unread reader) c

-- what a worker's guest has heard of and was told in the end, and what its streams came to
pub record Worker : Type 0 where
  pub guest : Seated
  pub ran : Ran

module _ {R W : Type 0} (s : Traffic R W) (first : Desk) where
  -- A stream was given to a worker, and taken back as it was left, with what it came to. What was written to it since is a talk over what
  -- was read from it since, each answer of which is explained by a list of changes that begins with all that was heard of before, and each
  -- command of which counts as what it is told as. So the seat was when it began, and so it is in the end.
  pub record IsTalkedTo (worker : ℕ) (before : Seated) (served : Result Served ServeFault) (guest : Seated) : Type 0 where
    pub reader : R
    pub writer : W
    pub given : s.gives worker (Some (reader, writer))
    pub reader_left : R
    pub writer_left : W
    pub serves : Serves (ExplainsCommand first) (ExplainsQuery first) before served guest
        (s.unread reader) (s.unread reader_left) (s.written writer) (s.written writer_left)
    pub failed_reads : s.failed_reads reader_left ≡ read_failures (s.failed_reads reader) served
    pub failed_writes : s.failed_writes writer_left ≡ write_failures (s.failed_writes writer) served
    pub taken_back : s.takes_back reader_left writer_left served

  -- a worker's streams one after the other, the last first, at a seat that was so before
  abbrev pub AreTalkedTo : (worker : ℕ) → Seated → List (Result Served ServeFault) → Seated → Type 0
  AreTalkedTo worker before [] guest = guest ≡ before
  AreTalkedTo worker before (served ∷ streams) guest =
      (between : Seated) × AreTalkedTo worker before streams between × IsTalkedTo worker between served guest

  -- a worker's streams at a seat, and what they came to
  pub record AreServed (worker : ℕ) (before guest : Seated) (ran : Ran) : Type 0 where
    pub streams : List (Result Served ServeFault)
    pub talked : AreTalkedTo worker before streams guest
    pub counts : ran ≡ counts_of streams

  -- What the worker of a number came to, whose guest was so before, and so in the end. All its streams were given to it, and it asked
  -- until no further one was.
  pub record HasWorked (worker : ℕ) (before guest : Seated) (ran : Ran) : Type 0 where
    pub served : AreServed worker before guest ran
    pub over : s.gives worker None

  -- What each of the workers came to whose visitors had heard of this, and had asked for nothing. There are as many workers as visitors,
  -- each with a number of its own: the last one's is 0.
  abbrev pub EachHasWorked : List (List Command) → List Worker → Type 0
  EachHasWorked [] [] = ⊤
  EachHasWorked (before ∷ visitors) (worker ∷ workers) =
      HasWorked (length visitors) (newcomer before) worker.guest worker.ran × EachHasWorked visitors workers
  EachHasWorked [] (worker ∷ workers) = ⊥
  EachHasWorked (before ∷ visitors) [] = ⊥

  -- A run is what the workers of these visitors came to together. In the end the changes begin with all that any of them has heard of.
  -- There are as many changes as commands that they were told of as accepted, and so many as they were told of as halted.
  pub record AreCounted (changes : List Command) (halts : ℕ) (visitors : List (List Command)) (ran : Ran) : Type 0 where
    pub workers : List Worker
    pub each : EachHasWorked (reverse visitors) workers
    pub shown : All (λ w. IsPrefix w.guest.heard changes) workers
    pub accepted : length changes ≡ sum_by (λ w. w.guest.accepted) workers
    pub halted : halts ≡ sum_by (λ w. w.guest.halted) workers
    pub total : ran ≡ total_of (map (λ w. w.ran) workers)

-- What is counted of a reader and a writer.
use Rattle.{std.specs.Prelude.{ℕ, List, length, Option, Some, None, option_map, Result, Ok, Err}, byte_stream.specs.{claim.Counts.counted, declared.source.Turn.Turn}}
use Rattle.{byte_stream.specs.declared.source.Turn.TheVariants.{Read, Interrupted, Failed}, connection_log.specs.{Answers.answers_in, declared.counting.Sent.Sent}}

-- the bytes of a turn more
abbrev pub read_with : ℕ → Turn → ℕ
read_with read (Read n) = counted read n
read_with read Interrupted = read
read_with read Failed = read

abbrev pub nothing_sent : Sent
nothing_sent = record { bytes = 0; answers = 0; refusals = 0 }

-- a piece more: a text of heads and short bodies, in which the answers begin, and a long body after it
abbrev pub with_piece : Sent → (text body : List ℕ) → Sent
with_piece s text body = record {
  bytes = counted (counted s.bytes (length text)) (length body);
  answers = counted s.answers (answers_in text).all;
  refusals = counted s.refusals (answers_in text).refusals;
}

abbrev pub sent_of : Option Sent → Sent
sent_of (Some sent) = sent
sent_of None = nothing_sent

-- a piece counts once it is written whole, where anything is counted
abbrev pub sent_after : {A E : Type 0} → Option Sent → (text body : List ℕ) → Result A E → Option Sent
sent_after sent text body (Ok a) = option_map (λ s. with_piece s text body) sent
sent_after sent text body (Err e) = sent

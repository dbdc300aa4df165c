-- What a served stream comes to.
use Rattle.std.specs.{Io.KnownBytes.{Appends, Consumes, IsAtEnd}, Prelude.{◌≡◌, ◌⊎◌, ℕ, suc, ◌+◌, Bool, true, false, List, [], ◌++◌, Option, Result, Ok, Err}}
use Rattle.{byte_stream.specs.claim.Counts.counted, desk_model.specs.declared.{command.{Command.Command, Query.Query}, reply.Reply.Reply}, http_desk_streams.specs.claim.Talk.Talk}
use Rattle.{http_desk_streams.specs.{claim.Asking.Asks, declared.serve.{Next.Next, ServeFault.ServeFault, Served.Served}}, http_wire.specs.claim.Interim.IsCutHead}
use Rattle.http_desk_streams.specs.declared.serve.Next.TheVariants as next
use Rattle.http_desk_streams.specs.declared.serve.ServeFault.TheVariants as fault

-- a read fault is one failure of the reader more, and all else none
abbrev pub read_failures : {A : Type 0} → ℕ → Result A ServeFault → ℕ
read_failures n (Ok a) = n
read_failures n (Err fault.ReadFault) = counted n 1
read_failures n (Err fault.WriteFault) = n
read_failures n (Err fault.Memory) = n
read_failures n (Err fault.TurnLimit) = n

-- a write fault is one failure of the writer more, and all else none
abbrev pub write_failures : {A : Type 0} → ℕ → Result A ServeFault → ℕ
write_failures n (Ok a) = n
write_failures n (Err fault.ReadFault) = n
write_failures n (Err fault.WriteFault) = counted n 1
write_failures n (Err fault.Memory) = n
write_failures n (Err fault.TurnLimit) = n

module _ {X : Type 0} (commands : X → Command → Reply → X → Type 0) (asks : X → Query → Reply → X → Type 0) where
  -- the answers are a talk over a prefix of what was read
  pub record IsPrefixTalk (x : X) (input answers : List ℕ) (y : X) : Type 0 where
    pub prefix : List ℕ
    pub unread : List ℕ
    pub read : input ≡ prefix ++ unread
    pub count : ℕ
    pub shut : Bool
    pub talk : Talk commands asks x prefix answers count shut y

  -- what was written is a prefix of them
  pub record IsCutTalk (x : X) (input output : List ℕ) (y : X) : Type 0 where
    pub answers : List ℕ
    pub unwritten : List ℕ
    pub written : answers ≡ output ++ unwritten
    pub over_prefix : IsPrefixTalk x input answers y

  -- Reading was cut short within a line of a head: all requests before the head are answered, whatever talk goes on after them is one
  -- from before, and no line ends after what was last looked at
  pub record IsCutInHead (x : X) (input answers : List ℕ) (y : X) : Type 0 where
    pub taken : List ℕ
    pub rest : List ℕ
    pub read : input ≡ taken ++ rest
    pub cut : IsCutHead rest
    pub count : ℕ
    pub on : (later more : List ℕ) (n : ℕ) (shut : Bool) (z : X) → Talk commands asks y later more n shut z
        → Talk commands asks x (taken ++ later) (answers ++ more) (count + n) shut z

  -- reading was cut short: a talk over what was read, or over all of it but the beginning of a head
  abbrev pub IsShortTalk : X → (input answers : List ℕ) → X → Type 0
  IsShortTalk x input answers y = ((n : ℕ) × Talk commands asks x input answers n false y) ⊎ IsCutInHead x input answers y

  -- Ok comes only at the end of the input or after an answer that closes
  abbrev pub ServesTo : X → Result Served ServeFault → Option (List ℕ) → List ℕ → List ℕ → X → Type 0
  ServesTo x (Ok served) left input output y = (shut : Bool)
      × Talk commands asks x input output served.requests shut y × (shut ≡ false → IsAtEnd left)
  ServesTo x (Err fault.ReadFault) left input output y = IsShortTalk x input output y
  ServesTo x (Err fault.TurnLimit) left input output y = IsShortTalk x input output y
  ServesTo x (Err fault.WriteFault) left input output y = IsCutTalk x input output y
  ServesTo x (Err fault.Memory) left input output y = (input ≡ []) × (output ≡ []) × (y ≡ x)

  -- a request was taken and answered: whatever talk goes on after it is one from before, and so is what is asked for after it
  pub record GoesOn (x : X) (input rest output : List ℕ) (y : X) : Type 0 where
    pub prefix : List ℕ
    pub read : input ≡ prefix ++ rest
    pub asked : (later : List ℕ) (c : Command) → Asks later c → Asks (prefix ++ later) c
    pub on : (later more : List ℕ) (n : ℕ) (shut : Bool) (z : X) → Talk commands asks y later more n shut z
        → Talk commands asks x (prefix ++ later) (output ++ more) (suc n) shut z

  abbrev pub Exchanges : X → Result Next ServeFault → Option (List ℕ) → List ℕ → List ℕ → List ℕ → X → Type 0
  Exchanges x (Ok next.Again) left input rest output y = GoesOn x input rest output y
  Exchanges x (Ok next.Last) left input rest output y = Talk commands asks x input output 1 true y
  Exchanges x (Ok next.End) left input rest output y = Talk commands asks x input output 0 false y × IsAtEnd left
  Exchanges x (Err fault.ReadFault) left input rest output y = IsShortTalk x input output y
  Exchanges x (Err fault.TurnLimit) left input rest output y = IsShortTalk x input output y
  Exchanges x (Err fault.WriteFault) left input rest output y = IsPrefixTalk x input output y
  Exchanges x (Err fault.Memory) left input rest output y = ⊥

  -- seen from the reader and the writer
  abbrev pub Serves : X → Result Served ServeFault → X → Option (List ℕ) → Option (List ℕ) → Option (List ℕ) → Option (List ℕ) → Type 0
  Serves x result y unread left before after =
      (input : List ℕ) × (output : List ℕ) × Consumes unread left input × Appends before after output × ServesTo x result left input output y

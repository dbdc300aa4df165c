-- A request that is answered without a copy of it.
use Rattle.std.specs.Prelude.{◌≡◌, ℕ, Bool, List, [], ◌++◌}
use Rattle.{http_wire.specs.claim.{Interim.{continue_text, asks_to_continue}, Prefix.{HasRequest, closes_after}}, httparse.specs.Grammar.RequestHead}

-- a request of this method and this target, without a body, stands at the start of the input, and rest follows it; closes tells
-- whether the connection closes after its answer
pub record IsPlain (input method target : List ℕ) (closes : Bool) (rest : List ℕ) : Type 0 where
  pub head : RequestHead
  pub request : HasRequest input head target [] rest
  pub named : method ≡ head.method
  pub shuts : closes ≡ closes_after head
  -- it asks for no interim line
  pub asks : [] ≡ continue_text (asks_to_continue head)
  -- the bytes that it is
  pub prefix : List ℕ
  pub cut : input ≡ prefix ++ rest
  pub alone : (more : List ℕ) → HasRequest (prefix ++ more) head target [] more

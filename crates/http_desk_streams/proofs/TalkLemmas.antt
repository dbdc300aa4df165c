-- How one exchange goes into a talk.
use Rattle.{std.{specs.Io.KnownBytes.{Appends, Consumes}, proofs.{KnownBytes.{Appends-nil, Appends-trans, Consumes-trans}, lemmas.List.append-nil}}, http_wire.specs.Queue.Queued}
use Rattle.std.proofs.Common.{◌≡◌, ◌⊎◌, ℕ, suc, Bool, true, false, List, [], ◌++◌, Option, Some, Result, Ok, Err, refl, sym, ap, subst, ◌∙◌, append_assoc, inl, inr, ◌+◌, arith, codes, rules}
use Rattle.{desk_model.specs.declared.{command.{Command.Command, Query.Query}, reply.Reply.Reply}, http_desk_routes.specs.claim.Orders.order_of, http_wire.specs.Interim.IsCutShort}
use Rattle.http_desk_streams.specs.{Asking.TakesAll, Serving.{CutsNext, Handled, IsUnanswered, Leaves, MayHandle, NextCame, Puts}, claim.Asking.{Asks, IsAskedAfter, IsAskedIn}}
use Rattle.http_desk_streams.specs.{claim.Serving.{Exchanges, IsCutTalk, IsPrefixTalk, IsShortTalk, GoesOn, ServesTo}, declared.serve.{Asked.Asked, Next.Next}}
use Rattle.http_desk_streams.specs.{claim.Talk.{Talk, Handles, over, ended, out_of_memory, refused, closed, went}, declared.serve.ServeFault.ServeFault}
use Rattle.http_wire.specs.{claim.{Interim.{continue_text, asks_to_continue}, Prefix.{HasRequest, closes_after as closes_after_head, is_head}}, declared.request.Incoming.Incoming}
use Rattle.httparse.specs.Grammar.{RequestHead}
use Rattle.http_wire.specs.declared.request.Incoming.TheVariants as came
use Rattle.http_desk_streams.specs.declared.serve.Asked.TheVariants as asked
use Rattle.http_desk_streams.specs.declared.serve.Next.TheVariants as next
use Rattle.http_desk_streams.specs.declared.serve.ServeFault.TheVariants as fault
use Rattle.http_desk_routes.specs.declared.order.Order.TheVariants as order

-- one text after another waits
pub queued_then : (u v w : Option (List ℕ)) (before between after first second : List ℕ) → Queued u v before between first → Queued v w between after second → Queued u w before after (first ++ second)
queued_then u v w before between after first second p q = search (rules, Appends-trans, append_assoc)

pub queued_as : (u v : Option (List ℕ)) (before unsent after text : List ℕ) → unsent ≡ after → Queued u v before unsent text → Queued u v before after text
queued_as u v before unsent after text e q = subst (λ (t : List ℕ). Queued u v before t text) e q

pub queued_all : (u v : Option (List ℕ)) (text : List ℕ) → Queued u v [] [] text → Appends u v text
queued_all u v text q = subst (Appends u v) (sym (q.2 ∙ append-nil q.0)) q.1

-- what waits is sent
pub flushed : (u v w : Option (List ℕ)) (before pending text : List ℕ) → Queued u v before pending text → Appends v w pending → Queued u w before [] text
flushed u v w before pending text q s = (q.0 ++ pending, Appends-trans u v w q.0 pending q.1 s, q.2 ∙ sym (append-nil (q.0 ++ pending)))

pub flushed_cut : (u v w : Option (List ℕ)) (before pending text : List ℕ) → Queued u v before pending text → (prefix : List ℕ) × (rest : List ℕ) × (pending ≡ prefix ++ rest) × Appends v w prefix
    → (unsent : List ℕ) × Queued u w before unsent text
flushed_cut u v w before pending text q s = (s.1, (q.0 ++ s.0, Appends-trans u v w q.0 s.0 q.1 s.3, q.2 ∙ ap (λ (t : List ℕ). q.0 ++ t) s.2 ∙ sym (append_assoc q.0 s.0 s.1)))

-- a request that was taken asks for its command
pub may_handle : {X : Type 0} (takes : X → Command → Type 0) (x : X) (u v : Option (List ℕ)) (read_buffer more rest interim unsent pending : List ℕ) (i : Incoming) → TakesAll takes read_buffer u → Consumes u v more
    → NextCame (read_buffer ++ more) (Ok (Some (asked.Of i))) rest interim unsent pending → MayHandle takes x i
may_handle takes x u v read_buffer more rest interim unsent pending (came.Request r) all read n =
    let is = n.1.0 in
    let here = λ (c : Command) (asks : order_of r.method r.target.items r.body.items ≡ order.Command c). Asks.here (read_buffer ++ more) is.head r.target.items r.body.items rest c is.request (ap (λ (m : List ℕ). order_of m r.target.items r.body.items) (sym is.method) ∙ asks) in
    (is.ascii, λ c asks. all x c (v, more, read, here c asks))
may_handle takes x u v read_buffer more rest interim unsent pending came.End all read n = absurd n.0
may_handle takes x u v read_buffer more rest interim unsent pending _ all read n = tt

module _ {X : Type 0} (commands : X → Command → Reply → X → Type 0) (asks : X → Query → Reply → X → Type 0) where
  -- a request of this head is answered, or memory was wanting before
  abbrev pub HandlesHead : X → (h : RequestHead) → (target body text : List ℕ) → (shut : Bool) → X → Type 0
  HandlesHead x h target body text shut y = Handles commands asks x (order_of h.method target body) (closes_after_head h) (is_head h.method) text shut y

  pub moved : (x z : X) (shut : Bool) (input input' output output' : List ℕ) (n m : ℕ) → input ≡ input' → output ≡ output' → n ≡ m → Talk commands asks x input output n shut z → Talk commands asks x input' output' m shut z
  moved x z shut input input' output output' n m i o e talk = rw (← i, ← o, ← e) talk

  -- a request was answered: the talk goes on after it or is over
  abbrev pub Answered : X → (input rest output : List ℕ) → (shut : Bool) → X → Type 0
  Answered x input rest output true y = Talk commands asks x input output 1 true y
  Answered x input rest output false y = GoesOn commands asks x input rest output y

  answered : (x y : X) (input rest text : List ℕ) (h : RequestHead) (target body start : List ℕ) (shut : Bool) → HasRequest input h target body rest → input ≡ start ++ rest
      → ((more : List ℕ) → HasRequest (start ++ more) h target body more) → HandlesHead x h target body text shut y → Answered x input rest (continue_text (asks_to_continue h) ++ text) shut y
  answered x y input rest text h target body start true r read alone (inl may) = closed x input h target body rest text y r may
  answered x y input rest text h target body start true r read alone (inr (same, shut, kept)) =
      let m = r.message in
      rw (same, kept) (out_of_memory x input (continue_text (asks_to_continue h)) (is_head h.method)
      (record { head = h; rest = m.text; framing = m.framing; stands = m.head; judges = m.judges; shown = refl }) (inl (record { head = h; rest = m.text; stands = m.head; asked = refl })))
  answered x y input rest text h target body start false r read alone (inl may) = record {
    prefix = start;
    read = read;
    asked = λ later c a. Asks.later (start ++ later) h target body later c (alone later) a;
    on = λ later more n shut z talk. went x (start ++ later) h target body later text y more n shut z (alone later) may talk;
  }
  answered x y input rest text h target body start false r read alone (inr (same, shut, kept)) = absurd (cc)

  -- what came next was answered so
  pub answered_by : (x y : X) (i : Asked) (input rest interim unsent pending text : List ℕ) (shut : Bool) → NextCame input (Ok (Some i)) rest interim unsent pending → Handled commands asks x i text shut y
      → Answered x input rest (interim ++ text) shut y × (unsent ≡ pending)
  answered_by x y (asked.List closes) input rest interim unsent pending text shut n handles =
      let is = n.0 in
      let head : HandlesHead x is.head (codes "/plans") [] text shut y = rw (← is.named, ← is.shuts) handles in
      (subst (λ (sent : List ℕ). Answered x input rest (sent ++ text) shut y) (sym (n.1 ∙ is.asks)) (answered x y input rest text is.head (codes "/plans") [] is.prefix shut is.request is.cut is.alone head), n.2)
  answered_by x y (asked.Of (came.Request r)) input rest interim unsent pending text shut n handles =
      let is = n.1.0 in
      let head : HandlesHead x is.head r.target.items r.body.items text shut y = rw (← is.method, ← is.closes) handles in
      (subst (λ (sent : List ℕ). Answered x input rest (sent ++ text) shut y) (sym n.1.1) (answered x y input rest text is.head r.target.items r.body.items is.prefix shut is.request is.cut is.alone head), n.2)
  answered_by x y (asked.Of (came.Refused f head_only)) input rest interim unsent pending text shut n (same, shuts, kept) = (rw (same, shuts, kept) (refused x input interim f head_only n.1.0 n.1.1), n.2)
  answered_by x y (asked.Of (came.OutOfMemory head_only)) input rest interim unsent pending text shut n (same, shuts, kept) = (rw (same, shuts, kept) (out_of_memory x input interim head_only n.1.0 n.1.1), n.2)
  answered_by x y (asked.Of came.End) input rest interim unsent pending text shut n handles = absurd n.0

  -- the same where the answer was not written whole
  gone : (x y : X) (input rest output : List ℕ) → GoesOn commands asks x input rest output y → IsPrefixTalk commands asks x input output y
  gone x y input rest output g = record {
    prefix = g.prefix;
    unread = rest;
    read = g.read;
    count = 1;
    shut = false;
    talk = moved x y false (g.prefix ++ []) g.prefix (output ++ []) output 1 1 (append-nil g.prefix) (append-nil output) refl (g.on [] [] 0 false y (over y));
  }

  -- the answer was put after what waits
  pub put : (x y : X) (old mid new left : Option (List ℕ)) (input rest before pending after interim text : List ℕ) (shut : Bool) (result : Result Next ServeFault) → Answered x input rest (interim ++ text) shut y
      → Queued old mid before pending interim → Puts mid new pending after shut result text
      → (output : List ℕ) × (unsent : List ℕ) × Queued old new before unsent output × Exchanges commands asks x result left input rest output y × Leaves result unsent after
  put x y old mid new left input rest before pending after interim text true (Ok next.Last) a q p = (interim ++ text, [], queued_then old mid new before pending [] interim text q p.1, a, refl)
  put x y old mid new left input rest before pending after interim text false (Ok next.Again) a q p = (interim ++ text, after, queued_then old mid new before pending after interim text q p.1, a, refl)
  put x y old mid new left input rest before pending after interim text true (Err fault.WriteFault) a q p = (
    interim ++ text,
    p.0,
    queued_then old mid new before pending p.0 interim text q p.1,
    record { prefix = input; unread = []; read = sym (append-nil input); count = 1; shut = true; talk = a },
    tt,
  )
  put x y old mid new left input rest before pending after interim text false (Err fault.WriteFault) a q p = (interim ++ text, p.0, queued_then old mid new before pending p.0 interim text q p.1, gone x y input rest (interim ++ text) a, tt)
  put x y old mid new left input rest before pending after interim text false (Ok next.Last) a q p = absurd (cc (p.0))
  put x y old mid new left input rest before pending after interim text true (Ok next.Again) a q p = absurd (cc (p.0))
  put x y old mid new left input rest before pending after interim text shut _ a q p = absurd p

  -- no answer was due
  pub unanswered : (x : X) (input interim : List ℕ) → IsUnanswered input interim → Talk commands asks x input interim 0 false x
  unanswered x input interim (inl (none, same)) = moved x x false [] input [] interim 0 0 (sym none) (sym same) refl (over x)
  unanswered x input interim (inr (lacks, due)) = ended x input interim lacks due

  -- the writer failed before an answer
  pub cut_next : (x : X) (input interim : List ℕ) → CutsNext input interim → IsPrefixTalk commands asks x input interim x
  cut_next x input interim c = record { prefix = c.prefix; unread = c.unread; read = c.read; count = 0; shut = false; talk = unanswered x c.prefix interim c.due }

  -- reading was cut short before an answer
  pub cut_short : (x : X) (input interim : List ℕ) → IsUnanswered input interim ⊎ IsCutShort input interim → IsShortTalk commands asks x input interim x
  cut_short x input interim (inl c) = inl (0, unanswered x input interim c)
  cut_short x input interim (inr (inl c)) = inl (0, ended x input interim c.0 c.1)
  cut_short x input interim (inr (inr (c, none))) = search (rules, moved)

  -- where a stream stands: the requests that were taken and answered, what is in the inbox, and the answers that wait
  pub record Stands (x0 : X) (unread0 unread before0 before : Option (List ℕ)) (x : X) (read_buffer pending : List ℕ) (requests : ℕ) : Type 0 where
    pub taken : List ℕ
    pub output : List ℕ
    pub read : Consumes unread0 unread (taken ++ read_buffer)
    pub written : Queued before0 before [] pending output
    pub asked : (later : List ℕ) (c : Command) → Asks later c → Asks (taken ++ later) c
    pub on : (later more : List ℕ) (n : ℕ) (shut : Bool) (z : X) → Talk commands asks x later more n shut z → Talk commands asks x0 (taken ++ later) (output ++ more) (requests + n) shut z

  pub starts : (x : X) (unread before : Option (List ℕ)) (read_buffer pending : List ℕ) → read_buffer ≡ [] → pending ≡ [] → Consumes unread unread [] → Stands x unread unread before before x read_buffer pending 0
  starts x unread before read_buffer pending e f none = record {
    taken = [];
    output = [];
    read = rw e none;
    written = ([], Appends-nil before, sym f);
    asked = λ later c a. a;
    on = λ later more n shut z talk. moved x z shut later later more more n (0 + n) refl refl (omega arith) talk;
  }

  -- all that was read by the end of an exchange
  pub all_read : (u v w : Option (List ℕ)) (taken read_buffer came : List ℕ) → Consumes u v (taken ++ read_buffer) → Consumes v w came → Consumes u w (taken ++ (read_buffer ++ came))
  all_read u v w taken read_buffer came a b = rw (← append_assoc taken read_buffer came) (Consumes-trans u v w (taken ++ read_buffer) came a b)

  -- what the inbox and the reader ask for, the stream's reader asked for
  pub asked_of : (x0 x : X) (u v b0 b1 : Option (List ℕ)) (read_buffer pending : List ℕ) (requests : ℕ) (c : Command) → Stands x0 u v b0 b1 x read_buffer pending requests → IsAskedAfter read_buffer v c → IsAskedIn u c
  asked_of x0 x u v b0 b1 read_buffer pending requests c s a = (a.0, s.taken ++ (read_buffer ++ a.1), all_read u v a.0 s.taken read_buffer a.1 s.read a.2, s.asked (read_buffer ++ a.1) c a.3)

  pub goes : (x0 x y : X) (u v w b0 b1 b2 : Option (List ℕ)) (read_buffer rest pending after came sent unsent : List ℕ) (requests : ℕ) → Stands x0 u v b0 b1 x read_buffer pending requests → Consumes v w came
      → Queued b1 b2 pending unsent sent → GoesOn commands asks x (read_buffer ++ came) rest sent y → unsent ≡ after → Stands x0 u w b0 b2 y rest after (requests + 1)
  goes x0 x y u v w b0 b1 b2 read_buffer rest pending after came sent unsent requests s read write g e = record {
    taken = s.taken ++ g.prefix;
    output = s.output ++ sent;
    read = rw (append_assoc s.taken g.prefix rest, ← g.read) (all_read u v w s.taken read_buffer came s.read read);
    written = queued_as b0 b2 [] unsent after (s.output ++ sent) e (queued_then b0 b1 b2 [] pending unsent s.output sent s.written write);
    asked = λ later c a. subst (λ (t : List ℕ). Asks t c) (sym (append_assoc s.taken g.prefix later)) (s.asked (g.prefix ++ later) c (g.asked later c a));
    on = λ later more n shut z talk. moved x0 z shut _ _ _ _ (requests + suc n) ((requests + 1) + n) (sym (append_assoc s.taken g.prefix later)) (sym (append_assoc s.output sent more)) (omega arith)
        (s.on (g.prefix ++ later) (sent ++ more) (suc n) shut z (g.on later more n shut z talk));
  }

  -- the stream ends so with all that was read, and all that waits is sent
  pub ends : (Says : List ℕ → List ℕ → Type 0) (x0 x : X) (u v w b0 b1 b2 : Option (List ℕ)) (read_buffer pending came sent unsent : List ℕ) (requests : ℕ) (s : Stands x0 u v b0 b1 x read_buffer pending requests) → Consumes v w came
      → Queued b1 b2 pending unsent sent → unsent ≡ [] → Says (s.taken ++ (read_buffer ++ came)) (s.output ++ sent) → (input : List ℕ) × (output : List ℕ) × Consumes u w input × Appends b0 b2 output × Says input output
  ends Says x0 x u v w b0 b1 b2 read_buffer pending came sent unsent requests s read write none told = (
    s.taken ++ (read_buffer ++ came),
    s.output ++ sent,
    all_read u v w s.taken read_buffer came s.read read,
    queued_all b0 b2 (s.output ++ sent) (queued_as b0 b2 [] unsent [] (s.output ++ sent) none (queued_then b0 b1 b2 [] pending unsent s.output sent s.written write)),
    told,
  )

  -- reading was cut short after all that was answered before
  shortly : (x0 x y : X) (u v b0 b1 : Option (List ℕ)) (read_buffer pending input sent : List ℕ) (requests : ℕ) (s : Stands x0 u v b0 b1 x read_buffer pending requests) → IsShortTalk commands asks x input sent y
      → IsShortTalk commands asks x0 (s.taken ++ input) (s.output ++ sent) y
  shortly x0 x y u v b0 b1 read_buffer pending input sent requests s (inl (n, talk)) = inl (requests + n, s.on input sent n false y talk)
  shortly x0 x y u v b0 b1 read_buffer pending input sent requests s (inr c) = inr (record {
    taken = s.taken ++ c.taken;
    rest = c.rest;
    read = ap (λ (t : List ℕ). s.taken ++ t) c.read ∙ sym (append_assoc s.taken c.taken c.rest);
    cut = c.cut;
    count = requests + c.count;
    on = λ later more n shut z talk. moved x0 z shut _ _ _ _ (requests + (c.count + n)) ((requests + c.count) + n) (sym (append_assoc s.taken c.taken later)) (sym (append_assoc s.output sent more)) (omega arith)
        (s.on (c.taken ++ later) (sent ++ more) (c.count + n) shut z (c.on later more n shut z talk));
  })

  -- or within an answer
  pub ends_cut : (x0 x y : X) (u v w b0 b1 b2 : Option (List ℕ)) (read_buffer pending came sent unsent : List ℕ) (requests : ℕ) → Stands x0 u v b0 b1 x read_buffer pending requests → Consumes v w came
      → Queued b1 b2 pending unsent sent → IsPrefixTalk commands asks x (read_buffer ++ came) sent y
      → (input : List ℕ) × (output : List ℕ) × Consumes u w input × Appends b0 b2 output × IsCutTalk commands asks x0 input output y
  ends_cut x0 x y u v w b0 b1 b2 read_buffer pending came sent unsent requests s read write c =
      let all = queued_then b0 b1 b2 [] pending unsent s.output sent s.written write in (
        s.taken ++ (read_buffer ++ came),
        all.0,
        all_read u v w s.taken read_buffer came s.read read,
        all.1,
        record {
          answers = s.output ++ sent;
          unwritten = unsent;
          written = all.2;
          over_prefix = record {
            prefix = s.taken ++ c.prefix;
            unread = c.unread;
            read = ap (λ (t : List ℕ). s.taken ++ t) c.read ∙ sym (append_assoc s.taken c.prefix c.unread);
            count = requests + c.count;
            shut = c.shut;
            talk = s.on c.prefix sent c.count c.shut y c.talk;
          };
        },
      )

  -- a fault of an exchange ends the stream
  pub fails : (x0 x y : X) (u v w b0 b1 b2 : Option (List ℕ)) (read_buffer rest pending after came sent unsent : List ℕ) (requests : ℕ) (e : ServeFault) → Stands x0 u v b0 b1 x read_buffer pending requests → Consumes v w came
      → Queued b1 b2 pending unsent sent → Exchanges commands asks x (Err e) w (read_buffer ++ came) rest sent y → Leaves (Err e) unsent after
      → (input : List ℕ) × (output : List ℕ) × Consumes u w input × Appends b0 b2 output × ServesTo commands asks x0 (Err e) w input output y
  fails x0 x y u v w b0 b1 b2 read_buffer rest pending after came sent unsent requests fault.WriteFault s read write t none = ends_cut x0 x y u v w b0 b1 b2 read_buffer pending came sent unsent requests s read write t
  fails x0 x y u v w b0 b1 b2 read_buffer rest pending after came sent unsent requests fault.Memory s read write t none = absurd t
  fails x0 x y u v w b0 b1 b2 read_buffer rest pending after came sent unsent requests _ s read write t none =
      ends (λ input output. IsShortTalk commands asks x0 input output y) x0 x u v w b0 b1 b2 read_buffer pending came sent unsent requests s read write none (shortly x0 x y u v b0 b1 read_buffer pending (read_buffer ++ came) sent requests s t)

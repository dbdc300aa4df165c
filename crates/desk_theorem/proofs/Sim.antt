-- A talk at a clerk, seen without the store; and what is known of a stream's life doesn't depend on how often the device failed before.
use Rattle.{std.{specs.Prelude.⊤, proofs.lemmas.List.append-nil}, desk_model.specs.{claim.{Desk.Desk, Step.step}, declared.command.{Command.Command, Query.Query}}}
use Rattle.std.proofs.Common.{◌≡◌, ◌⊎◌, ◌≤◌, ◌<◌, ℕ, Bool, true, false, List, [], Option, Result, Ok, Err, ◌+◌, inl, inr, ⊎_elim, refl, sym, ap, subst, ◌∙◌, arith}
use Rattle.{desk_model.specs.declared.reply.Reply.Reply, desk_store_catalogue.specs.claim.Audits.AskMay, desk_store_pages.specs.claim.Desks.OpensDesk}
use Rattle.{desk_theorem.specs.claim.Streams.{State, working, failed, shown_in, left_in, Takes, Looks, Ends, HasCause, ServedAs, Streamed}, sector_device.specs.claim.Disk.Image}
use Rattle.desk_theorem_lives.specs.{DeskInside.LivedThrough, desk_store.{claim.Clerks.{desk_of, disk_of, is_halted, pages_of, sectors_of, Keeps}, declared.clerk.Clerk.Clerk}}
use Rattle.{desk_theorem_lives.specs.desk_store.claim.Commands.{Does, MustBeFull, MayBeFull}, http_desk.specs.streams.claim.Serving.{Serves, ServesTo, IsShortTalk, IsPrefixTalk}}
use Rattle.http_desk.specs.streams.{claim.Talk.{Talk, MayAnswer}, declared.serve.{ServeFault.ServeFault, Served.Served}, http_wire.claim.Prefix.{closes_after, is_head}}
use Rattle.{http_desk.specs.streams.routes.{claim.Orders.order_of, declared.order.Order.Order}, sector_device.{specs.declared.SectorDevice.Ghosts, proofs.Moments.leaves_now}}
use Rattle.desk_theorem_lives.proofs.DeskLiving.{either, calm, halt, clash_of, left_working}
use Rattle.http_desk.specs.streams.routes.declared.order.Order.TheVariants as order
use Rattle.http_desk.specs.streams.declared.serve.ServeFault.TheVariants as fault

-- ---- talks in which a query leaves all as it is
module _ {X : Type 0} (does : X → Command → Reply → X → Type 0) (asks : X → Query → Reply → X → Type 0) where
  -- a short talk is one over a prefix
  prefix_of : (x : X) (input output : List ℕ) (y : X) → IsShortTalk does asks x input output y → IsPrefixTalk does asks x input output y
  prefix_of x input output y (inl talk) = record { prefix = input; unread = []; read = sym (append-nil input); count = talk.0; shut = false; talk = talk.1 }
  prefix_of x input output y (inr cut) = record {
    prefix = cut.taken;
    unread = cut.rest;
    read = cut.read;
    count = cut.count + 0;
    shut = false;
    talk = rw (append-nil cut.taken, append-nil output) at (cut.on [] [] 0 false y (Talk.over y));
  }

  -- what is known of the end, and so before each command, is known of the beginning
  module _ (quiet : (x : X) (q : Query) (r : Reply) (y : X) → asks x q r y → y ≡ x) (Good : X → Type 0) (back : (x : X) (c : Command) (r : Reply) (y : X) → does x c r y → Good y → Good x) where
    may_good : (x : X) (o : Order) (closing head_only : Bool) (text : List ℕ) (shut : Bool) (y : X) → MayAnswer does asks x o closing head_only text shut y → Good y → Good x
    may_good x (order.Command c) closing head_only text shut y may good = back x c may.0 y may.1 good
    may_good x (order.Query q) closing head_only text shut y may good = subst Good (quiet x q may.0 y may.1) good
    may_good x (order.Refused e) closing head_only text shut y may good = subst Good may.2 good

    talk_good : (x : X) (input output : List ℕ) (n : ℕ) (shut : Bool) (z : X) → Talk does asks x input output n shut z → Good z → Good x
    talk_good x _ _ _ _ _ (Talk.closed _ input h target body rest text y has may) good =
        may_good x (order_of h.method target body) (closes_after h) (is_head h.method) text true y may good
    talk_good x _ _ _ _ _ (Talk.went _ input h target body rest text y output n shut z has may talk) good =
        may_good x (order_of h.method target body) (closes_after h) (is_head h.method) text false y may (talk_good y rest output n shut z talk good)
    talk_good x _ _ _ _ _ _ good = good

    prefix_good : (x : X) (input answers : List ℕ) (y : X) → IsPrefixTalk does asks x input answers y → Good y → Good x
    prefix_good x input answers y f good = talk_good x f.prefix answers f.count f.shut y f.talk good

    served_good : (x : X) (result : Result Served ServeFault) (left : Option (List ℕ)) (input output : List ℕ) (y : X) → ServesTo does asks x result left input output y → Good y → Good x
    served_good x (Ok served) left input output y serves good = talk_good x input output served.requests serves.0 y serves.1 good
    served_good x (Err fault.ReadFault) left input output y serves good = prefix_good x input output y (prefix_of x input output y serves) good
    served_good x (Err fault.TurnLimit) left input output y serves good = prefix_good x input output y (prefix_of x input output y serves) good
    served_good x (Err fault.WriteFault) left input output y serves good = prefix_good x input serves.answers y serves.over_prefix good
    served_good x (Err fault.Memory) left input output y serves good = subst Good serves.2 good

    -- seen as a state, as each command and each query is
    module _ (t u : ℕ) (Sees : X → State → Type 0) (takes : (x : X) (s : State) (c : Command) (r : Reply) (y : X) → does x c r y → Good y → Sees x s → (end : State) × Takes t u s c r end × Sees y end) (looks : (x : X) (s : State) (q : Query) (r : Reply) (y : X) → asks x q r y → Sees x s → AskMay (shown_in s) q r) where
      answered : (x : X) (s : State) (o : Order) (closing head_only : Bool) (text : List ℕ) (shut : Bool) (y : X) → MayAnswer does asks x o closing head_only text shut y → Good y → Sees x s
          → (end : State) × MayAnswer (Takes t u) Looks s o closing head_only text shut end × Sees y end
      answered x s (order.Command c) closing head_only text shut y may good sees =
          let there = takes x s c may.0 y may.1 good sees in
          (there.0, (may.0, there.1, may.2), there.2)
      answered x s (order.Query q) closing head_only text shut y may good sees =
          (s, (may.0, (looks x s q may.0 y may.1 sees, refl), may.2), rw (quiet x q may.0 y may.1) sees)
      answered x s (order.Refused e) closing head_only text shut y may good sees = (s, (may.0, may.1, refl), rw may.2 sees)

      talk_seen : (x : X) (input output : List ℕ) (m : ℕ) (shut : Bool) (z : X) → Talk does asks x input output m shut z → Good z → (s : State) → Sees x s
          → (end : State) × Talk (Takes t u) Looks s input output m shut end × Sees z end
      talk_seen x _ _ _ _ _ (Talk.over _) good s sees = (s, Talk.over s, sees)
      talk_seen x _ _ _ _ _ (Talk.ended _ input interim cut line) good s sees = (s, Talk.ended s input interim cut line, sees)
      talk_seen x _ _ _ _ _ (Talk.out_of_memory _ input interim head_only out_of_memory line) good s sees = (s, Talk.out_of_memory s input interim head_only out_of_memory line, sees)
      talk_seen x _ _ _ _ _ (Talk.refused _ input interim f head_only has line) good s sees = (s, Talk.refused s input interim f head_only has line, sees)
      talk_seen x _ _ _ _ _ (Talk.closed _ input h target body rest text y has may) good s sees =
          let here = answered x s (order_of h.method target body) (closes_after h) (is_head h.method) text true y may good sees in
          (here.0, Talk.closed s input h target body rest text here.0 has here.1, here.2)
      talk_seen x _ _ _ _ _ (Talk.went _ input h target body rest text y output m shut z has may talk) good s sees =
          let here = answered x s (order_of h.method target body) (closes_after h) (is_head h.method) text false y may (talk_good y rest output m shut z talk good) sees in
          let later = talk_seen y rest output m shut z talk good here.0 here.2 in
          (later.0, Talk.went s input h target body rest text here.0 output m shut later.0 has here.1 later.1, later.2)

      prefix_seen : (x : X) (input answers : List ℕ) (y : X) → IsPrefixTalk does asks x input answers y → Good y → (s : State) → Sees x s → (end : State) × IsPrefixTalk (Takes t u) Looks s input answers end × Sees y end
      prefix_seen x input answers y f good s sees =
          let there = talk_seen x f.prefix answers f.count f.shut y f.talk good s sees in
          (there.0, record { prefix = f.prefix; unread = f.unread; read = f.read; count = f.count; shut = f.shut; talk = there.1 }, there.2)

      served_seen : (x : X) (result : Result Served ServeFault) (unread : Option (List ℕ)) (input output : List ℕ) (y : X) → ServesTo does asks x result unread input output y → Good y → (s : State) → Sees x s
          → (end : State) × ServedAs t u s result unread input output end × Sees y end
      served_seen x (Ok served) unread input output y serves good s sees =
          let there = talk_seen x input output served.requests serves.0 y serves.1 good s sees in
          (there.0, (serves.0, there.1, serves.2), there.2)
      served_seen x (Err fault.ReadFault) unread input output y serves good s sees = prefix_seen x input output y (prefix_of x input output y serves) good s sees
      served_seen x (Err fault.TurnLimit) unread input output y serves good s sees = prefix_seen x input output y (prefix_of x input output y serves) good s sees
      served_seen x (Err fault.WriteFault) unread input output y serves good s sees =
          let there = prefix_seen x input serves.answers y serves.over_prefix good s sees in
          (there.0, record { answers = serves.answers; unwritten = serves.unwritten; written = serves.written; over_prefix = there.1 }, there.2)
      served_seen x (Err fault.Memory) unread input output y serves good s sees = (s, (serves.0, serves.1, refl), rw serves.2 sees)

-- ---- A talk at a clerk. The device of n sectors had failed t times before a life, and u times in its end, and then a stop leaves this image.
module _ {D : Type 0} {g : Ghosts D} where
  -- what a clerk is at a counter: commands are done, and a query changes nothing
  abbrev DoesAtCounter : Clerk D g → Command → Reply → Clerk D g → Type 0
  DoesAtCounter x c r y = Does x c r y

  abbrev AsksAtCounter : Clerk D g → Query → Reply → Clerk D g → Type 0
  AsksAtCounter x q r y = AskMay (desk_of x) q r × (y ≡ x)

  module _ (t u n : ℕ) (i : Image) where
    -- where a clerk has halted nothing changes
    abbrev Lasts : Clerk D g → Type 0
    Lasts y = (disk_of y).is_honest × (is_halted y ≡ true → (disk_of y).leaves i × ((disk_of y).faults ≡ u))

    lasted : (x : Clerk D g) (c : Command) (r : Reply) (y : Clerk D g) → Does x c r y → Lasts y → Lasts x
    lasted x c r y does lasts = (does.moves.honest lasts.0, λ on. (let still = does.moves.still on in rw still.0 at (lasts.1 still.2)))

    -- a state as which a clerk is seen
    abbrev Sees : Clerk D g → State → Type 0
    Sees x (working d) = (is_halted x ≡ false) × Keeps x × (desk_of x ≡ d) × (sectors_of x ≡ n) × ((disk_of x).faults ≡ t)
    Sees x (failed shown left) = (is_halted x ≡ true) × (desk_of x ≡ shown) × OpensDesk n left i × (t < (disk_of x).faults)

    shown_is : (x : Clerk D g) (s : State) → Sees x s → desk_of x ≡ shown_in s
    shown_is x (working d) sees = sees.2
    shown_is x (failed shown left) sees = sees.1

    commanded : (x : Clerk D g) (s : State) (c : Command) (r : Reply) (y : Clerk D g) → Does x c r y → Lasts y → Sees x s → (end : State) × Takes t u s c r end × Sees y end
    commanded x (failed shown left) c r y does lasts sees =
        let still = does.moves.still sees.0 in
        let ends = halt (MustBeFull x c) (MayBeFull x (pages_of y) c) (is_halted y ≡ true) (desk_of x) c r (desk_of y) still.2 does.outcome in
        (failed (desk_of y) left, (ends.0, ends.1 ∙ sees.1, refl), (still.2, refl, sees.2, rw still.0 sees.3))
    commanded x (working d) c r y does lasts sees = elim (either (is_halted y)) [
      | inr works ↦ (
          let may = calm (MustBeFull x c) (MayBeFull x (pages_of y) c) (is_halted y ≡ true) (desk_of x) c r (desk_of y) (λ on. clash_of (is_halted y) on works) does.outcome in
          let seen : Sees y (working (desk_of y)) = (works, does.moves.keeps sees.1, refl, does.moves.sectors ∙ sees.3, does.moves.calm works lasts.0 ∙ sees.4) in
          (working (desk_of y), rw sees.2 at may, seen))
      | inl on ↦ (
          let ends = halt (MustBeFull x c) (MayBeFull x (pages_of y) c) (is_halted y ≡ true) (desk_of x) c r (desk_of y) on does.outcome in
          let rose : t < (disk_of y).faults = rw sees.4 at (does.moves.rose sees.1 sees.0 on lasts.0) in
          let more : t < u = rw (lasts.1 on).1 at rose in
          let fails : (e : Desk) → (e ≡ d) ⊎ (e ≡ (step d c).1) → OpensDesk (sectors_of x) e i → (end : State) × Takes t u (working d) c r end × Sees y end
          = λ e is opens. (failed (desk_of y) e, (more, ends.0, ends.1 ∙ sees.2, is), (on, refl, rw sees.3 at opens, rose)) in
          ⊎_elim
          (λ opens. fails (desk_of x) (inl sees.2) opens)
          (λ opens. fails (step (desk_of x) c).1 (inr (λ k. (step (sees.2 k) c).1)) opens)
          (leaves_now _ _ _ (does.moves.any_moment sees.1 sees.0 lasts.0) i (lasts.1 on).0))
    ]

    served_from : (x : Clerk D g) (d : Desk) (result : Result Served ServeFault) (unread : Option (List ℕ)) (input output : List ℕ) (y : Clerk D g) → ServesTo DoesAtCounter AsksAtCounter x result unread input output y
        → Lasts y → Sees x (working d) → (end : State) × ServedAs t u (working d) result unread input output end × Sees y end
    served_from x d result unread input output y serves lasts sees =
        served_seen DoesAtCounter AsksAtCounter (λ x q r y asks. asks.1) Lasts lasted t u Sees commanded
        (λ x s q r y asks sees. subst (λ (e : Desk). AskMay e q r) (shown_is x s sees) asks.0) x result unread input output y serves lasts (working d) sees

    left_is : (y : Clerk D g) (s : State) → (disk_of y).is_honest → (disk_of y).leaves i → Sees y s → OpensDesk n (left_in s) i
    left_is y (working d) honest left sees = rw (sees.2, sees.3) at (left_working (is_halted y) (sectors_of y) (desk_of y) i sees.0 (sees.1.left honest i left))
    left_is y (failed shown left_desk) honest left sees = sees.2

    no_less : (y : Clerk D g) (s : State) → Sees y s → t ≤ (disk_of y).faults
    no_less y (working d) sees = let same = sees.4 in omega (arith, same)
    no_less y (failed shown left) sees = let more = sees.3 in omega (arith, more)

-- a clerk that served a stream
pub stream_lived : {D : Type 0} {g : Ghosts D} → (x y : Clerk D g) (old new : Ends) (served : Result Served ServeFault) → Serves DoesAtCounter AsksAtCounter x served y old.unread new.unread old.written new.written → HasCause old new served
    → LivedThrough (λ t u d e. Streamed t u d old new served e) x y
stream_lived {D} {g} x y old new served serves cause =
    let t = (disk_of x).faults in
    let u = (disk_of y).faults in
    let n = sectors_of x in
    let now = (disk_of y).reads in
    let known : (Good : Clerk D g → Type 0) → ((a : Clerk D g) (c : Command) (r : Reply) (b : Clerk D g) → Does a c r b → Good b → Good a) → Good y → Good x
    = λ Good back. served_good DoesAtCounter AsksAtCounter (λ a q r b asks. asks.1) Good back x served new.unread serves.0 serves.1 y serves.4 in
    let seen : ((i : Image) → Keeps x → is_halted x ≡ false → (disk_of y).is_honest → (disk_of y).leaves i
    → (end : State) × ServedAs t u (working (desk_of x)) served new.unread serves.0 serves.1 end × Sees t u n i y end)
    = λ i keeps off honest left.
    served_from t u n i x (desk_of x) served new.unread serves.0 serves.1 y serves.4 (honest, λ on. (left, refl)) (off, keeps, refl, refl, refl) in
    record {
      sectors = sym (known (λ z. sectors_of z ≡ sectors_of y) (λ a c r b does same. sym does.moves.sectors ∙ same) refl);
      honest = λ honest. (known (Lasts t u n now) (lasted t u n now) (honest, λ on. ((disk_of y).as_read, refl))).0;
      faults = λ keeps off honest. (let there = seen now keeps off honest (disk_of y).as_read in no_less t u n now y there.0 there.2);
      lived = λ keeps off honest i left.
          (let there = seen i keeps off honest left in (
            left_in there.0,
            record { input = serves.0; output = serves.1; reads = serves.2; writes = serves.3; cause = cause; end = there.0; talk = there.1; left = refl },
            left_is t u n i y there.0 honest left there.2,
          ));
    }

-- ---- a stream's life, however often the device failed before
module _ (t u s v : ℕ) (more : t < u → s < v) where
  takes_later : (x : State) (c : Command) (r : Reply) (y : State) → Takes t u x c r y → Takes s v x c r y
  takes_later (working d) c r (failed shown left) is = (more is.0, is.1, is.2, is.3)
  takes_later (failed d e) c r (working next) is = is
  takes_later _ c r _ is = is

  takes_as : (a b : State) (c : Command) (r : Reply) (y : State) → Takes t u a c r y → ⊤ → a ≡ b → (end : State) × Takes s v b c r end × (y ≡ end)
  takes_as a b c r y is good same = (y, subst (λ (x : State). Takes s v x c r y) same (takes_later a c r y is), refl)

  looks_as : (a b : State) (q : Query) (r : Reply) (y : State) → Looks a q r y → a ≡ b → AskMay (shown_in b) q r
  looks_as a b q r y is same = subst (λ (x : State). AskMay (shown_in x) q r) same is.0

  talk_later : (x : State) (input output : List ℕ) (n : ℕ) (shut : Bool) (y : State) → Talk (Takes t u) Looks x input output n shut y → (end : State) × Talk (Takes s v) Looks x input output n shut end × (y ≡ end)
  talk_later x input output n shut y talk =
      talk_seen (Takes t u) Looks (λ a q r b is. is.1) (λ a. ⊤) (λ a c r b is good. tt) s v (λ a b. a ≡ b) takes_as looks_as x input output n shut y talk tt x refl

  prefix_later : (x : State) (input answers : List ℕ) (y : State) → IsPrefixTalk (Takes t u) Looks x input answers y → (end : State) × IsPrefixTalk (Takes s v) Looks x input answers end × (y ≡ end)
  prefix_later x input answers y f =
      let there = talk_later x f.prefix answers f.count f.shut y f.talk in
      (there.0, record { prefix = f.prefix; unread = f.unread; read = f.read; count = f.count; shut = f.shut; talk = there.1 }, there.2)

  served_later : (x : State) (served : Result Served ServeFault) (left : Option (List ℕ)) (input output : List ℕ) (y : State) → ServedAs t u x served left input output y → (end : State) × ServedAs s v x served left input output end × (y ≡ end)
  served_later x (Ok served) left input output y is =
      let there = talk_later x input output served.requests is.0 y is.1 in
      (there.0, (is.0, there.1, is.2), there.2)
  served_later x (Err fault.ReadFault) left input output y is = prefix_later x input output y is
  served_later x (Err fault.TurnLimit) left input output y is = prefix_later x input output y is
  served_later x (Err fault.WriteFault) left input output y is =
      let there = prefix_later x input is.answers y is.over_prefix in
      (there.0, record { answers = is.answers; unwritten = is.unwritten; written = is.written; over_prefix = there.1 }, there.2)
  served_later x (Err fault.Memory) left input output y is = (y, is, refl)

  pub streamed_later : (d : Desk) (old new : Ends) (served : Result Served ServeFault) (e : Desk) → Streamed t u d old new served e → Streamed s v d old new served e
  streamed_later d old new served e is =
      let there = served_later (working d) served new.unread is.input is.output is.end is.talk in
      let left = ap left_in (sym there.2) ∙ is.left in
      record { input = is.input; output = is.output; reads = is.reads; writes = is.writes; cause = is.cause; end = there.0; talk = there.1; left = left }

-- The events of an office: its changes in their order, and after each of them the calls that heard of just so many.
use Rattle.std.{specs.Bool.⊤, proofs.lemmas.{Bool.cases_eq, List.{append-nil, map-append, map-set, length-map, set_at, take_all, take_at, get_or_at, get_or-set_other}}}
use Rattle.std.proofs.Common.{map-id, eq-eqb, ne_eqb, lt-ltb, le_refl, ◌≡◌, ℕ, zero, suc, ◌+◌, ◌≤◌, ◌<◌, ◌==◌, ◌&&◌, if◌then◌else◌, nat_lt, max, Bool, true, false, List, [], ◌∷◌, ◌++◌, length, take, map, get_or, All, replicate, slice_get, slice_set, Some, refl, sym, ap, ◌∙◌, subst, ⊎_elim, arith, append_assoc, length-append}
use Rattle.std.proofs.lemmas.{List.{Elements.{All-nil, All-cons, All-head, All-tail, All-more, All-map, All-weaker}, Sums.fold-append}, Simd.{map-map, splat_is_map}}
use Rattle.{std.proofs.lemmas.Option.{slice_get-map, slice_get_read, get_or_from_slice_get}, desk_model.specs.claim.{Desk.Desk, Outcome.IsAcceptance, Step.step}}
use Rattle.{desk_model.specs.declared.{command.{Command.Command, Query.Query}, reply.Reply.Reply}, desk_theorem.specs.Runs.{Grows, AreWithin, HasRunsWithin, IsReached, OfficeLaw}}
use Rattle.desk_theorem.specs.claim.{Law.{IsNoStop, IsLawful, CoreLaw}, Runs.{standing, beginning, Heard, list_of, heard_of, answers, answer_at, answers_in, Rises, HasRuns}}
use Rattle.desk_theorem.{specs.{claim.World.{World, world, accepts, move, run, shown_list, seen, seen_at}, declared.event.Event.Event}, proofs.Core.prefix_trans}
use Rattle.{desk_theorem.specs.declared.event.Event.TheVariants.{Commit, Acknowledge, Show, Visit, Learn}, http_desk.specs.seats.desk_gallery.claim.After.after}
use Rattle.{http_desk.specs.seats.desk_gallery.claim.Working.AreAccepted, desk_theorem.proofs.Worlds.learnt_to}
use mathlib.Core.List.{IsPrefix}
use Rattle.desk_model.specs.declared.reply.Reply.TheVariants as reply

-- ---- beginnings
pub begins_length : (xs ys : List Command) → IsPrefix xs ys → length xs ≤ length ys
begins_length xs ys p = omega (arith, sym (ap length p.1) ∙ length-append xs p.0)

-- two beginnings of one list that are as long are the same
begins_same : (xs ys zs : List Command) → IsPrefix xs zs → IsPrefix ys zs → length xs ≡ length ys → xs ≡ ys
begins_same xs ys zs p q e = sym (take_at xs p.0 (length xs) refl) ∙ (ap (take (length xs)) (p.1 ∙ sym q.1) ∙ take_at ys q.0 (length xs) (sym e))

grows_within : (v : List Command) (calls : List Heard) (shown : List Command) → Grows v calls shown → IsPrefix v shown
grows_within v [] shown g = g
grows_within v (h ∷ calls) shown g = prefix_trans v (list_of h) shown g.0 (grows_within (list_of h) calls shown g.1)

-- the next call, if there is one, heard of at least so many
abbrev Late : ℕ → List Heard → Type 0
Late n [] = ⊤
Late n (h ∷ calls) = n ≤ length (list_of h)

grown_late : (v : List Command) (calls : List Heard) (shown : List Command) → Grows v calls shown → Late (length v) calls
grown_late v [] shown g = tt
grown_late v (h ∷ calls) shown g = begins_length v (list_of h) g.0

-- ---- moves, one after the other
abbrev Told : Type 0
Told = List (Query × List Command)

-- events lead from one world to another, none of them is a stop, and each visitor is answered so
record Leads (d : Desk) (old : World) (told : ℕ → Told) (new : World) : Type 0 where
  events : List Event
  goes : All IsNoStop events
  leads : run d old events ≡ new
  answered : (i : ℕ) → answers_in i d old events ≡ told i

stays : {d : Desk} {old new : World} {told : ℕ → Told} → old ≡ new → ((i : ℕ) → [] ≡ told i) → Leads d old told new
stays same none = record { events = []; goes = All-nil IsNoStop; leads = same; answered = none }

moves_on : {d : Desk} {old mid new : World} {later told : ℕ → Told} (e : Event) → IsNoStop e → move d old e ≡ mid → ((i : ℕ) → answer_at i old e ++ later i ≡ told i) → Leads d mid later new → Leads d old told new
moves_on {d} {old} e on is same rest = record {
  events = e ∷ rest.events;
  goes = All-cons IsNoStop e rest.events on rest.goes;
  leads = ap (λ w. run d w rest.events) is ∙ rest.leads;
  answered = λ i. ap (λ w. answer_at i old e ++ answers_in i d w rest.events) is ∙ (ap (λ l. answer_at i old e ++ l) (rest.answered i) ∙ same i);
}

-- Worlds in which all is shown: these changes, and these numbers of the visitors.
abbrev all_shown : List Command → List ℕ → World
all_shown now views = world now (length now) (length now) views

-- a change is written, acknowledged and shown
longer : (now : List Command) (c : Command) → length (now ++ c ∷ []) ≡ suc (length now)
longer now c = omega (arith, length-append now (c ∷ []))

accepts_is : (r : Reply) → IsAcceptance r → accepts r ≡ true
accepts_is (reply.Created name revisions) is = refl
accepts_is (reply.Retired name) is = refl
accepts_is _ is = absurd is

pub commit_moves : (d : Desk) (now : List Command) (views : List ℕ) (c : Command) → IsAcceptance (step (after d now) c).0 → move d (all_shown now views) (Commit c) ≡ world (now ++ c ∷ []) (length now) (length now) views
commit_moves d now views c accepted = rw (eq-eqb (length now) (length now) refl, accepts_is (step (after d now) c).0 accepted) refl

pub show_moves : (d : Desk) (now : List Command) (views : List ℕ) (c : Command) → run d (world (now ++ c ∷ []) (length now) (length now) views) (Acknowledge ∷ Show ∷ []) ≡ all_shown (now ++ c ∷ []) views
show_moves d now views c = let less = lt-ltb (length now) (length (now ++ c ∷ [])) (omega (arith, longer now c)) in rw (less, less) refl

-- A visitor with what it has heard of so far, and the calls that are left of it.
abbrev Seat : Type 0
Seat = List Command × List Heard

abbrev seats_of : List (List Heard) → List Seat
seats_of visitors = map (λ calls. ([], calls)) visitors

abbrev view : Seat → ℕ
view p = length p.0

abbrev last_view : Seat → ℕ
last_view p = length (heard_of p.0 p.1)

-- what each of them is answered in the calls that are left
abbrev told_of : List Seat → ℕ → Told
told_of seats i = answers (get_or seats i ([], [])).1

-- what one is told first, and then in the calls that are left
told_at : (i : ℕ) (done rest : List Seat) (p q : Seat) (first : Told) → (i ≡ length done → first ++ answers q.1 ≡ answers p.1) → ((i ≡ length done → ⊥) → first ≡ [])
    → first ++ told_of (done ++ q ∷ rest) i ≡ told_of (done ++ p ∷ rest) i
told_at i done rest p q first mine other = ⊎_elim
    (λ here. rw (get_or_at done q rest ([], []) i (sym here), get_or_at done p rest ([], []) i (sym here)) (mine here))
    (λ apart. rw (other apart, ← set_at done p rest q (length done) refl, get_or-set_other (done ++ p ∷ rest) (length done) i q ([], []) apart) refl)
    (cases_eq i (length done))

set_view : (done rest : List Seat) (p q : Seat) → slice_set (map view (done ++ p ∷ rest)) (length done) (view q) ≡ map view (done ++ q ∷ rest)
set_view done rest p q = sym (map-set view (done ++ p ∷ rest) (length done) q) ∙ ap (map view) (set_at done p rest q (length done) refl)

-- a call that heard of all that is shown
call_leads : {d : Desk} {new : World} (done rest : List Seat) (v : List Command) (h : Heard) (calls : List Heard) → IsPrefix v (list_of h)
    → Leads d (all_shown (list_of h) (map view (done ++ (list_of h, calls) ∷ rest))) (told_of (done ++ (list_of h, calls) ∷ rest)) new
    → Leads d (all_shown (list_of h) (map view (done ++ (v, h ∷ calls) ∷ rest))) (told_of (done ++ (v, h ∷ calls) ∷ rest)) new
call_leads done rest v (Heard.saw q l) calls begins later =
    let p : Seat = (v, Heard.saw q l ∷ calls) in
    let views = map view (done ++ p ∷ rest) in
    let there : length done < length views = omega (arith, length-map (done ++ p ∷ rest) view, length-append done (p ∷ rest)) in
    moves_on (Visit (length done) q) tt (ap (all_shown l) (set_view done rest p (l, calls)))
    (λ i. told_at i done rest p (l, calls) (answer_at i (all_shown l views) (Visit (length done) q))
    (λ here. rw (eq-eqb i (length done) here, lt-ltb (length done) (length views) there, take_all (length l) l (le_refl (length l))) refl)
    (λ apart. rw (ne_eqb i (length done) apart) refl)) later
call_leads {d} done rest v (Heard.told l) calls begins later =
    let p : Seat = (v, Heard.told l ∷ calls) in
    let all = done ++ p ∷ rest in
    let larger : length l ≡ max (length v) (length l) = (let le = begins_length v l begins in omega (arith, le)) in
    let there = slice_get_read all (length all) (length done) p refl (omega (arith, length-append done (p ∷ rest))) (sym (get_or_at done p rest p (length done) refl)) in
    let known : slice_get (map view all) (length done) ≡ Some (length v) = rw (slice_get-map, there) refl in
    moves_on (Learn (length done) (length l)) tt
    (sym (learnt_to d (all_shown l (map view all)) (length done) (length l) (length v) (length l) (le_refl (length l)) known larger)
    ∙ ap (all_shown l) (set_view done rest p (l, calls)))
    (λ i. told_at i done rest p (l, calls) [] (λ here. refl) (λ apart. refl)) later

-- ---- Along changes of which these are shown in the end, and perhaps one more is written.
module _ (d : Desk) (shown all : List Command) where
  -- the events of visitors, from these changes on
  abbrev Woven : List Command → List Seat → Type 0
  Woven now seats = Leads d (all_shown now (map view seats)) (told_of seats) (world all (length shown) (length shown) (map last_view seats))

  abbrev Fits : ℕ → Seat → Type 0
  Fits n p = Late n p.1 × Grows p.0 p.1 shown

  abbrev AllFit : ℕ → List Seat → Type 0
  AllFit n [] = ⊤
  AllFit n (p ∷ seats) = Fits n p × AllFit n seats

  first_fit : (visitors : List (List Heard)) → AreWithin shown visitors → AllFit 0 (seats_of visitors)
  first_fit [] within = tt
  first_fit (calls ∷ visitors) within =
      let here = All-head (λ c. Grows [] c shown) calls visitors within in
      ((grown_late [] calls shown here, here), first_fit visitors (All-tail (λ c. Grows [] c shown) calls visitors within))

  -- where all is shown that will be, no call is left
  none_left : (v : List Command) (calls : List Heard) → Late (suc (length shown)) calls → Grows v calls shown → [] ≡ calls
  none_left v [] late grows = refl
  none_left v (h ∷ calls) late grows =
      let within = begins_length (list_of h) shown (grows_within (list_of h) calls shown grows.1) in
      absurd (omega (arith, late, within))

  ended : (seats : List Seat) → AllFit (suc (length shown)) seats → map view seats ≡ map last_view seats
  ended [] fit = refl
  ended (p ∷ seats) fit = λ i. length (heard_of p.0 (none_left p.0 p.1 fit.0.0 fit.0.1 i)) ∷ ended seats fit.1 i

  none_told : (seats : List Seat) → AllFit (suc (length shown)) seats → (i : ℕ) → [] ≡ told_of seats i
  none_told [] fit i = refl
  none_told (p ∷ seats) fit zero = ap answers (none_left p.0 p.1 fit.0.0 fit.0.1)
  none_told (p ∷ seats) fit (suc i) = none_told seats fit.1 i

  -- the calls of one visitor that heard of just these changes, and of all
  module _ (now : List Command) (begins : IsPrefix now shown) where
    one_calls : (done : List Seat) (v : List Command) (calls : List Heard) (rest : List Seat) → Late (length now) calls → Grows v calls shown
        → ((p : Seat) → Fits (suc (length now)) p → Woven now (done ++ p ∷ rest)) → Woven now (done ++ (v, calls) ∷ rest)
    one_calls done v [] rest late grows next = next (v, []) (tt, grows)
    one_calls done v (h ∷ calls) rest late grows next =
        let l = list_of h in
        let ends : map last_view (done ++ (v, h ∷ calls) ∷ rest) ≡ map last_view (done ++ (l, calls) ∷ rest) =
        map-append last_view done ((v, h ∷ calls) ∷ rest) ∙ sym (map-append last_view done ((l, calls) ∷ rest)) in
        ⊎_elim
        (λ (e : length l ≡ length now).
        let is : l ≡ now = begins_same l now shown (grows_within l calls shown grows.1) begins e in
        let later = one_calls done l calls rest (rw e at (grown_late l calls shown grows.1)) grows.1 next in
        rw (ends, ← is) (call_leads done rest v h calls grows.0 (subst (λ (x : List Command). Woven x (done ++ (l, calls) ∷ rest)) (sym is) later)))
        (λ (apart : length l ≡ length now → ⊥). next (v, h ∷ calls) (omega (arith, late, apart), grows))
        (cases_eq (length l) (length now))

    all_call : (done left : List Seat) → AllFit (length now) left → ((seats : List Seat) → AllFit (suc (length now)) seats → Woven now (done ++ seats)) → Woven now (done ++ left)
    all_call done [] fit next = next [] tt
    all_call done (p ∷ left) fit next = one_calls done p.0 p.1 left fit.0.0 fit.0.1
        (λ q fits. subst (Woven now) (append_assoc done (q ∷ []) left)
        (all_call (done ++ q ∷ []) left fit.1 (λ seats more. subst (Woven now) (sym (append_assoc done (q ∷ []) seats)) (next (q ∷ seats) (fits, more)))))

  -- what is pending in the end, one change at most
  abbrev Pending : Type 0
  Pending = (views : List ℕ) (told : ℕ → Told) → ((i : ℕ) → [] ≡ told i) → Leads d (all_shown shown views) told (world all (length shown) (length shown) views)

  pending : (rest : List Command) → shown ++ rest ≡ all → length rest ≤ 1 → AreAccepted (after d shown) rest → Pending
  pending [] whole few accepted views told none = stays (ap (λ l. world l (length shown) (length shown) views) (sym (append-nil shown) ∙ whole)) none
  pending (c ∷ []) whole few accepted views told none =
      moves_on (Commit c) tt (commit_moves d shown views c accepted.0 ∙ ap (λ l. world l (length shown) (length shown) views) whole) (λ i. refl) (stays refl none)
  pending (c ∷ e ∷ rest) whole few accepted views told none = absurd (omega (arith, few))

  -- after each change the calls that heard of just so many
  weave : Pending → (now commands : List Command) (seats : List Seat) → now ++ commands ≡ shown → AreAccepted (after d now) commands → AllFit (length now) seats → Woven now seats
  weave last now [] seats whole accepted fit = all_call now ([], whole) [] seats fit
      (λ left more.
      (let same : now ≡ shown = sym (append-nil now) ∙ whole in
      let fits = subst (λ (l : List Command). AllFit (suc (length l)) left) same more in
      rw (same, ← ended left fits) (last (map view left) (told_of left) (none_told left fits))))
  weave last now (c ∷ commands) seats whole accepted fit = all_call now (c ∷ commands, whole) [] seats fit
      (λ left more.
      (let later = weave last (now ++ c ∷ []) commands left (append_assoc now (c ∷ []) commands ∙ whole) (rw fold-append accepted.1) (rw longer more) in
      moves_on (Commit c) tt (commit_moves d now (map view left) c accepted.0) (λ i. refl)
      (moves_on Acknowledge tt refl (λ i. refl) (moves_on Show tt (show_moves d now (map view left) c) (λ i. refl) later))))

accepted_parts : (d : Desk) (xs ys : List Command) → AreAccepted d (xs ++ ys) → AreAccepted d xs × AreAccepted (after d xs) ys
accepted_parts d [] ys all = (tt, all)
accepted_parts d (x ∷ xs) ys all = (let r = accepted_parts (step d x).1 xs ys all.1 in ((all.0, r.0), r.1))

-- from visitors who have heard of nothing
pub runs_of : (d : Desk) (shown all : List Command) → AreAccepted d all → IsPrefix shown all → length all ≤ length shown + 1 → HasRunsWithin d shown all
runs_of d shown all accepted begins few visitors within =
    let seats = seats_of visitors in
    let parts = accepted_parts d shown begins.0 (rw begins.1 accepted) in
    let one : length begins.0 ≤ 1 = omega (arith, few, length-append shown begins.0, ap length begins.1) in
    let woven = weave d shown all (pending d shown all begins.0 begins.1 one parts.1) [] shown seats refl parts.0 (first_fit d shown all visitors within) in
    let first : replicate (length visitors) 0 ≡ map view seats = splat_is_map visitors (length visitors) 0 refl ∙ sym (map-map view (λ calls. ([], calls)) visitors) in
    let last : map (λ v. length v) (map (heard_of []) visitors) ≡ map last_view seats =
    map-map (λ v. length v) (heard_of []) visitors ∙ sym (map-map last_view (λ calls. ([], calls)) visitors) in
    let all_lead : Leads d (beginning (length visitors)) (told_of seats) (standing shown all (map (heard_of []) visitors)) = rw (first, last) woven in (
      all_lead.events,
      record {
        goes = all_lead.goes;
        leads = all_lead.leads;
        answered = λ i calls is.
            all_lead.answered i ∙ ap (λ (p : Seat). answers p.1) (get_or_from_slice_get seats i ([], calls) ([], []) (rw (slice_get-map, is) refl));
      },
    )

-- the lists of the answers
seen_one : (i : ℕ) (w : World) (e : Event) → map (λ a. a.1) (answer_at i w e) ≡ seen_at i w e
seen_one i w (Visit j q) = by ((i == j) && nat_lt j (length w.views)) where
  by : (b : Bool) → map (λ (a : Query × List Command). a.1) (if b then (q, shown_list w) ∷ [] else []) ≡ (if b then shown_list w ∷ [] else [])
  by true = refl
  by false = refl
seen_one i w _ = refl

seen_is : (i : ℕ) (d : Desk) (w : World) (events : List Event) → map (λ a. a.1) (answers_in i d w events) ≡ seen i d w events
seen_is i d w [] = refl
seen_is i d w (e ∷ es) = map-append (λ (a : Query × List Command). a.1) (answer_at i w e) (answers_in i d (move d w e) es) ∙ (λ k. seen_one i w e k ++ seen_is i d (move d w e) es k)

pub office_law : OfficeLaw
office_law = record { runs = runs_of; seen = seen_is }

-- visitors who were told of all that they have heard of
abbrev told_once : List Command → List Heard
told_once v = Heard.told v ∷ []

abbrev pub AllBegin : List Command → List (List Command) → Type 0
AllBegin shown heard = All (λ v. IsPrefix v shown) heard

pub reached : (d : Desk) (shown all : List Command) → HasRunsWithin d shown all → (heard : List (List Command)) → AllBegin shown heard → IsReached d shown all heard
reached d shown all runs heard begin =
    let within = All-weaker (λ v. IsPrefix v shown) (λ v. Grows [] (told_once v) shown) (λ v begins. ((v, refl), begins)) heard begin in
    let r = runs (map told_once heard) (All-map (λ calls. Grows [] calls shown) told_once heard within) in
    let same : map (heard_of []) (map told_once heard) ≡ heard = map-map (heard_of []) told_once heard ∙ map-id heard in
    (r.0, r.1.goes, ap (λ n. run d (beginning n) r.0) (sym (length-map heard told_once)) ∙ (r.1.leads ∙ ap (λ l. standing shown all l) same))

pub one_more_begins : (shown : List Command) (heard : List (List Command)) (i : ℕ) (v : List Command) → i < length heard → AllBegin shown (take i heard) → v ≡ get_or heard i v → IsPrefix v shown → AllBegin shown (take (i + 1) heard)
one_more_begins shown heard i v less so_far is one = All-more (λ x. IsPrefix x shown) heard i v less so_far (subst (λ x. IsPrefix x shown) is one)

pub lawful_at : CoreLaw → (d : Desk) (shown all : List Command) (heard : List (List Command)) → IsReached d shown all heard → IsLawful d (standing shown all heard)
lawful_at core d shown all heard r = subst (λ w. IsLawful d w) r.2 (core d (length heard) r.0)

-- calls that hear of more and more, and in the end of no more than is shown
grows_of : (v : List Command) (calls : List Heard) (shown : List Command) → Rises v calls → IsPrefix (heard_of v calls) shown → Grows v calls shown
grows_of v [] shown rises p = p
grows_of v (h ∷ calls) shown rises p = (rises.0, grows_of (list_of h) calls shown rises.1 p)

within_of : (shown : List Command) (visitors : List (List Heard)) → All (λ calls. Rises [] calls) visitors → AllBegin shown (map (heard_of []) visitors) → AreWithin shown visitors
within_of shown [] rises begin = All-nil (λ calls. Grows [] calls shown)
within_of shown (calls ∷ visitors) rises begin =
    All-cons (λ c. Grows [] c shown) calls visitors (grows_of [] calls shown (All-head (λ c. Rises [] c) calls visitors rises) (All-head (λ x. IsPrefix x shown) (heard_of [] calls) (map (heard_of []) visitors) begin))
    (within_of shown visitors (All-tail (λ c. Rises [] c) calls visitors rises) (All-tail (λ x. IsPrefix x shown) (heard_of [] calls) (map (heard_of []) visitors) begin))

-- whatever visitors did that have heard of no more than is shown
pub runs_for : (d : Desk) (shown all : List Command) (heard : List (List Command)) → HasRunsWithin d shown all → AllBegin shown heard → HasRuns d shown all heard
runs_for d shown all heard runs begin visitors did = runs visitors (within_of shown visitors did.0 (rw did.1 begin))

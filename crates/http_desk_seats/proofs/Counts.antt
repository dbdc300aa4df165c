-- What streams came to, one after the other and at many workers.
use Rattle.std.proofs.Common.{◌≡◌, ◌+◌, ◌<◌, ℕ, suc, List, [], ◌∷◌, length, map, slice_index_or, take, get_or, All, IfSome, Option, Some, sum, sum_by, refl, sym, ap, subst, ◌∙◌, arith}
use Rattle.{std.proofs.lemmas.List.{length-map, get_or-map, Elements.{All-map, All-more}, Sums.{sum-map, sum_by-cons}}, desk_model.specs.claim.Desk.Desk}
use Rattle.{desk_model.specs.declared.command.Command.Command, http_desk_connections.specs.declared.ran.Ran.Ran, http_desk_seats.specs.claim.Seated.Seated}
use Rattle.http_desk_seats.specs.{Streams.{LeavesPlace, LeavesPlaces, places_of}, claim.Streams.{Traffic, Worker, EachHasWorked}}
use mathlib.Core.List.{IsPrefix, map-map}

-- a place as its guest and what its streams came to
abbrev pub standing : {P : Type 0} → (P → Option Seated) → (P → Ran) → P → Option Seated × Ran
standing seen ran p = (seen p, ran p)

abbrev pub of_worker : Worker → Option Seated × Ran
of_worker w = (Some w.guest, w.ran)

module _ {R W : Type 0} (s : Traffic R W) (first : Desk) where
  -- what each place was left with, as its guest and what its streams came to
  pub each_left : {P : Type 0} (number : P → ℕ) (seen : P → Option Seated) (ran : P → Ran) (old new : List P) → length new ≡ length old
      → ((i : ℕ) (d : P) → i < length old → LeavesPlace s first (number (slice_index_or old i d)) (seen (slice_index_or old i d)) (seen (slice_index_or new i d)) (ran (slice_index_or new i d)))
      → LeavesPlaces s first (map (λ p. (number p, seen p)) old) (map (standing seen ran) new)
  each_left number seen ran [] [] long each = tt
  each_left number seen ran [] (y ∷ ys) long each = absurd (omega (arith, long))
  each_left number seen ran (x ∷ xs) [] long each = absurd (omega (arith, long))
  each_left number seen ran (x ∷ xs) (y ∷ ys) long each = (each 0 x (omega arith), each_left number seen ran xs ys (omega (arith, long)) (λ i d less. each (suc i) d (omega (arith, less))))

  -- the workers of places at which visitors stood
  pub workers_of : (visitors : List (List Command)) (new : List (Option Seated × Ran)) → LeavesPlaces s first (places_of visitors) new
      → (workers : List Worker) × EachHasWorked s first visitors workers × (new ≡ map of_worker workers)
  workers_of [] [] left = ([], tt, refl)
  workers_of [] (y ∷ ys) left = absurd left
  workers_of (v ∷ vs) [] left = absurd left
  workers_of (v ∷ vs) (y ∷ ys) left =
      let here = left.0 in
      let rest = workers_of vs ys left.1 in
      let worker : Worker = record { guest = here.0; ran = y.1 } in
      let one : y ≡ (Some worker.guest, worker.ran) = ap (λ (o : Option Seated). (o, y.1)) here.1 in (
        worker ∷ rest.0,
        (here.2, rest.1),
        ap (λ (p : Option Seated × Ran). p ∷ ys) one ∙ ap (λ (l : List (Option Seated × Ran)). (Some worker.guest, worker.ran) ∷ l) rest.2,
      )

-- what is read off places is what is read off the workers that left them so
pub read_off : {P X : Type 0} (h : Option Seated × Ran → X) (seen : P → Option Seated) (ran : P → Ran) (places : List P) (workers : List Worker) → map (standing seen ran) places ≡ map of_worker workers
    → map (λ p. h (seen p, ran p)) places ≡ map (λ w. h (Some w.guest, w.ran)) workers
read_off h seen ran places workers same = sym (map-map h (standing seen ran) places) ∙ ap (map h) same ∙ map-map h of_worker workers

-- none of them has heard of more than the guests at their places
pub heard_of : {P : Type 0} (seen : P → Option Seated) (ran : P → Ran) (shown : List Command) (places : List P) (workers : List Worker) → map (standing seen ran) places ≡ map of_worker workers
    → All (λ p. IfSome (seen p) (λ v. IsPrefix v.heard shown)) places → All (λ w. IsPrefix w.guest.heard shown) workers
heard_of seen ran shown places workers same all = λ i w less.
    let Begins : Option Seated → Type 0 = λ o. IfSome o (λ v. IsPrefix v.heard shown) in
    let each : All Begins (map (λ w. Some w.guest) workers) = subst (All Begins) (read_off (λ x. x.0) seen ran places workers same) (All-map Begins seen places all) in
    subst Begins (get_or-map (λ (v : Worker). Some v.guest) workers i w (Some w.guest) less) (each i (Some w.guest) (rw length-map less))

-- what they were told in all is what those at the places were
pub sum_of : {P : Type 0} (f : Option Seated → ℕ) (seen : P → Option Seated) (ran : P → Ran) (places : List P) (workers : List Worker) → map (standing seen ran) places ≡ map of_worker workers
    → sum_by (λ p. f (seen p)) places ≡ sum_by (λ w. f (Some w.guest)) workers
sum_of f seen ran places workers same =
    sym (sum-map (λ p. f (seen p)) places) ∙ ap sum (read_off (λ x. f x.0) seen ran places workers same) ∙ sum-map (λ w. f (Some w.guest)) workers

pub count_all : (workers : List Worker) → sum_by (λ w. 1) workers ≡ length workers
count_all [] = refl
count_all (w ∷ ws) = omega (arith, sum_by-cons (λ (x : Worker). 1) w ws, count_all ws)

module _ {R W : Type 0} (s : Traffic R W) (first : Desk) where
  pub as_many : (visitors : List (List Command)) (workers : List Worker) → EachHasWorked s first visitors workers → length workers ≡ length visitors
  as_many [] [] each = refl
  as_many [] (w ∷ ws) each = absurd each
  as_many (v ∷ vs) [] each = absurd each
  as_many (v ∷ vs) (w ∷ ws) each = omega (arith, as_many vs ws each.1)

-- one place more whose guest has heard of no more than is shown
pub one_more_begins : {P : Type 0} (seen : P → Option Seated) (shown : List Command) (places : List P) (i : ℕ) (p : P) → i < length places → All (λ x. IfSome (seen x) (λ v. IsPrefix v.heard shown)) (take i places) → p ≡ get_or places i p
    → IfSome (seen p) (λ v. IsPrefix v.heard shown) → All (λ x. IfSome (seen x) (λ v. IsPrefix v.heard shown)) (take (i + 1) places)
one_more_begins {P} seen shown places i p less so_far is one =
    let Begins : P → Type 0 = λ x. IfSome (seen x) (λ v. IsPrefix v.heard shown) in
    All-more Begins places i p less so_far (subst Begins is one)

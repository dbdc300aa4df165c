-- The law, by induction on the events.
use Rattle.std.proofs.Common.{◌≡◌, ℕ, ◌≤◌, ◌==◌, ◌&&◌, if◌then◌else◌, nat_le, nat_lt, max, Bool, true, false, List, [], ◌∷◌, ◌++◌, length, take, drop, All, replicate, slice_get, slice_set, Option, Some, None, refl, sym, ap, ◌∙◌, subst, arith, le_refl, le_trans, zero-le, append_assoc, length-append}
use Rattle.std.proofs.lemmas.{Bool.{and_parts, cond_both, leb-true}, List.{append-nil, take-append-drop, take-take, take-append-le, length-take-le}}
use Rattle.{std.proofs.lemmas.List.Elements.{All-set, All-weaker, All-map, All-replicate, All-head, All-tail, All-get_or, All-from_get_or}, desk_model.specs.claim.Desk.Desk}
use Rattle.{std.proofs.lemmas.Option.{get_or_from_slice_get, slice_get_within}, desk_model.specs.declared.command.Command.Command, desk_theorem.specs.declared.event.Event.Event}
use Rattle.desk_theorem.specs.claim.{Law.{IsOrdered, IsNoStop, Rising, IsLawful, CoreLaw}, World.{World, world, learnt, move, run, shown_list, seen_at, seen}}
use Rattle.desk_theorem.specs.declared.event.Event.TheVariants.{Commit, Acknowledge, Show, Visit, Learn, Stop}
use mathlib.Core.List.{IsPrefix}

prefix_self : (xs : List Command) → IsPrefix xs xs
prefix_self xs = ([], append-nil xs)

pub prefix_trans : (xs ys zs : List Command) → IsPrefix xs ys → IsPrefix ys zs → IsPrefix xs zs
prefix_trans xs ys zs p q = (p.0 ++ q.0, sym (append_assoc xs p.0 q.0) ∙ (ap (λ w. w ++ q.0) p.1 ∙ q.1))

-- a shorter prefix of a list begins a longer one, and a prefix begins the list
prefix_whole : (n : ℕ) (xs : List Command) → IsPrefix (take n xs) xs
prefix_whole n xs = (drop n xs, take-append-drop n xs)

prefix_longer : (m n : ℕ) (xs : List Command) → m ≤ n → IsPrefix (take m xs) (take n xs)
prefix_longer m n xs le = subst (λ ys. IsPrefix ys (take n xs)) (take-take m n xs le) (prefix_whole m (take n xs))

learnt_within : (views : List ℕ) (i : ℕ) (known : Option ℕ) (told s : ℕ) → All (λ v. v ≤ s) views → (slice_get views i ≡ known) → told ≤ s → All (λ v. v ≤ s) (learnt views i known told)
learnt_within views i None told s all is le = all
learnt_within views i (Some v) told s all is le =
    let known : v ≤ s = subst (λ x. x ≤ s) (get_or_from_slice_get views i v 0 is) (All-get_or (λ x. x ≤ s) views i 0 (slice_get_within views i v is) all) in
    All-set (λ v. v ≤ s) views i (max v told) (omega arith) all

pub moved_ordered : (d : Desk) (w : World) (e : Event) → IsOrdered w → IsOrdered (move d w e)
moved_ordered d w (Commit c) o =
    let more : w.acknowledged ≤ length (w.changes ++ c ∷ []) = omega (arith, o.acknowledged, length-append w.changes (c ∷ [])) in
    cond_both _ _ w IsOrdered (λ _. record { views = o.views; shown = o.shown; acknowledged = more }) (λ _. o)
moved_ordered d w Acknowledge o = cond_both _ _ w IsOrdered (λ _. record { views = o.views; shown = le_trans o.shown o.acknowledged; acknowledged = le_refl _ }) (λ _. o)
moved_ordered d w Show o =
    let views = All-weaker (λ v. v ≤ w.shown) (λ v. v ≤ w.acknowledged) (λ v p. le_trans p o.shown) w.views o.views in
    cond_both _ _ w IsOrdered (λ _. record { views = views; shown = le_refl _; acknowledged = o.acknowledged }) (λ _. o)
moved_ordered d w (Visit i q) o = record { views = All-set (λ v. v ≤ w.shown) w.views i w.shown (le_refl _) o.views; shown = o.shown; acknowledged = o.acknowledged }
moved_ordered d w (Learn i told) o = cond_both (nat_le told w.shown) _ w IsOrdered
    (λ is.
    (let views = learnt_within w.views i (slice_get w.views i) told w.shown o.views refl (leb-true told w.shown is) in
    record { views = views; shown = o.shown; acknowledged = o.acknowledged })) (λ _. o)
moved_ordered d w (Stop kept) o = cond_both (nat_le w.acknowledged kept && nat_le kept (length w.changes)) _ w IsOrdered
    (λ is.
    (let le = leb-true kept (length w.changes) (and_parts (nat_le w.acknowledged kept) (nat_le kept (length w.changes)) is).1 in
    let views = All-map (λ v. v ≤ kept) (λ _. 0) w.views (All-from_get_or (λ _. 0 ≤ kept) w.views 0 (λ i less. zero-le)) in
    record { views = views; shown = le_refl _; acknowledged = omega (arith, length-take-le kept w.changes le) })) (λ _. o)

-- what an event keeps that is no stop: the changes, and with them what is shown, only grow
record Kept (old new : World) : Type 0 where
  changes : IsPrefix old.changes new.changes
  shown : IsPrefix (shown_list old) (shown_list new)

kept_as : (w : World) (acknowledged : ℕ) (views : List ℕ) → Kept w (world w.changes acknowledged w.shown views)
kept_as w acknowledged views = record { changes = prefix_self w.changes; shown = prefix_self (shown_list w) }

kept_on : (d : Desk) (w : World) (e : Event) → IsNoStop e → IsOrdered w → Kept w (move d w e)
kept_on d w (Commit c) on o =
    let begins : take w.shown (w.changes ++ c ∷ []) ≡ shown_list w = take-append-le w.shown w.changes (c ∷ []) (le_trans o.shown o.acknowledged) in
    cond_both _ _ w (Kept w) (λ _. record { changes = (c ∷ [], refl); shown = rw begins (prefix_self (shown_list w)) })
    (λ _. kept_as w w.acknowledged w.views)
kept_on d w Show on o = cond_both _ _ w (Kept w)
    (λ _. record { changes = prefix_self w.changes; shown = prefix_longer w.shown w.acknowledged w.changes o.shown })
    (λ _. kept_as w w.acknowledged w.views)
kept_on d w (Visit i q) on o = kept_as w w.acknowledged (slice_set w.views i w.shown)
kept_on d w (Stop kept) on o = absurd on
kept_on d w _ on o = cond_both _ _ w (Kept w) (λ _. kept_as w _ _) (λ _. kept_as w w.acknowledged w.views)

-- what any event keeps
kept_prefix : (d : Desk) (w : World) (e : Event) (n : ℕ) → n ≤ w.acknowledged → IsOrdered w → IsPrefix (take n w.changes) (move d w e).changes
kept_prefix d w (Stop kept) n low o = cond_both (nat_le w.acknowledged kept && nat_le kept (length w.changes)) _ w (λ x. IsPrefix (take n w.changes) x.changes)
    (λ is.
    (let le = leb-true w.acknowledged kept (and_parts (nat_le w.acknowledged kept) (nat_le kept (length w.changes)) is).0 in
    prefix_longer n kept w.changes (le_trans low le))) (λ _. prefix_whole n w.changes)
kept_prefix d w e n low o = prefix_trans _ _ _ (prefix_whole n w.changes) (kept_on d w e tt o).changes

-- each answer's list begins with a list that was shown before
begun : (i : ℕ) (d : Desk) (low : List Command) (w : World) (es : List Event) → All IsNoStop es → IsOrdered w → IsPrefix low (shown_list w) → Rising (low ∷ seen i d w es)
begun i d low w [] on o p = tt
begun i d low w (e ∷ es) on o p =
    let first = All-head IsNoStop e es on in
    let rest = All-tail IsNoStop e es on in
    let o' = moved_ordered d w e o in
    let grown = (kept_on d w e first o).shown in
    at e (seen i d (move d w e) es) first grown (λ l q. begun i d l (move d w e) es rest o' q) where
      at : (e : Event) (more : List (List Command)) → IsNoStop e → IsPrefix (shown_list w) (shown_list (move d w e))
          → ((l : List Command) → IsPrefix l (shown_list (move d w e)) → Rising (l ∷ more)) → Rising (low ∷ (seen_at i w e ++ more))
      at (Visit j q) more on grown go = chosen ((i == j) && nat_lt j (length w.views)) where
        chosen : (b : Bool) → Rising (low ∷ ((if b then shown_list w ∷ [] else []) ++ more))
        chosen true = (p, go (shown_list w) grown)
        chosen false = go low (prefix_trans _ _ _ p grown)
      at (Stop kept) more on grown go = absurd on
      at _ more on grown go = go low (prefix_trans _ _ _ p grown)

rest_rising : (x : List Command) (xs : List (List Command)) → Rising (x ∷ xs) → Rising xs
rest_rising x [] h = tt
rest_rising x (y ∷ ys) h = h.1

lawful : (d : Desk) (w : World) → IsOrdered w → IsLawful d w
lawful d w o = record {
  ordered = o;
  acknowledged = λ e. kept_prefix d w e w.acknowledged (le_refl _) o;
  shown = λ e. kept_prefix d w e w.shown o.shown o;
  changes = λ e on. (kept_on d w e on o).changes;
  answers = λ more on i. rest_rising (shown_list w) (seen i d w more) (begun i d (shown_list w) w more on o (prefix_self (shown_list w)));
}

ordered_run : (d : Desk) (w : World) (es : List Event) → IsOrdered w → IsOrdered (run d w es)
ordered_run d w [] o = o
ordered_run d w (e ∷ es) o = ordered_run d (move d w e) es (moved_ordered d w e o)

pub core : CoreLaw
core d visitors events = lawful d (run d (world [] 0 0 (replicate visitors 0)) events) (ordered_run d (world [] 0 0 (replicate visitors 0)) events (record { views = All-replicate (λ v. v ≤ 0) visitors 0 (le_refl 0); shown = le_refl 0; acknowledged = le_refl 0 }))

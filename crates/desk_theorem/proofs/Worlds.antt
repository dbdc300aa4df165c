-- What each step does to a world.
use Rattle.std.proofs.Common.{◌≡◌, ℕ, zero, suc, ◌-◌, ◌≤◌, ◌<◌, if◌then◌else◌, nat_lt, max, Bool, true, false, List, [], ◌∷◌, ◌++◌, length, take, map, get_or, replicate, slice_get, slice_set, Some, refl, sym, ap, ◌∙◌, subst, arith, length-append, le-leb, ne_eqb}
use Rattle.std.proofs.lemmas.{Bool.{cond_both, Decides.nat_tests}, List.{take_all, take-map, length-map}, Option.slice_get_read, Simd.splat_is_map}
use Rattle.{desk_model.specs.{claim.{Desk.Desk, Step.step}, declared.command.Command.Command}, desk_store_catalogue.specs.claim.Accepting.IsAfter}
use Rattle.desk_theorem.specs.{Steps.{Follow, IsChanged}, claim.{Law.IsOrdered, World.{World, world, move}}, declared.event.Event.TheVariants.{Commit, Acknowledge, Learn, Stop}}
use Rattle.{desk_theorem.specs.declared.world.WorldChange.WorldChange, http_desk.specs.seats.desk_gallery.claim.After.after}

-- the catalogue of a change is the desk after the commands up to it
pub followed : (d : Desk) (cs : List WorldChange) (n : ℕ) (x : WorldChange) → Follow d cs → n < length cs → (get_or cs n x).catalogue.value ≡ after d (take (suc n) (map (λ c. c.command) cs))
followed d [] n x f le = absurd (omega (arith, le))
followed d (c ∷ cs) zero x f le = f.0
followed d (c ∷ cs) (suc n) x f le = followed c.catalogue.value cs n x f.1 (omega (arith, le)) ∙ ap (λ e. after e (take (suc n) (map (λ c. c.command) cs))) f.0

-- one change more
pub follow_more : (d : Desk) (cs : List WorldChange) (c : WorldChange) → Follow d cs → c.catalogue.value ≡ (step (after d (map (λ c. c.command) cs)) c.command).1 → Follow d (cs ++ c ∷ [])
follow_more d [] c f is = (is, tt)
follow_more d (x ∷ xs) c f is = (f.0, follow_more x.catalogue.value xs c f.1 (is ∙ ap (λ e. (step (after e (map (λ c. c.command) xs)) c.command).1) (sym f.0)))

-- fewer changes
pub follow_prefix : (d : Desk) (cs : List WorldChange) (n : ℕ) → Follow d cs → Follow d (take n cs)
follow_prefix d (c ∷ cs) (suc n) f = (f.0, follow_prefix c.catalogue.value cs n f.1)
follow_prefix d [] (suc n) f = tt
follow_prefix d _ _ f = tt

-- the catalogue after so many changes, which isn't none
pub catalogued : (d : Desk) (cs : List WorldChange) (n : ℕ) (x : WorldChange) → Follow d cs → (n ≡ 0 → ⊥) → n ≤ length (map (λ c. c.command) cs) → (get_or cs (n - 1) x).catalogue.value ≡ after d (take n (map (λ c. c.command) cs))
catalogued d cs zero x f some le = absurd (some refl)
catalogued d cs (suc n) x f some le =
    let e : suc n - 1 ≡ n = omega arith in
    subst (λ k. (get_or cs k x).catalogue.value ≡ after d (take (suc n) (map (λ c. c.command) cs))) (sym e)
    (followed d cs n x f (omega (arith, le, length-map cs (λ c. c.command))))

-- the world that a stop leaves, as it is kept
pub stopped_to : (d : Desk) (cs left : List WorldChange) (a s kept : ℕ) (views new : List ℕ) → left ≡ take kept cs → new ≡ replicate (length views) 0 → a ≤ kept → kept ≤ length (map (λ c. c.command) cs)
    → world (map (λ c. c.command) left) kept kept new ≡ move d (world (map (λ c. c.command) cs) a s views) (Stop kept)
stopped_to d cs left a s kept views new l n low high =
    let changes : map (λ c. c.command) left ≡ take kept (map (λ c. c.command) cs) = ap (map (λ c. c.command)) l ∙ sym (take-map (λ c. c.command) kept cs) in
    rw (le-leb a kept low, le-leb kept (length (map (λ c. c.command) cs)) high)
    (λ i. world (changes i) kept kept ((n ∙ splat_is_map views (length views) 0 refl) i))

-- one change more
pub more_ordered : (d : Desk) (cs : List WorldChange) (c : WorldChange) (a s : ℕ) (views : List ℕ) → IsOrdered (world (map (λ x. x.command) cs) a s views) → IsOrdered (world (map (λ x. x.command) (cs ++ c ∷ [])) a s views)
more_ordered d cs c a s views o = record { views = o.views; shown = o.shown; acknowledged = omega (arith, o.acknowledged, length-map cs (λ x. x.command), length-map (cs ++ c ∷ []) (λ x. x.command), length-append cs (c ∷ [])) }

-- a change was joined, or memory for it was refused
pub joined : (d : Desk) (cs new : List WorldChange) (c : WorldChange) (a s : ℕ) (views : List ℕ) (b : Bool) → new ≡ (if b then cs ++ c ∷ [] else cs) → Follow d cs
    → IsOrdered (world (map (λ x. x.command) cs) a s views) → c.catalogue.value ≡ (step (after d (map (λ x. x.command) cs)) c.command).1
    → Follow d new × IsOrdered (world (map (λ x. x.command) new) a s views)
joined d cs new c a s views true is f o next = rw is (follow_more d cs c f next, more_ordered d cs c a s views o)
joined d cs new c a s views false is f o next = rw is (f, o)

-- a commit that isn't possible changes nothing
pub not_shown : (d : Desk) (w : World) (c : Command) → (w.shown ≡ length w.changes → ⊥) → w ≡ move d w (Commit c)
not_shown d w c other = rw (ne_eqb w.shown (length w.changes) other) refl

-- the catalogue after a commit, of one after all changes
pub changed_to : (d : Desk) (w : World) (c : Command) (n : ℕ) (before mid new : Desk) → n ≡ length w.changes → w.shown ≡ length w.changes → before ≡ after d (take n w.changes) → IsAfter before c mid → new ≡ mid → IsChanged d w c new
changed_to d w c n before mid new all shown was is same =
    let desk : before ≡ after d w.changes = was ∙ ap (λ l. after d l) (take_all n w.changes (omega (arith, all))) in
    record { shown = shown; accepted = ap (λ e. (step e c).0) (sym desk) ∙ is.reply; desk = same ∙ (is.desk ∙ ap (λ e. (step e c).1) desk) }

-- each change is acknowledged
pub acknowledged_to : (d : Desk) (w : World) (n : ℕ) → n ≡ length w.changes → w.acknowledged ≤ length w.changes → world w.changes n w.shown w.views ≡ move d w Acknowledge
acknowledged_to d w n all few = cond_both (nat_lt w.acknowledged (length w.changes)) (world w.changes (length w.changes) w.shown w.views) w
    (λ x. world w.changes n w.shown w.views ≡ x) (λ _. ap (λ k. world w.changes k w.shown w.views) all)
    (λ is. (let same : n ≡ w.acknowledged = grind (arith, nat_tests) in ap (λ k. world w.changes k w.shown w.views) same))

-- a visitor is told of no more than is shown
pub learnt_to : (d : Desk) (w : World) (i told known new : ℕ) → told ≤ w.shown → slice_get w.views i ≡ Some known → new ≡ max known told → world w.changes w.acknowledged w.shown (slice_set w.views i new) ≡ move d w (Learn i told)
learnt_to d w i told known new few is larger = rw (le-leb told w.shown few, is, larger) refl

-- the same of what is read among so many
pub learnt_read : (d : Desk) (w : World) (i told len known new : ℕ) → told ≤ w.shown → i < len → len ≡ length w.views → known ≡ get_or w.views i known → new ≡ max known told
    → world w.changes w.acknowledged w.shown (slice_set w.views i new) ≡ move d w (Learn i told)
learnt_read d w i told len known new few there whole is larger = learnt_to d w i told known new few (slice_get_read w.views len i known whole there is) larger

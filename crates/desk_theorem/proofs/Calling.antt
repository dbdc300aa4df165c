-- What each call moves.
use Rattle.std.proofs.{Common.{◌≡◌, ◌⊎◌, inl, inr, ⊎_elim, max, List, [], ◌∷◌, ◌++◌, length, take, map, refl, sym, ap, ◌∙◌, arith}, lemmas.List.{map-set, take_all, take-append-le}}
use Rattle.{std.proofs.lemmas.Option.slice_get-map, desk_model.specs.{claim.{Desk.Desk, Outcome.IsAcceptance, Step.step}, declared.{command.Command.Command, reply.Reply.Reply}}}
use Rattle.desk_theorem.specs.{Calls.{IsMoved, CallsLaw}, claim.{Runs.standing, World.{world, move, run}}, declared.event.Event.TheVariants.{Commit, Acknowledge, Show}}
use Rattle.{http_desk.specs.seats.desk_gallery.{Working.Joins, claim.After.after}, desk_theorem.proofs.{Weaving.{begins_length, commit_moves, show_moves}, Worlds.learnt_to}}
use mathlib.Core.List.{IsPrefix}

append_moves : (d : Desk) (shown : List Command) (heard : List (List Command)) (c : Command) → IsAcceptance (step (after d shown) c).0
    → standing shown (shown ++ c ∷ []) heard ≡ move d (standing shown shown heard) (Commit c)
append_moves d shown heard c accepted = sym (commit_moves d shown (map (λ v. length v) heard) c accepted)

command_moves : (d : Desk) (old : List Command × List Command) (c : Command) (reply : Reply) (new : List Command × List Command) (heard : List (List Command)) → Joins d old c reply new → IsMoved d old c reply new heard
command_moves d old c reply new heard joins = record {
  accepted = λ is.
      (let j = joins.accepted is in
      let appended = ap (λ w. run d w (Acknowledge ∷ Show ∷ [])) (append_moves d old.0 heard c j.1) in
      rw (j.2, j.0) (sym (show_moves d old.0 (map (λ v. length v) heard) c) ∙ appended));
  other = λ none. ⊎_elim
      (λ (same : new ≡ old). inl (ap (λ (p : List Command × List Command). standing p.0 p.1 heard) same))
      (λ fault. inr (rw (fault.3, fault.1) (append_moves d old.0 heard c fault.2)))
      (joins.other none);
}

longest : (v told new : List Command) → (new ≡ v) ⊎ (new ≡ told) → IsPrefix v new → IsPrefix told new → length new ≡ max (length v) (length told)
longest v told new one this that =
    let a = begins_length v new this in
    let b = begins_length told new that in
    ⊎_elim (λ (e : new ≡ v). let l = ap length e in omega (arith, a, b, l)) (λ (e : new ≡ told). let l = ap length e in omega (arith, a, b, l)) one

pub calls_law : CallsLaw
calls_law = record {
  append = append_moves;
  show = λ d shown heard c. sym (show_moves d shown (map (λ v. length v) heard) c);
  command = command_moves;
  visit = λ d shown all heard i q begins. (
    ap (λ views. world all (length shown) (length shown) views) (map-set (λ v. length v) heard i shown),
    ap (λ l. take (length shown) l) (sym begins.1) ∙ (take-append-le (length shown) shown begins.0 (omega arith) ∙ take_all (length shown) shown (omega arith)),
  );
  learn = λ d shown all heard i v told new is within one this that.
      ap (λ views. world all (length shown) (length shown) views) (map-set (λ v. length v) heard i new)
      ∙ learnt_to d (standing shown all heard) i (length told) (length v) (length new)
      (begins_length told shown within) (rw (slice_get-map, is) refl) (longest v told new one this that);
}

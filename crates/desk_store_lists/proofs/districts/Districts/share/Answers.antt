use Rattle.std.proofs.{Common.{◌≡◌, ◌≤◌, ◌++◌, ℕ, List, length, length-append, take, sym, subst, ap, ◌∙◌, arith}, lemmas.List.take_all}
use Rattle.desk_store_lists.{specs.Pieces.{Piece, joined, AreFull, IsCut}, proofs.Cut.{cut_of, full_push, joined_push, joined_take}}
use Rattle.desk_store_lists.proofs.districts.Districts.share.Goals as goal

module _ (ps full : List Piece) (rest kept : Piece) (k : ℕ) (same : joined ps ≡ joined (take k full)) (all : length full ≤ k) (is : rest ≡ kept) where
  shared_whole : joined ps ++ rest ≡ joined full ++ kept
  shared_whole = ap (λ l. l ++ rest) (same ∙ ap joined (take_all k full all)) ∙ ap (λ l. joined full ++ l) is

  shared_cut : (count : ℕ) → AreFull ps → IsCut full kept count → IsCut ps rest count
  shared_cut count so_far cut = cut_of ps rest (joined full ++ kept) count so_far shared_whole (cut.counted ∙ sym (length-append (joined full) kept)) cut.fit

pub loop-place-preserved : goal.loop-place-preserved
loop-place-preserved c =
    let all = c.as_slice-pieces.result.now in
    let full : AreFull all = subst AreFull (sym c.as_slice-pieces.ensures.value) c.self.invariant.are_full in
    let d = c.index-pieces-place.result in
    let is = c.in_ok-share.ensures ∙ c.index-pieces-place.is in
    record {
      are_full = full_push c.loop-place.full.items c.push.new.self.items c.in_ok-share.field-0 c.in_ok-push.ensures.items c.loop-place.invariant.are_full
          (ap length is ∙ full c.loop-place.place d c.loop-place-test.true);
      same = joined_push c.loop-place.full.items c.push.new.self.items c.in_ok-share.field-0 c.in_ok-push.ensures.items (joined (take c.loop-place.place all)) c.loop-place.invariant.same
          ∙ ap (λ l. joined (take c.loop-place.place all) ++ l) is ∙ joined_take all c.loop-place.place d c.loop-place-test.true;
    }

pub invariant_of-result : goal.invariant_of-result
invariant_of-result c =
    shared_cut c.loop-place.full.items c.self.inside.full.items c.in_ok-rest.rest c.self.inside.rest c.loop-place.place
    (rw (← c.as_slice-pieces.ensures.value) c.loop-place.invariant.same) (omega (arith, c.loop-place-test.false, ap length c.as_slice-pieces.ensures.value))
    c.in_ok-rest.ensures c.self.inside.count c.loop-place.invariant.are_full c.self.invariant

pub returns : goal.returns
returns c =
    shared_whole c.loop-place.full.items c.self.inside.full.items c.in_ok-rest.rest c.self.inside.rest c.loop-place.place
    (rw (← c.as_slice-pieces.ensures.value) c.loop-place.invariant.same) (omega (arith, c.loop-place-test.false, ap length c.as_slice-pieces.ensures.value))
    c.in_ok-rest.ensures ∙ c.self.view_is

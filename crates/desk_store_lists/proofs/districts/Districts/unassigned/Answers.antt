use Rattle.std.proofs.Common.{ℕ, ap, ◌∙◌, arith, replicate, ◌≡◌, rules, ◌+◌, ◌*◌, ◌/◌, ◌%◌, ◌<◌, ◌^◌, suc, List, [], ◌∷◌, ◌++◌, length, get_or, lit<}
use Rattle.{std.proofs.lemmas.List.{replicate-append-replicate, length-replicate}, desk_store_lists.specs.Pieces.{Piece, joined, AreFull, IsCut}}
use Rattle.desk_store_lists.proofs.Cut.{full_push, joined_push}
use Rattle.desk_store_lists.proofs.districts.Districts.unassigned.Goals as goal

-- Pieces of blocks without a district.
module _ (ps new : List Piece) (p : Piece) (place : ℕ) (put : new ≡ ps ++ p ∷ []) (is : p ≡ replicate 512 0) where
  blank_full : AreFull ps → AreFull new
  blank_full full = full_push ps new p put full (ap length is ∙ length-replicate {A = ℕ} 512 0)

  blank_more : joined ps ≡ replicate (place * 512) 0 → joined new ≡ replicate ((place + 1) * 512) 0
  blank_more same =
      let e : place * 512 + 512 ≡ (place + 1) * 512 = omega arith in
      joined_push ps new p put (replicate (place * 512) 0) same ∙ ap (λ l. replicate (place * 512) 0 ++ l) is ∙ replicate-append-replicate (place * 512) 512 0 ∙ ap (λ n. replicate n 0) e

zero_at : (n i : ℕ) → get_or (replicate n 0) i 0 < 2 ^ 16
zero_at (suc n) (suc i) = zero_at n i
zero_at _ _ = lit< tt

module _ (ps : List Piece) (rest : Piece) (count place : ℕ) (same : joined ps ≡ replicate (place * 512) 0) (is : rest ≡ replicate (count % 512) 0) (at_end : place ≡ count / 512) where
  blank_all : joined ps ++ rest ≡ replicate count 0
  blank_all = search (rules, replicate-append-replicate)

  blank_cut : AreFull ps → IsCut ps rest count
  blank_cut full = search (rules, length-replicate, blank_all, zero_at)

pub loop-place-preserved : goal.loop-place-preserved
loop-place-preserved c =
    let is = c.in_ok-share.ensures ∙ c.unassigned-piece.ensures in
    record {
      are_full = blank_full c.loop-place.full.items c.push.new.self.items c.in_ok-share.field-0 c.loop-place._place c.in_ok-push.ensures.items is c.loop-place.invariant.are_full;
      same = blank_more c.loop-place.full.items c.push.new.self.items c.in_ok-share.field-0 c.loop-place._place c.in_ok-push.ensures.items is c.loop-place.invariant.same;
    }

pub returns : goal.returns
returns c = blank_all c.loop-place.full.items c.unassigned-rest.result c.args.count c.loop-place._place c.loop-place.invariant.same c.unassigned-rest.ensures (omega arith)

pub invariant_of-result : goal.invariant_of-result
invariant_of-result c =
    blank_cut c.loop-place.full.items c.unassigned-rest.result c.args.count c.loop-place._place c.loop-place.invariant.same c.unassigned-rest.ensures (omega arith) c.loop-place.invariant.are_full

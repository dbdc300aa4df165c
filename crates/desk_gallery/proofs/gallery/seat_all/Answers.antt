use Rattle.std.proofs.{Common.{◌≡◌, ◌+◌, [], ◌∷◌, ◌++◌, length, arith, length-append, ap}, lemmas.List.Elements.{All-same, All-push}}
use Rattle.desk_gallery.proofs.gallery.seat_all.Goals as goal

pub loop-preserved : goal.loop-preserved
loop-preserved g c =
    let visitor = c.in_ok-visitor.field-0 in
    let items : c.push.new.self.items ≡ c.loop.seats.items ++ visitor ∷ [] = c.in_ok-push.ensures.items in
    let more : length c.push.new.self.items ≡ c.loop.counter + 1 = omega (arith, ap length items, length-append c.loop.seats.items (visitor ∷ []), c.loop.invariant.0) in
    (more, All-same (λ v. v ≡ []) _ _ items (All-push (λ v. v ≡ []) c.loop.seats.items visitor c.loop.invariant.1 c.in_ok-visitor.ensures))

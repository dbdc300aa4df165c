use Rattle.{std.proofs.{Common.{◌≡◌, ◌∙◌, ◌+◌, All, IfSome, map, reverse, length, sum_by, ap, subst, arith}, lemmas.List.length-reverse}, http_desk_seats.specs.Streams.traffic}
use Rattle.{http_desk_seats.specs.{Seated.{seats_at, accepted_at, halted_at}, claim.Streams.{IsAskedOf, total_of}}, desk_gallery.proofs.Running.has_run_as}
use Rattle.http_desk_seats.proofs.Counts.{workers_of, read_off, heard_of, sum_of, count_all, as_many}
use mathlib.Core.List.{IsPrefix}
use Rattle.http_desk_seats.proofs.many.serve_many.Goals as goal

pub close_counted-last-requires : goal.close_counted-last-requires
close_counted-last-requires g c =
    let s = traffic g.A.Arrivals.gives g.A.Arrivals.takes_back g.A.Reader.Source g.A.Writer.Sink c.args.arrivals.now in
    let first = g.J.GalleryId.first in
    let places = c.serve_beside-left.result.items in
    let workers = workers_of s first (reverse c.args.visitors.items) (map (λ p. (p.guest, p.totals.ran)) places) (rw c.in-Ok.ensures.places at c.serve_beside-left.ensures.left) in
    let many : length workers.0 ≡ length (reverse c.args.visitors.items) = as_many s first (reverse c.args.visitors.items) workers.0 workers.1 in
    let back : sum_by (λ p. seats_at p.guest) places ≡ length workers.0 = sum_of seats_at (λ p. p.guest) (λ p. p.totals.ran) places workers.0 workers.2 ∙ count_all workers.0 in
    let given : c.places_for.new.tallies.accepted.parts + length c.args.visitors.items ≡ c.args.tallies.accepted.parts = c.in-Ok.ensures.seats in
    let taken = c.gather.ensures.seats in
    omega (arith, back, many, length-reverse c.args.visitors.items, given, taken, c.requires.seats.0)

pub returns-clause-served : goal.returns-clause-served
returns-clause-served g c =
    let s = traffic g.A.Arrivals.gives g.A.Arrivals.takes_back g.A.Reader.Source g.A.Writer.Sink c.args.arrivals.now in
    let first = g.J.GalleryId.first in
    let places = c.serve_beside-left.result.items in
    let changes = c.know_all.new.front.shown in
    let seen : c.as_slice-stands.result.now ≡ places = c.as_slice-stands.ensures.value in
    let workers = workers_of s first (reverse c.args.visitors.items) (map (λ p. (p.guest, p.totals.ran)) places) (rw c.in-Ok.ensures.places at c.serve_beside-left.ensures.left) in
    let told : sum_by (λ p. accepted_at p.guest) places ≡ sum_by (λ w. w.guest.accepted) workers.0 = sum_of accepted_at (λ p. p.guest) (λ p. p.totals.ran) places workers.0 workers.2 in
    let told_halts : sum_by (λ p. halted_at p.guest) places ≡ sum_by (λ w. w.guest.halted) workers.0 = sum_of halted_at (λ p. p.guest) (λ p. p.totals.ran) places workers.0 workers.2 in
    record {
      changes = changes;
      halts = c.gather.new.tallies.halted.amount;
      accepted = c.close_counted-last.ensures.accepted;
      left = has_run_as g.J.GalleryId.begins g.J.GalleryId.asked (IsAskedOf s) c.close_counted-last.result changes c.gather.new.tallies.halted.amount c.requires.only c.close_counted-last.ensures.ran;
      counted = record {
        workers = workers.0;
        each = workers.1;
        shown = heard_of (λ p. p.guest) (λ p. p.totals.ran) changes places workers.0 workers.2 (subst (λ l. All (λ p. IfSome p.guest (λ v. IsPrefix v.heard changes)) l) seen c.know_all.ensures.all);
        accepted = c.close_counted-last.ensures.counted ∙ (c.gather.ensures.accepted ∙ omega (arith, told, c.in-Ok.ensures.none.0));
        halted = c.gather.ensures.halted ∙ omega (arith, told_halts, c.in-Ok.ensures.none.1);
        total = c.together-totals.ensures ∙ (ap (λ l. total_of (map (λ p. p.totals.ran) l)) seen ∙ ap total_of (read_off (λ x. x.1) (λ p. p.guest) (λ p. p.totals.ran) places workers.0 workers.2));
      };
    }

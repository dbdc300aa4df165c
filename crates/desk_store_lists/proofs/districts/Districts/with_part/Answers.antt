use Rattle.{std.proofs.Common.{◌≡◌, ◌-◌, ◌*◌, Some, map, length, ap, ◌∙◌, arith}, desk_store_lists.{specs.Laid.laid, proofs.Cut.rest_counted}}
use Rattle.desk_store_lists.proofs.Puts.{from_there, laid_at, put_cut, put_whole}
use Rattle.desk_store_lists.proofs.districts.Districts.with_part.Goals as goal

pub invariant_of-result : goal.invariant_of-result
invariant_of-result c =
    let new = c.put_pieces.new.full.items in
    let many : c.len.result ≡ length c.self.inside.full.items = c.len.ensures ∙ c.self.inside.full.ok.0 in
    let few = (rest_counted c.self.inside.full.items c.self.inside.rest c.self.inside.count c.len.result c.self.invariant many).0 in
    put_cut c.args.first c.args.part.now c.self.inside.full.items new c.self.inside.rest c.in_ok-rest.rest c.self.invariant.are_full c.in_ok-put_pieces.ensures
    (c.in_ok-rest.ensures ∙ from_there c.args.first c.args.part.now (c.self.inside.count - (c.self.inside.count - c.len.result * 512)) (length new * 512) c.self.inside.rest (omega (arith, few, many, c.in_ok-put_pieces.ensures.long)))
    c.self.inside.count (λ i. let fits = c.type_inv.part i in omega arith) c.self.invariant

pub returns : goal.returns
returns c =
    let new = c.put_pieces.new.full.items in
    let many : c.len.result ≡ length c.self.inside.full.items = c.len.ensures ∙ c.self.inside.full.ok.0 in
    let few = (rest_counted c.self.inside.full.items c.self.inside.rest c.self.inside.count c.len.result c.self.invariant many).0 in
    put_whole c.args.first c.args.part.now c.self.inside.full.items new c.self.inside.rest c.in_ok-rest.rest c.self.invariant.are_full c.in_ok-put_pieces.ensures
    (c.in_ok-rest.ensures ∙ from_there c.args.first c.args.part.now (c.self.inside.count - (c.self.inside.count - c.len.result * 512)) (length new * 512) c.self.inside.rest (omega (arith, few, many, c.in_ok-put_pieces.ensures.long)))
    ∙ ap (laid c.args.first (map Some c.args.part.now) 0) c.self.view_is
    ∙ laid_at c.args.first c.args.part.now c.args.self c.requires

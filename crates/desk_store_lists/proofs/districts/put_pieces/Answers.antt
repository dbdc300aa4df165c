use Rattle.{std.proofs.Common.{◌/◌, arith, rules}, desk_store_lists.proofs.Puts.{put_none, put_all}}
use Rattle.desk_store_lists.proofs.districts.put_pieces.Goals as goal

pub loop-place-init : goal.loop-place-init
loop-place-init c = record { put = put_none c.args.first c.args.part.now c.args.full.now.items (c.args.first / 512) c.requires.full (omega arith) }

pub returns : goal.returns
returns c =
    put_all c.args.first c.args.part.now c.args.full.now.items c.loop-place.full.items c.loop-place.place c.loop-place.invariant.put c.requires.full
    (search rules)

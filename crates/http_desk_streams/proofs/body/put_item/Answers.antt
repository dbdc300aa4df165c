use Rattle.{std.proofs.Common.rules, http_desk_streams.proofs.BodyLemmas.item_written}
use Rattle.http_desk_streams.proofs.body.put_item.Goals as goal

pub returns : goal.returns
returns c =
    search (rules, c.line_start.ensures, c.kind_member.ensures, c.as_slice.ensures.value, c.as_slice.ensures.valid, c.in_ok-extend_from_slice.ensures.items, c.in_ok-put_number.ensures, c.in_ok-extend_from_slice-2.ensures.items, c.in_ok-extend_from_slice-3.ensures.items, c.in_ok-extend_from_slice-4.ensures.items, c.in_ok-put_number-2.ensures, c.in_ok-push.ensures.items, item_written)

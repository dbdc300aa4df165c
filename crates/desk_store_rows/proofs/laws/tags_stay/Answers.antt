use Rattle.{std.proofs.Common.rules, desk_store_rows.proofs.Frames.{put_keeps_tag, remove_keeps_tag}}
use Rattle.desk_store_rows.proofs.laws.tags_stay.Goals as goal

pub returns : goal.returns
returns c m tag other rest apart = search (rules, put_keeps_tag, remove_keeps_tag)

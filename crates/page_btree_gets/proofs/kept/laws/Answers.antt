use Rattle.page_btree_gets.proofs.MapLaws.{one_map, new_holds, begun_holds, prepared_holds, opens_maps, few_rows}
use Rattle.page_btree_gets.proofs.kept.laws.Goals as goal

pub returns : goal.returns
returns c = record { one = one_map; made = new_holds; begun = begun_holds; prepared = prepared_holds; stopped = opens_maps; few = few_rows }

use Rattle.{std.proofs.Common.inr, store_command.proofs.Used.{has_loaded, has_kept}}
use Rattle.store_command.proofs.filling.fill.Goals as goal

pub returns-in-Ok-load_geography : goal.returns-in-Ok-load_geography
returns-in-Ok-load_geography g c = search (c.in-Ok-load_geography.ensures, has_loaded, c.one_desk_opens.ensures, c.in-Ok.ensures.ok, c.in-Ok.ensures.shows)

pub returns-in-Err-load_geography : goal.returns-in-Err-load_geography
returns-in-Err-load_geography g c =
    let did = c.in-Err-load_geography.ensures in
    inr (search (c.store_fault.ensures, has_kept, c.one_desk_opens.ensures, c.in-Ok.ensures.ok, c.in-Ok.ensures.shows))

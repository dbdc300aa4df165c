-- Rows of a geography that are put in batches are staged.
use Rattle.std.specs.Prelude.{◌+◌, ℕ, [], ◌∷◌, Result}
use Rattle.{desk_model.specs.claim.Geography.GeographyModel, desk_store_pages.specs.{Outcomes.Writes, Rising.{HasPutWith, PutsErrWith}}, desk_store_rows.specs.claim.Rows.KeyMap}
use Rattle.{desk_store_rows.specs.claim.{GeographyRows.IsStaged, Puts.{Row, put_rows}}, geo_tables.specs.Rows.staged_rows, page_btree.specs.gets.declared.error.TreeError.TreeError}
use Rattle.{page_btree.specs.puts.declared.finger.Fingers.Fingers, page_store.specs.declared.{pages.Pages.Pages, txn.Txn.Txn}, sector_device.specs.declared.SectorDevice.Ghosts}

-- what a batch's rows do, and one row more
abbrev pub Stages : ℕ → GeographyModel → ℕ → ℕ → Type 0
Stages load g done rows = (m : KeyMap) → IsStaged m load g done → IsStaged (put_rows m (staged_rows load g done rows)) load g (done + rows)

-- a row was put by leaves that are known, or it is told why not
abbrev pub PutsRow : {D T : Type 0} {g : Ghosts D} → Fingers → Fingers → Row → Txn → Txn → Pages D g → Pages D g → Result T TreeError → Type 0
PutsRow were fs row t u old new result = Writes (λ _. HasPutWith were fs (row ∷ []) t u old new) (PutsErrWith were (row ∷ []) t old new) u old new result

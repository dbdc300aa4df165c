-- What no promise rests on, beside claim/GeoFile.antt.
use Rattle.std.specs.{List.IsDistinct, Prelude.{◌≡◌, ℕ, ◌<◌, ◌≤◌, List, [], map, length, get_or, All, nat_eq, Result, Ok, Err}}
use Rattle.{byte_stream.specs.declared.reader.ReadFault.ReadFault, desk_model.specs.claim.{Block.state_of, GeographyModels.block_limit}}
use Rattle.pl94_geo.specs.{claim.Judging.{blocks_of, state_record_of, ids_of}, declared.{entry.{GeoRecord.GeoRecord, HeaderLineFault.TheVariants.Shape}, geo.GeoFault.GeoFault}}
use Rattle.pl94_geo.specs.declared.{geo.GeoRows.GeoRows, header.{GeoBlock.GeoBlock, HeaderRefusal.HeaderRefusal}}
use Rattle.byte_stream.specs.declared.reader.ReadFault.TheVariants as read
use Rattle.pl94_geo.specs.declared.header.HeaderRefusal.TheVariants as refusal
use Rattle.pl94_geo.specs.declared.geo.GeoFault.TheVariants as fault

abbrev pub row_ids : List GeoBlock → List ℕ
row_ids blocks = map (λ b. b.id) blocks

-- at least one block and no more than the limit, all different and of one state
pub record AreGeoRows (rows : GeoRows) : Type 0 where
  pub some : 0 < length rows.blocks.items
  pub few : length rows.blocks.items ≤ block_limit
  pub distinct : IsDistinct nat_eq (row_ids rows.blocks.items)
  pub one_state : All (λ id. state_of id ≡ state_of (get_or (row_ids rows.blocks.items) 0 0)) (row_ids rows.blocks.items)

-- how a fault of the reader is told
abbrev pub told : ReadFault → ℕ → GeoFault
told read.TooLong number = fault.Line Shape number
told read.Failed number = fault.Read number
told read.TurnLimit number = fault.TurnLimit number

-- how a refusal is told
abbrev pub refused : HeaderRefusal → ℕ → GeoFault
refused (refusal.Fault f) number = fault.Line f number
refused refusal.Memory number = fault.Memory

-- the records of all lines
abbrev pub Finishes : List GeoRecord → ℕ → Result GeoRows GeoFault → Type 0
Finishes es number (Ok rows) = AreGeoRows rows × (0 < length (ids_of es))
    × (rows.blocks.items ≡ blocks_of es) × (rows.state_record ≡ state_record_of es)
Finishes es number (Err e) = (e ≡ fault.NoBlock number) × (ids_of es ≡ [])

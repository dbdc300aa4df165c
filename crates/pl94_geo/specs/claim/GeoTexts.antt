-- How a fault of a header is told: its code and its line.
use Rattle.std.specs.Prelude.{ℕ, List, ◌++◌, codes, decimal}
use Rattle.pl94_geo.specs.declared.{entry.HeaderLineFault.HeaderLineFault, geo.GeoFault.GeoFault}
use Rattle.pl94_geo.specs.declared.entry.HeaderLineFault.TheVariants as line
use Rattle.pl94_geo.specs.declared.geo.GeoFault.TheVariants as geo

abbrev pub line_code : HeaderLineFault → List ℕ
line_code line.Shape = codes "G1"
line_code line.RecordNumber = codes "G2"
line_code line.Codes = codes "G3"
line_code line.State = codes "G4"
line_code line.RepeatedBlock = codes "G5"
line_code line.RepeatedRecord = codes "G6"
line_code line.TooManyBlocks = codes "G7"

abbrev pub header_text : GeoFault → List ℕ
header_text (geo.Line fault number) = line_code fault ++ codes " line " ++ decimal number
header_text (geo.Read number) = codes "G8 line " ++ decimal number
header_text (geo.NoBlock number) = codes "G9 line " ++ decimal number
header_text (geo.TurnLimit number) = codes "G10 line " ++ decimal number
header_text geo.Memory = codes "Memory"

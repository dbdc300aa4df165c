-- What is printed of a store.
use Rattle.std.specs.Prelude.{ℕ, ◌*◌, Bool, true, false, List, ◌++◌, length, codes, decimal}
use Rattle.{audit_report.specs.audit_population.claim.People.state_people, desk_model.specs.{Ranges.ranges_of, claim.Geography.GeographyModel}}
pub use Rattle.store_command.specs.claim.Telling.{rows_text}

-- words, and a number after them
abbrev pub number_after : List ℕ → ℕ → List ℕ
number_after words n = words ++ decimal n

-- how the line of one that was made ends, where its bytes are told too and where not
abbrev pub formatted_end : (with_bytes : Bool) → (sectors : ℕ) → List ℕ
formatted_end false sectors = codes " journal pages\n"
formatted_end true sectors = number_after (codes " journal pages, ") (4096 * sectors) ++ codes " bytes\n"

-- of one that was made: its sectors and its journal's pages, and where that is asked for its bytes
abbrev pub formatted_text : (with_bytes : Bool) → (sectors journal_pages : ℕ) → List ℕ
formatted_text with_bytes sectors journal_pages =
    number_after (codes "formatted ") sectors ++ number_after (codes " sectors, ") journal_pages ++ formatted_end with_bytes sectors

-- of one that is to be made: its bytes
abbrev pub size_line : (sectors : ℕ) → List ℕ
size_line sectors = number_after (codes "plandesk: format: ") (4096 * sectors) ++ codes " bytes to write\n"

-- of a geography that was loaded: its blocks, counties and people
abbrev pub loaded_text : GeographyModel → List ℕ
loaded_text g =
    number_after (codes "loaded ") (length g.blocks)
    ++ number_after (codes " blocks, ") (length (ranges_of g))
    ++ number_after (codes " counties, ") (state_people g.blocks)
    ++ codes " people\n"

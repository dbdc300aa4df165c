-- The keys of a report, as they are put into a map, from the last key to the first.
use Rattle.{std.specs.Prelude.codes, audit_report.specs.claim.{Figures.Figures, ReportText.{clause_data, code_data, number_data, list_data, break_data, divided_data, range_data}}}
use Rattle.{desk_model.specs.claim.Kind.kind_name, serde_json.specs.Data.{string, Members, put}}

abbrev pub last_members : Figures → Members → Members
last_members r m =
    put (codes "not_asked") (list_data clause_data r.not_asked)
    (put (codes "population") (number_data r.population)
    (put (codes "populations") (list_data number_data r.populations)
    (put (codes "range") (range_data r.range)
    (put (codes "unassigned") (number_data r.unassigned) m))))

abbrev pub middle_members : Figures → Members → Members
middle_members r m =
    put (codes "counties") (list_data (code_data 3) r.counties)
    (put (codes "districts") (number_data r.districts)
    (put (codes "divided_by_congress") (divided_data r.divided_by_congress)
    (put (codes "kind") (string (kind_name r.kind))
    (put (codes "nesting") (list_data number_data r.nesting) m))))

abbrev pub first_members : Figures → Members → Members
first_members r m =
    put (codes "broken") (list_data clause_data r.broken)
    (put (codes "cities") (list_data (code_data 5) r.cities)
    (put (codes "cities_in_county") (list_data (code_data 5) r.cities_in_county)
    (put (codes "congress") (list_data number_data r.congress)
    (put (codes "contiguity") (list_data break_data r.contiguity) m))))

-- A report as compact JSON with its keys in byte order (RFC 8259).
use Rattle.{std.specs.Prelude.{ℕ, List, map, codes, Option, Some, None}, audit_contiguity.specs.declared.breaks.{Break.Break, Gap.Gap}, audit_report.specs.claim.Figures.Figures}
use Rattle.{audit_population.specs.declared.deviations.Extremes.Extremes, audit_report.specs.{claim.Clauses.clause_name, declared.clause.Clause.Clause}}
use Rattle.{desk_model.specs.claim.{Kind.kind_name, Padded.padded_decimal}, serde_json.specs.{View.items_of, Written.compact_text}}
use Rattle.serde_json.specs.Data.{Data, null, number, unsigned, string, array, item, no_items, object, member, no_members}

abbrev pub clause_data : Clause → Data
clause_data clause = string (clause_name clause)

-- a code of so many digits
abbrev pub code_data : ℕ → ℕ → Data
code_data width code = string (padded_decimal width code)

abbrev pub number_data : ℕ → Data
number_data n = number (unsigned n)

abbrev pub list_data : {X : Type 0} → (X → Data) → List X → Data
list_data f xs = array (items_of (map f xs))

-- a district with the two blocks that it leaves apart, if it has a block
abbrev pub gap_data : ℕ → Option Gap → Data
gap_data district None = object (member (codes "district") (number_data district) no_members)
gap_data district (Some gap) =
    object (member (codes "district") (number_data district)
    (member (codes "from") (code_data 15 gap.from)
    (member (codes "to") (code_data 15 gap.to) no_members)))

abbrev pub break_data : Break → Data
break_data b = gap_data b.district b.gap

abbrev pub divided_data : Option (List ℕ) → Data
divided_data None = null
divided_data (Some districts) = list_data number_data districts

abbrev pub range_data : Option Extremes → Data
range_data None = null
range_data (Some e) = array (item (number_data e.most) (item (number_data e.least) no_items))

abbrev pub report_data : Figures → Data
report_data r =
    object (member (codes "broken") (list_data clause_data r.broken)
    (member (codes "cities") (list_data (code_data 5) r.cities)
    (member (codes "cities_in_county") (list_data (code_data 5) r.cities_in_county)
    (member (codes "congress") (list_data number_data r.congress)
    (member (codes "contiguity") (list_data break_data r.contiguity)
    (member (codes "counties") (list_data (code_data 3) r.counties)
    (member (codes "districts") (number_data r.districts)
    (member (codes "divided_by_congress") (divided_data r.divided_by_congress)
    (member (codes "kind") (string (kind_name r.kind))
    (member (codes "nesting") (list_data number_data r.nesting)
    (member (codes "not_asked") (list_data clause_data r.not_asked)
    (member (codes "population") (number_data r.population)
    (member (codes "populations") (list_data number_data r.populations)
    (member (codes "range") (range_data r.range)
    (member (codes "unassigned") (number_data r.unassigned) no_members)))))))))))))))

abbrev pub report_text : Figures → List ℕ
report_text r = compact_text (report_data r)

-- The broken clauses, as the pieces of the work tell them.
use Rattle.std.specs.Prelude.{◌++◌, Bool, nat_lt, if◌then◌else◌, List, [], ◌∷◌, length, is_some}
use Rattle.audit_report.specs.declared.{clause.Clause.{Clause, TheVariants.{Complete, Mean, Range, Congress, Contiguous, Nested}}, pieces.Pieces.Pieces}

-- the clause, where it is broken
abbrev pub noted : Bool → Clause → List Clause
noted broken clause = if broken then clause ∷ [] else []

abbrev pub is_listed : {X : Type 0} → List X → Bool
is_listed xs = nat_lt 0 (length xs)

-- the clauses that the pieces found broken, in their order
abbrev pub found_clauses : Pieces → List Clause
found_clauses p =
    [] ++ noted (nat_lt 0 p.people.unassigned) Complete ++ noted p.people.mean_breaks Mean ++ noted (is_some p.people.range) Range
    ++ noted (is_listed p.people.congress.items) Congress ++ noted (is_listed p.contiguity.items) Contiguous
    ++ noted (is_listed p.unnested.nesting.items) Nested

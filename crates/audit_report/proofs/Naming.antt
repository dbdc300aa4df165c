-- The broken clauses, one by one.
use Rattle.{std.{specs.List.Sorted.IsStrictlyIncreasing, proofs.lemmas.{Bool.{cases_lt, cases_Bool, false≢true}, List.{append-nil, map_push}}}, audit_report.specs.Assembled.noted}
use Rattle.std.proofs.Common.{rules, ◌≡◌, ℕ, ◌+◌, ◌<◌, Bool, true, false, IsTrue, zero, suc, List, [], ◌∷◌, ◌++◌, map, All, Contains, refl, ap, sym, ◌∙◌, arith, ⊎_elim}
use Rattle.{std.proofs.lemmas.List.Elements.{All-push, All-map, All-nil, All-weaker, Contains-push, Contains-append_left}, audit_report.specs.declared.clause.Clause.Clause}
use Rattle.audit_report.specs.{claim.Clauses.{rank, AreExactlyClauses}, declared.clause.Clause.TheVariants.{Complete, Mean, Range, Congress, Contiguous, Nested}}
use Rattle.audit_contiguity.proofs.Telling.{rising_push}

-- the clauses of a lower rank of which this holds are named
pub record AreNamed (Holds : Clause → Type 0) (count : ℕ) (clauses : List Clause) : Type 0 where
  pub rising : IsStrictlyIncreasing (map rank clauses)
  pub below : All (λ (c : Clause). rank c < count) clauses
  pub listed : All Holds clauses
  pub all : (c : Clause) → rank c < count → Holds c → Contains clauses c

pub named_none : (Holds : Clause → Type 0) → AreNamed Holds 0 []
named_none Holds = search (rules, All-nil)

pub clause_at : ℕ → Clause
clause_at zero = Complete
clause_at (suc zero) = Mean
clause_at (suc (suc zero)) = Range
clause_at (suc (suc (suc zero))) = Congress
clause_at (suc (suc (suc (suc zero)))) = Contiguous
clause_at (suc (suc (suc (suc (suc k))))) = Nested

pub at_rank : (c : Clause) → clause_at (rank c) ≡ c
unfolding clause_at
at_rank Complete = refl
at_rank _ = refl

same_rank : (a b : Clause) → rank a ≡ rank b → a ≡ b
same_rank a b e = sym (at_rank a) ∙ ap clause_at e ∙ at_rank b

named_push : (Holds : Clause → Type 0) (count : ℕ) (clauses : List Clause) (clause : Clause) → rank clause ≡ count → Holds clause → AreNamed Holds count clauses
    → AreNamed Holds (count + 1) (clauses ++ clause ∷ [])
named_push Holds count clauses clause is holds was = record {
  rising = rw (map_push rank clauses clause) (rising_push (map rank clauses) (rank clause) was.rising (rw is (All-map (λ x. x < count) rank clauses was.below)));
  below = All-push (λ (c : Clause). rank c < count + 1) clauses clause
      (All-weaker (λ (c : Clause). rank c < count) (λ (c : Clause). rank c < count + 1) (λ c less. omega arith) clauses was.below) (omega arith);
  listed = All-push Holds clauses clause was.listed holds;
  all = λ c less has. search (arith, Contains-append_left, same_rank, Contains-push clauses clause, cases_lt);
}

named_pass : (Holds : Clause → Type 0) (count : ℕ) (clauses : List Clause) (clause : Clause) → rank clause ≡ count → ¬ Holds clause → AreNamed Holds count clauses
    → AreNamed Holds (count + 1) clauses
named_pass Holds count clauses clause is not_here was = search (rules, All-weaker, same_rank, cases_lt)

-- the next clause is judged
pub named_more : (Holds : Clause → Type 0) (count : ℕ) (clauses : List Clause) (told : Bool) (clause : Clause) → rank clause ≡ count → (IsTrue told → Holds clause) → (Holds clause → IsTrue told)
    → AreNamed Holds count clauses → AreNamed Holds (count + 1) (clauses ++ noted told clause)
named_more Holds count clauses told clause is holds tells was =
    ⊎_elim (λ (e : told ≡ true). rw e (named_push Holds count clauses clause is (holds e) was))
    (λ (e : told ≡ false). rw (e, append-nil clauses) (named_pass Holds count clauses clause is (λ has. false≢true (sym e ∙ tells has)) was))
    (cases_Bool told)

rank_below : (c : Clause) → rank c < 6
rank_below Complete = omega arith
rank_below _ = omega arith

pub named_all : (Holds : Clause → Type 0) (clauses : List Clause) → AreNamed Holds 6 clauses → AreExactlyClauses Holds clauses
named_all Holds clauses was = search (rules, rank_below)

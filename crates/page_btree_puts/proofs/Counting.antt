-- Pages written and taken by calls that follow one another.
use Rattle.{std.{specs.Prelude.{Option, Some, None}, proofs.Common.{◌≡◌, ◌<◌, ◌≤◌, ◌+◌, ◌-◌, ℕ, subst, arith}}, page_btree_puts.specs.Putting.AreFew}
use Rattle.page_store.specs.{claim.Transactions.txn_free, declared.txn.Txn.Txn}

pub few_none : (d : ℕ) (t u : Txn) (right : Option ℕ) → 0 < d → right ≡ None → AreFew (d - 1) t u right → AreFew d t u right
few_none d t u None some is few = let a = few.0 in let b = few.1 in (omega arith, omega arith, few.2)
few_none d t u (Some q) some is few = cc

few_then : (d : ℕ) (t u v : Txn) (q : ℕ) (cut : Option ℕ) → 0 < d → AreFew (d - 1) t u (Some q) → AreFew 0 u v cut → AreFew d t v cut
few_then d t u v q None some few more = let a = few.0 in let b = few.1 in let c = more.0 in let e = more.1 in let f = few.2 in let h = more.2 in (omega arith, omega arith, omega arith)
few_then d t u v q (Some r) some few more = let a = few.0 in let b = few.1 in let c = more.0 in let e = more.1 in let f = few.2 in let h = more.2 in (omega arith, omega arith, omega arith)

pub few_some : (d : ℕ) (t u v : Txn) (q : ℕ) (right cut : Option ℕ) → 0 < d → right ≡ Some q → AreFew (d - 1) t u right → AreFew 0 u v cut → AreFew d t v cut
few_some d t u v q right cut some is few more = few_then d t u v q cut some (subst (AreFew (d - 1) t u) is few) more

pub few_taken : (d : ℕ) (t u : Txn) (q : ℕ) (right : Option ℕ) → 0 < d → right ≡ Some q → AreFew (d - 1) t u right → txn_free t ≤ txn_free u + d
few_taken d t u q right some is few = let b = (subst (AreFew (d - 1) t u) is few).1 in omega arith

pub few_some_taken : (d : ℕ) (t u : Txn) (q : ℕ) (right : Option ℕ) → right ≡ Some q → AreFew d t u right → txn_free t ≤ txn_free u + (d + 1)
few_some_taken d t u q None is few = cc
few_some_taken d t u q (Some r) is few = let b = few.1 in omega arith

-- What is said of a result, said of it by cases.
use Rattle.{std.{specs.Prelude.{Result, IfOk, IfErr, OnOk, OnErr, IsErrAnd, MatchResult}, proofs.Common.{◌≡◌, Ok, Err, subst, sym}}, page_store.specs.Reading.ReadsOnly}
use Rattle.{page_btree_gets.specs.declared.error.TreeError.{TreeError, TheVariants.NotAStore}, page_store.specs.{claim.Transactions.{IsQuiet, Passed}, declared.pages.Pages.Pages}}
use Rattle.{sector_device.specs.declared.SectorDevice.Ghosts, page_store.proofs.Stops.{passed_more, quiet_more}}

pub map_ok : {T E : Type 0} (r : Result T E) (A B : T → Type 0) → ((x : T) → A x → B x) → IfOk r A → IfOk r B
map_ok (Ok x) A B f h = f x h
map_ok (Err e) A B f h = tt

pub map_err : {T E : Type 0} (r : Result T E) (A B : E → Type 0) → ((e : E) → A e → B e) → IfErr r A → IfErr r B
map_err (Ok x) A B f h = tt
map_err (Err e) A B f h = f e h

pub map_both : {T E : Type 0} (r : Result T E) (A B : T → Type 0) (P Q : E → Type 0) → ((x : T) → A x → B x) → ((e : E) → P e → Q e) → MatchResult r A P → MatchResult r B Q
map_both (Ok x) A B P Q f k h = f x h
map_both (Err e) A B P Q f k h = k e h

-- an error that is known
pub err_of : {T E : Type 0} (r : Result T E) (x : E) (P : E → Type 0) → IsErrAnd r (λ e. e ≡ x) → P x → IfErr r P
err_of (Ok y) x P is h = absurd is
err_of (Err e) x P is h = subst P (sym is) h

pub match_of : {T E : Type 0} (r : Result T E) (A : T → Type 0) (x : E) (P : E → Type 0) → IsErrAnd r (λ e. e ≡ x) → P x → MatchResult r A P
match_of (Ok y) A x P is h = absurd is
match_of (Err e) A x P is h = subst P (sym is) h

pub on_ok : {T E : Type 0} (r : Result T E) (A : Type 0) → A → OnOk r A
on_ok (Ok x) A h = h
on_ok (Err e) A h = tt

-- a fault, where the error can only be one
pub fault_of : {T : Type 0} (r : Result T TreeError) (P : TreeError → Type 0) → IfErr r (λ e. e ≡ NotAStore) → OnErr r (P NotAStore) → IfErr r P
fault_of (Ok x) P is h = tt
fault_of (Err e) P is h = subst P (sym is) h

module _ {D : Type 0} {g : Ghosts D} where
  -- no call met a fault, where the last one met none
  pub passed_ok : {T E : Type 0} (r : Result T E) (old mid new : Pages D g) → Passed old mid → OnOk r (Passed mid new) → OnOk r (Passed old new)
  passed_ok r old mid new passed = map_ok r (λ _. Passed mid new) (λ _. Passed old new) (λ _ more. passed_more old mid new passed more)

  -- calls that only read, and answered
  pub reads_ok : {T E : Type 0} {refused : E → Type 0} {old new : Pages D g} {x : T} → Passed old new → ReadsOnly refused old new (Ok x)
  reads_ok passed = record { quiet = passed.quiet; passed = passed; err = tt }

  -- that were refused, also where the error is told by a `?`
  pub reads_err : {T E : Type 0} {refused : E → Type 0} {old new : Pages D g} {x : E} → IsQuiet old new → refused x → ReadsOnly {A = T} refused old new (Err x)
  reads_err quiet why = record { quiet = quiet; passed = tt; err = why }

  pub refused_by : {T E : Type 0} {refused : E → Type 0} {old new : Pages D g} {r : Result T E} (x : E) → IsErrAnd r (λ e. e ≡ x) → IsQuiet old new → refused x → ReadsOnly refused old new r
  refused_by {refused} {r = Ok y} x is quiet why = absurd is
  refused_by {refused} {r = Err e} x is quiet why = reads_err quiet (subst refused (sym is) why)

  pub refused_as : {T U E F : Type 0} {why : E → Type 0} {more : F → Type 0} {old new : Pages D g} {r : Result T F} {x : E} (y : F) → ReadsOnly {A = U} why old new (Err x) → IsErrAnd r (λ e. e ≡ y) → (why x → more y) → ReadsOnly more old new r
  refused_as y told is f = refused_by y is told.quiet (f told.err)

  pub refused_after : {T U E F : Type 0} {why : E → Type 0} {more : F → Type 0} {old mid new : Pages D g} {r : Result T F} {x : E} (y : F) → Passed old mid → ReadsOnly {A = U} why mid new (Err x) → IsErrAnd r (λ e. e ≡ y) → (why x → more y) → ReadsOnly more old new r
  refused_after {old} {mid} {new} y passed told is f = refused_by y is (quiet_more old mid new passed.quiet told.quiet) (f told.err)

  -- what the last call says, told of all: they passed those before
  pub reads_as : {T E : Type 0} {why more : E → Type 0} {old new : Pages D g} {r : Result T E} → ReadsOnly why old new r → ((e : E) → why e → more e) → ReadsOnly more old new r
  reads_as {why} {more} {r = r} is f = record { quiet = is.quiet; passed = is.passed; err = map_err r why more f is.err }

  pub reads_after : {T E : Type 0} {why more : E → Type 0} {old mid new : Pages D g} {r : Result T E} → Passed old mid → ReadsOnly why mid new r → ((e : E) → why e → more e) → ReadsOnly more old new r
  reads_after {why} {more} {old} {mid} {new} {r} passed is f = search (quiet_more, passed_ok, map_err)

  -- a part of a call that reads no page met the one fault that it can
  pub fault_refused : {T : Type 0} {refused : TreeError → Type 0} {old new : Pages D g} {r : Result T TreeError} → Passed old new → IfErr r (λ e. e ≡ NotAStore) → OnErr r (refused NotAStore) → ReadsOnly refused old new r
  fault_refused {refused} {r = r} passed is why = record { quiet = passed.quiet; passed = on_ok r _ passed; err = fault_of r refused is why }

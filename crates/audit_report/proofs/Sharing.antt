-- What a worker found so far, and all workers together.
use Rattle.std.{specs.{Prelude.Vec, declared.alloc.{AllocError.AllocError, Global.Global}}, proofs.Math.Nat.{add_comm, add-mul, mul-le-mul_right, div-add-mod, mod-lt, mul_comm}}
use Rattle.std.proofs.Common.{rules, ◌≡◌, ℕ, ◌+◌, ◌-◌, ◌*◌, ◌/◌, ◌%◌, ◌<◌, ◌≤◌, min, Bool, List, [], ◌∷◌, ◌++◌, length, map, get_or, Result, Ok, IfOk, sym, ap, ◌∙◌, subst, inl, inr, arith}
use Rattle.{std.proofs.lemmas.{Bool.cases_lt, List.{length-map, length_push, get_or-map, get_or_push, get_or_append_left}, Nat.mod-mul-add}, audit_contiguity.specs.Parts.Shown}
use Rattle.{audit_contiguity.specs.{claim.Breaks.AreBreaks, declared.breaks.Break.Break}, audit_report.specs.Share.{IsHeld, IsShare, AreNext, AreOwnParts, AreShares}}
use Rattle.audit_report.specs.{Work.{Audit, IsFound, shown_of}, declared.work.Found.Found}
use Rattle.audit_report.specs.declared.work.Found.TheVariants as found

pub next_more : (a : Audit) (workers worker piece : ℕ) (held : List Found) (x : Found) → AreNext a workers worker piece held → IsFound a piece x
    → AreNext a workers worker (piece + workers) (held ++ x ∷ [])
next_more a workers worker piece held x was is = record {
  next = let e = length_push held x in let f : (length held + 1) * workers ≡ length held * workers + 1 * workers = add-mul (length held) 1 workers in rw e (omega (arith, was.next, f));
  each = λ place less. elim (cases_lt place (length held)) [
    | inl before ↦ record { within = omega (arith, length_push held x); is = λ d. rw (get_or_append_left held (x ∷ []) d place before) ((was.each place before).is d) }
    | inr last ↦ search (rules, length_push, get_or_push)
  ];
}

pub next_all : (a : Audit) (pieces workers worker piece : ℕ) (held : List Found) → pieces ≤ piece → AreNext a workers worker piece held → IsShare a pieces workers worker held
next_all a pieces workers worker piece held all was place less = elim (cases_lt place (length held)) [
  | inl before ↦ was.each place before
  | inr past ↦ absurd (omega (arith, was.next, mul-le-mul_right {m = length held} {n = place} workers past))
]

abbrev pub Held : Type 0
Held = Vec Found Global

pub shares_all : (a : Audit) (pieces workers : ℕ) (shares : List Held) (results : List (Result Held AllocError)) → 0 < workers → length results ≡ workers → map Ok shares ≡ results
    → ((worker : ℕ) (d : Result Held AllocError) → worker < workers → IfOk (get_or results worker d) (λ v. IsShare a pieces workers worker v.items)) → AreShares a pieces workers shares
shares_all a pieces workers shares results some wide same each = record {
  wide = long;
  each = λ piece s less.
      let worker = piece % workers in
      let stands : get_or results worker (Ok s) ≡ Ok (get_or shares worker s) =
      ap (λ rs. get_or rs worker (Ok s)) (sym same) ∙ get_or-map Ok shares worker s (Ok s) (omega (arith, long, mod-lt piece some)) in
      let is : worker + (piece / workers) * workers ≡ piece = omega (arith, div-add-mod piece workers, mul_comm (piece / workers) workers) in
      subst (λ p. IsHeld a p (piece / workers) (get_or shares worker s).items) is ((rw stands at (each worker (Ok s) (mod-lt piece some))) (piece / workers) (omega (arith, is, less)));
}
  where
    long : length shares ≡ workers
    long = sym (length-map shares Ok) ∙ ap length same ∙ wide

-- which of the parts so far are own
pub record AreOwnSoFar (workers worker piece : ℕ) (own : List Bool) : Type 0 where
  pub long : length own + 3 ≡ piece
  pub each : AreOwnParts piece workers worker own

-- the piece that is next is one of the worker's
pub next_is_own : (a : Audit) (workers worker piece : ℕ) (held : List Found) → worker < workers → AreNext a workers worker piece held → piece % workers ≡ worker
next_is_own a workers worker piece held own was =
    ap (λ p. p % workers) (was.next ∙ add_comm worker (length held * workers)) ∙ mod-mul-add (length held) workers worker own

pub breaks_of_piece : (a : Audit) (own : List Bool) (shown : Shown) (piece : ℕ) (v : Vec Break Global) → 3 ≤ piece → shown ≡ shown_of a own
    → AreBreaks shown.geography shown.plan (16 * (piece - 3) + 1) (min (16 * (piece - 3) + 16) shown.count) v.items → IsFound a piece (found.Breaks v)
breaks_of_piece a own shown piece v after is are = search rules

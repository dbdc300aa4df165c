use Rattle.std.proofs.{Common.{◌≡◌, ◌≤◌, ◌++◌, List, ℕ, length, take, drop, arith, ap, sym, subst, ◌∙◌, rules}, Math.Seq.take-append_seam}
use Rattle.desk_store_lists.proofs.pieces.replaced.Goals as goal

-- a list that was written over one of the same length
written_over : (new old : List ℕ) (count : ℕ) → count ≡ length old → length new ≡ length old → take count (new ++ drop (length new) old) ≡ new
written_over new old count counted long = search (rules, take-append_seam)

pub replace-requires-clause-within : goal.replace-requires-clause-within
replace-requires-clause-within c = subst (λ (l : List ℕ). c.args.to ≤ length l) (sym c.deref_mut.ensures.value) c.requires.within

pub returns : goal.returns
returns c =
    let long : length c.replace.new.districts ≡ length c.args.districts.items = omega (arith, c.replace.auto.districts, ap length c.deref_mut.ensures.value) in
    written_over c.replace.new.districts c.args.districts.items c.args.districts.len c.args.districts.ok.0 long
    ∙ c.replace.ensures
    ∙ ap (λ (l : List ℕ). take c.args.from l ++ (c.args.new.now ++ drop c.args.to l)) c.deref_mut.ensures.value

use Rattle.{std.proofs.{Common.{arith, rules, length, get_or, false, min, ◌+◌, ◌-◌, ◌*◌, IsTrue, subst, ap, sym}, lemmas.Result.IfOk-weaker}, audit_contiguity.specs.Parts.Shown}
use Rattle.audit_contiguity.{specs.claim.Breaks.AreBreaks, proofs.Keeping.{forest_within, lowest_within, own_breaks}}
use Rattle.audit_contiguity.proofs.parts.DistrictTrees.breaks.Goals as goal

pub tell-requires : goal.tell-requires
tell-requires c = record {
  beside = search rules;
  forest =
      rw (c.as_slice.ensures.value, c.as_slice-2.ensures.value)
      (forest_within c.self.inside.geography.now.pairs c.self.inside.plan.items c.self.inside.parents.items 1 c.self.inside.count (16 * c.args.part + 1) c.min-last.result (length c.self.inside.geography.now.pairs)
      (omega arith) (omega (arith, c.min-last.ensures)) c.self.invariant.rooted.forest);
  lowest_are =
      rw (c.as_slice.ensures.value, c.as_slice-2.ensures.value, c.deref.ensures.value)
      (lowest_within c.self.inside.parents.items c.self.inside.plan.items (length c.self.inside.plan.items) 1 (c.self.inside.count + 1 - 1) _ _ _ _ c.self.inside.lowest.items
      (omega arith) (omega arith) (omega (arith, c.min-last.ensures, ap (λ (s : Shown). s.count) c.self.view_is)) c.self.invariant.rooted.lowest_are);
}

pub returns : goal.returns
returns c =
    let part = c.args.part in
    let s : Shown = record { geography = c.self.inside.geography.now; plan = c.self.inside.whole.now; count = c.self.inside.count; own = c.self.inside.own.items } in
    let own : IsTrue (get_or s.own part false) = subst (λ (t : Shown). IsTrue (get_or t.own part false)) (sym c.self.view_is) c.requires.own in
    IfOk-weaker c.tell.result _ _
    (λ v are.
    let there = subst (λ p. AreBreaks s.geography p (16 * part + 1) c.min-last.result v.items) c.as_slice.ensures.value are in
    let short = subst (λ n. AreBreaks s.geography c.self.inside.plan.items (16 * part + 1) n v.items) c.min-last.ensures there in
    subst (λ (t : Shown). AreBreaks t.geography t.plan (16 * part + 1) (min (16 * part + 16) t.count) v.items) c.self.view_is
    (own_breaks s c.self.inside.plan.items part v.items c.self.invariant.plan_is own short))
    c.tell.ensures

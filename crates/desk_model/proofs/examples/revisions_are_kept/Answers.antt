use Rattle.{std.{specs.{Cmp.Lexicographic.nat_list_cmp_total, FinMap.get-insert, Fmt.digits}, proofs.Common.{◌≡◌, [], ◌∷◌, refl, ap}}, desk_model.specs.claim.Desk.Plan}
use Rattle.desk_model.specs.{Examples.{name_a, county_text, sample_text, plan_of, desk_of}, claim.{Printed.printed, Sample.sample, Step.{says, blocks_text}}}
use Rattle.desk_model.{specs.declared.kind.Kind.TheVariants.Congress, proofs.Maps.insert_again}
use Rattle.std.specs.FinMap as map_of
use Rattle.desk_model.specs.declared.reply.Reply.TheVariants as reply
use Rattle.desk_model.proofs.examples.revisions_are_kept.Goals as goal

text : printed sample Congress (1 ∷ 1 ∷ 2 ∷ 2 ∷ []) ≡ county_text
unfolding digits
text = refl

rows : blocks_text sample ≡ sample_text
unfolding digits
rows = refl

pub returns : goal.returns
returns c = record {
  made = simp (get-insert {X = Plan} nat_list_cmp_total)
      (ap (λ m. (reply.Created name_a 1, record (desk_of (plan_of [])) { plans = m })) (insert_again map_of.empty name_a (plan_of []) (plan_of ((1 ∷ 1 ∷ 2 ∷ 2 ∷ []) ∷ []))));
  back = simp (get-insert {X = Plan} nat_list_cmp_total) (ap (λ bytes. says (reply.Baf bytes)) text);
  stale = simp (get-insert {X = Plan} nat_list_cmp_total);
  blocks = ap (λ bytes. says (reply.Blocks bytes)) rows;
}

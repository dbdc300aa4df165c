-- Plans under their names.
use Rattle.std.{specs.{Cmp.Lexicographic.nat_list_cmp_total, Ordering.eq_by_cmp}, proofs.Common.{◌≡◌, ℕ, List, [], Bool, cond, ap, sym, ◌∙◌, arith, Option, Some, None}}
use Rattle.std.specs.FinMap.{get-empty, get-insert, get-remove, len-empty, len-entries, same_map, slice_cmp-IsAntisymmetric, nat_cmp-IsAntisymmetric}
use Rattle.{std.proofs.lemmas.List.nil_from_length, desk_model.specs.claim.Desk.{Plan, name_cmp}}
use Rattle.std.specs.FinMap as map_of

pub entries-empty : map_of.entries (map_of.empty {X = Plan} {R = name_cmp}) ≡ []
entries-empty = nil_from_length _ (rw (← len-entries) (len-empty name_cmp Plan))

shadowed : {A : Type 0} (b : Bool) (x y z : A) → cond b x (cond b y z) ≡ cond b x z
shadowed b x y z = search arith

-- the later plan under a name takes the earlier one's place
pub insert_again : (m : map_of.FinMap name_cmp Plan) (name : List ℕ) (p q : Plan) → map_of.insert (map_of.insert m name p) name q ≡ map_of.insert m name q
insert_again m name p q = same_map nat_list_cmp_total (slice_cmp-IsAntisymmetric nat_cmp-IsAntisymmetric) _ _ (λ at.
    get-insert nat_list_cmp_total _ name q at ∙ ap (cond (eq_by_cmp name_cmp at name) (Some q)) (get-insert nat_list_cmp_total m name p at)
    ∙ shadowed (eq_by_cmp name_cmp at name) _ _ _ ∙ sym (get-insert nat_list_cmp_total m name q at))

removed : {A : Type 0} (b : Bool) (x : Option A) → cond b None (cond b x None) ≡ None
removed b x = search arith

-- the only plan, taken away
pub remove_only : (name : List ℕ) (p : Plan) → map_of.remove (map_of.insert map_of.empty name p) name ≡ map_of.empty {X = Plan} {R = name_cmp}
remove_only name p = same_map nat_list_cmp_total (slice_cmp-IsAntisymmetric nat_cmp-IsAntisymmetric) _ _ (λ at.
    get-remove nat_list_cmp_total _ name at
    ∙ ap (cond (eq_by_cmp name_cmp at name) None) (get-insert nat_list_cmp_total map_of.empty name p at ∙ ap (cond (eq_by_cmp name_cmp at name) (Some p)) (get-empty name_cmp at))
    ∙ removed (eq_by_cmp name_cmp at name) (Some p) ∙ sym (get-empty name_cmp at))

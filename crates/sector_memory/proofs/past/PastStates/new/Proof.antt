-- `new` makes a value of no bytes, at the empty list.
use Rattle.{std.proofs.{Common.{[], ◌∷◌, refl}, raw_atomic.Walks.proved}, sector_memory.specs.{contracts.past.PastStates.new.Key.name as #it, declared.past.PastStates.PastStates}}
use mir.Val.{Val, vstruct, vcons, vnil}
use types.{ByLocal.{alloc_all, pass_all, free_all, look_at, get, sets}, Kit.{raw, ◌$◌, ◌∵◌, !, qed, keep, join, suffices, done}, Part.agg, Run.{no_more, and_then, returns, enter}}
use denote.{Shadow.pure_i, Steps.nothing, Triple.{Entry.on_entry, Walked.{says, ends_at}}}
use Rattle.sector_memory.specs.contracts.past.PastStates as T
use Rattle.sector_memory.specs.contracts.past.PastStates.new as it
use Rattle.sector_memory.proofs.past.PastStates.new.Statement as stated
use Rattle.sector_memory.proofs.past.PastStates.new.Code as code

abbrev v : Val
v = vstruct (vcons (vstruct vnil) vnil)

abbrev r : PastStates
r = record { marker = record {}; states = [] }

pub new_spec : {M : Type 1} → stated.statement M
new_spec 𝓤 𝓛 𝓜 𝓡 wired =
    let c = it.clauses 𝓛 𝓜.mem 𝓡.returns in
    proved 𝓛 it.ended tt c 𝓜 𝓡 tt #it code.function (code.unfolded 𝓤 𝓛.H 𝓜 𝓡 wired) (λ κs. tt) (λ κs. tt) (λ κs qs bounds a g _.
    qed 𝓛 (raw (on_entry 𝓛 it.signature κs qs a tt) ∷ raw ((c κs a).requires g) ∷ []) ∵ keep ! [] $
    enter ! _ _ _ _ _ $ alloc_all ! (λ l. pass_all ! refl tt $
    sets ! (agg ! (no_more !)) refl (tt, tt) $ sets ! (agg ! (and_then ! (get ! refl) (no_more !))) refl (tt, (tt, tt)) $
    returns ! (look_at ! 0 refl) $ free_all ! refl $
    pure_i ! ((T.the_row).own_val r (v ∷ [])) ((λ vss. (tt, ((λ uss. (tt, tt)), tt))), tt) (((vstruct vnil ∷ [], tt), (refl, ((tt, (refl, tt)), tt))), tt) $
    suffices ! _ (ends_at 𝓛 it.ended tt c ((κs, qs, bounds, a, tt), g) v r tt tt) $ says ! refl $ nothing ! $ join ! $ nothing ! $ done !))

-- An empty body. The borrow is opened and closed at another ghost value.
use Rattle.{std.proofs.{Common.{[], ◌∷◌, refl}, raw_atomic.Walks.proved}, sector_file.specs.{contracts.record.Record.note.Key.name as #it, declared.record.Record.Record}}
use mir.{Syntax.named, Val.{vunit, vptr}}
use base.{Fml.{ftrue, flft}, Logic.id⊢}
use types.{ByLocal.{alloc_all, pass_all, free_all, look_at, sets}, Run.{unit_lit, of_opd, returns, enter}}
use types.Kit.{‵, ◌⊛◌, ◌$◌, ◌∵◌, !, qed, move, keep, drop, use1, split, join, fsplit, fsplit3, fjoin, fjoin3, feq_i, suffices, frame, done}
use denote.{Builtin.{u8, u64}, Exit.yes, RattleType.owns, Ref.{MutRef, mut_vals, mut_Tells}, Signature.plain, Slice.{ShrSlice, shr_slice_vals, shr_slice_Tells}}
use denote.{Steps.{opens, closes}, Triple.Walked.{says, Stays, stay_ref, walk_of, Goes-ref, ends_at, stay_none_slice, Goes-none_slice}}
use Rattle.sector_file.specs.contracts.record.Record as T
use Rattle.sector_file.specs.contracts.record.Record.note as it
use Rattle.sector_file.proofs.record.Record.note.Statement as stated
use Rattle.sector_file.proofs.record.Record.note.Code as code

abbrev stayed : Stays (it.ended).signature.params (it.ended).kept
stayed = (stay_ref (0 ∷ []) tt (plain (λ _. T.the_row)), (stay_none_slice (1 ∷ []) tt (plain (λ _. u64)) yes, (stay_none_slice (2 ∷ []) tt (plain (λ _. u8)) yes, tt)))

pub note_spec : {M : Type 1} → stated.statement M
note_spec 𝓤 𝓛 𝓜 𝓡 wired =
    let c = it.clauses 𝓛 𝓜.mem 𝓡.returns in let W = walk_of 𝓛 it.ended stayed c in
    proved 𝓛 it.ended stayed c 𝓜 𝓡
    (Goes-ref 𝓛 3 0 tt (plain (λ _. T.the_row)), (Goes-none_slice 𝓛 3 (1 ∷ []) tt (plain (λ _. u64)) yes, (Goes-none_slice 𝓛 3 (2 ∷ []) tt (plain (λ _. u8)) yes, tt)))
    #it code.function (code.unfolded 𝓤 𝓛.H 𝓜 𝓡 wired) (λ κs. (mut_vals, (shr_slice_vals, (shr_slice_vals, tt))))
    (λ κs. (mut_Tells (named 0) κs.0 T.the_row, (shr_slice_Tells (named 1) κs.1.0 u64, (shr_slice_Tells (named 2) κs.1.1.0 u8, tt)))) (λ κs qs bounds a _ are.
    let b = a.0.ref_ptr.0 in let o = a.0.ref_ptr.1 in let k = a.1.0 in let s = a.1.1.0 in
    let y : W.Ghost = ((κs, qs, bounds, a, (mut_vals a.0, (shr_slice_vals k, (shr_slice_vals s, tt)))), tt) in
    let new : Record = record { marker = a.0.now.marker; calls = (k.now, s.now) ∷ a.0.now.calls } in
    qed 𝓛 (((‵ (flft κs.0 qs.0) ⊛ (‵ (flft κs.1.0 qs.1.0) ⊛ (‵ (flft κs.1.1.0 qs.1.1.0) ⊛ ‵ ftrue)))
    ⊛ ‵ (owns (MutRef (named 0) κs.0 T.the_row ∷ ShrSlice (named 1) κs.1.0 u64 ∷ ShrSlice (named 2) κs.1.1.0 u8 ∷ []) a y.0.4)) ∷ ‵ ftrue ∷ []) ∵
    split ! $ split ! $ move ! (2 ∷ []) $ fsplit ! $ fsplit3 ! $ drop ! $ move ! (0 ∷ 1 ∷ 3 ∷ []) $ enter ! _ _ _ _ _ $
    alloc_all ! (λ l. pass_all ! refl ((tt, tt), ((tt, (tt, (record { fits = are.1.0.0.1.0 }, tt))), ((tt, (tt, (record { fits = are.1.1.0.0.1.0 }, tt))), tt))) $
    move ! (0 ∷ 1 ∷ 2 ∷ []) $ opens ! tt T.the_row {h = a.0.now} b o (λ vs. sets ! (of_opd ! (unit_lit !)) refl (tt, tt) $
    move ! (1 ∷ []) $ use1 𝓛 (‵ ((T.the_row).own_val new vs)) (id⊢ 𝓤 _) $ move ! (1 ∷ 0 ∷ []) $ closes ! tt T.the_row new vs b o $
    returns ! (look_at ! 0 refl) $ free_all ! refl $ keep ! (0 ∷ 1 ∷ 2 ∷ 3 ∷ 4 ∷ []) $
    suffices ! _ (ends_at 𝓛 it.ended stayed c y vunit tt (new, (tt, (tt, tt))) (tt, (tt, (tt, tt)))) $ says ! refl $ move ! (2 ∷ 4 ∷ []) $ join ! $
    frame ! $ feq_i ! _ (vptr b o ∷ []) _ refl $ fjoin3 ! $ fjoin ! $ feq_i ! _ (vunit ∷ []) _ refl $ move ! (1 ∷ 0 ∷ []) $ done !)))

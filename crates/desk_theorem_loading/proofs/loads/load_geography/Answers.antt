use Rattle.{std.proofs.Common.{◌≡◌, ◌-◌, ℕ, ap, subst, arith}, desk_store.specs.{Keeping.sealed_desk, Loads.Stages, claim.Clerks.Keeps}, desk_theorem_loading.specs.Loads.HasBegun}
use Rattle.{desk_store.specs.geo_tables.Loading.{geography_model_of, done_of}, desk_store_rows.specs.claim.GeographyRows.geography_rows, desk_theorem_loading.proofs.Moves.may_move}
use Rattle.desk_theorem_loading.proofs.Staged.{begun_moved, begin_refused, staging_refused, load_moved, load_sealed, seal_refused}
use Rattle.desk_theorem_loading.proofs.loads.load_geography.Given.{Over}
use Rattle.desk_theorem_loading.proofs.loads.load_geography.Goals.{In-Ok}
use Rattle.desk_theorem_loading.proofs.loads.load_geography.Goals as goal

-- the load was begun
begun : (g : Over) (c : In-Ok g) → HasBegun c.args.clerk.now c.args.geography.value c.begin_load.new.self c.in-Ok.load
begun g c =
    let did = c.in-Ok.ensures in
    record { unsealed = did.unsealed; worked = did.loads.working.0; moves = did.moves; desk = did.loads.desk; staged = did.staged; last = did.last; the_geography = ap (λ a. a.value) did.load.0; none = did.load.1; works = did.loads.working.1 }

pub returns-in-Err-clause-moves : goal.returns-in-Err-clause-moves
returns-in-Err-clause-moves g c = may_move (Keeps c.args.clerk.now) (sealed_desk c.args.geography.value) c.args.clerk.now c.begin_load.new.self c.in-Err.ensures.moves

pub returns-in-Err-clause-err : goal.returns-in-Err-clause-err
returns-in-Err-clause-err g c = search (c.in-Err.ensures, begin_refused)

pub returns-in-Err-stage_rows-clause-moves : goal.returns-in-Err-stage_rows-clause-moves
returns-in-Err-stage_rows-clause-moves g c =
    let w = c.begin_load.new.self in
    let next = sealed_desk c.args.geography.value in
    begun_moved c.args.clerk.now w c.stage_rows.new.clerk c.args.geography.value c.in-Ok.load next (begun g (goal.at.returns-in-Err-stage_rows-clause-moves g c).In-Ok)
    (may_move (Stages w c.in-Ok.load) next w c.stage_rows.new.clerk c.stage_rows.ensures.moves)

pub returns-in-Err-stage_rows-clause-err : goal.returns-in-Err-stage_rows-clause-err
returns-in-Err-stage_rows-clause-err g c =
    staging_refused c.args.clerk.now c.begin_load.new.self c.stage_rows.new.clerk c.args.geography.value c.in-Ok.load (begun g (goal.at.returns-in-Err-stage_rows-clause-err g c).In-Ok)
    c.in-Err-stage_rows.e c.in-Err-stage_rows.ensures.err

pub returns-in-Ok-seal-clause-moves : goal.returns-in-Ok-seal-clause-moves
returns-in-Ok-seal-clause-moves g c =
    let staged = c.in-Ok-stage_rows.ensures in
    load_moved (begun g (goal.at.returns-in-Ok-seal-clause-moves g c).In-Ok) staged.staged staged.done c.in-Ok-seal.ensures.moves c.in-Ok-seal.ensures.loading

pub returns-in-Ok-seal-clause-loaded : goal.returns-in-Ok-seal-clause-loaded
returns-in-Ok-seal-clause-loaded g c =
    let staged = c.in-Ok-stage_rows.ensures in
    let did = c.in-Ok-seal.ensures in
    load_sealed (begun g (goal.at.returns-in-Ok-seal-clause-loaded g c).In-Ok) staged.staged staged.done did.moves did.loading did.sealed did.working.1

pub returns-in-Ok-seal-clause-told : goal.returns-in-Ok-seal-clause-told
returns-in-Ok-seal-clause-told g c =
    let area : geography_rows (geography_model_of c.in-Ok.load) ≡ geography_rows c.args.geography.value = ap (λ a. geography_rows a.value) c.in-Ok.ensures.load.0 in
    let rows : geography_rows (geography_model_of c.in-Ok.load) - done_of c.in-Ok.load ≡ geography_rows c.args.geography.value = omega (arith, area, c.in-Ok.ensures.load.1) in
    subst (λ (n : ℕ). g.P.Progress.is_told c.stage_rows.new.progress n) rows c.stage_rows.ensures.told

pub returns-in-Err-seal-clause-moves : goal.returns-in-Err-seal-clause-moves
returns-in-Err-seal-clause-moves g c =
    let staged = c.in-Ok-stage_rows.ensures in
    load_moved (begun g (goal.at.returns-in-Err-seal-clause-moves g c).In-Ok) staged.staged staged.done c.in-Err-seal.ensures.moves c.in-Err-seal.ensures.loading

pub returns-in-Err-seal-clause-err : goal.returns-in-Err-seal-clause-err
returns-in-Err-seal-clause-err g c =
    let staged = c.in-Ok-stage_rows.ensures in
    let did = c.in-Err-seal.ensures in
    seal_refused (begun g (goal.at.returns-in-Err-seal-clause-err g c).In-Ok) staged.staged staged.done did.moves did.loading did.unsealed did.quiet c.in-Err-seal.e did.err

-- Batches of a load, one after the other, and a whole load.
use Rattle.{std.{specs.Prelude.min, proofs.Common.{◌≡◌, ◌-◌, ℕ, false, Some, None, inl, inr, rules, sym, ap, subst, ◌∙◌}}, desk_model.specs.claim.Desk.Desk}
use Rattle.{desk_model.specs.claim.Geography.GeographyModel, desk_store.specs.{Keeping.sealed_desk, Loads.{Stages, IsLast, BatchRefused, SealRefused}, declared.clerk.Clerk.Clerk}}
use Rattle.desk_store.{specs.{claim.Clerks.{desk_of, pages_of, room_of, Keeps, Moves, MovesIf}, geo_tables.Loading.{IsFurther, geography_model_of, done_of}}, proofs.Moved.unmoved}
use Rattle.{desk_store.specs.geo_tables.declared.load.Load.Load, desk_store_pages.specs.declared.error.StoreError.StoreError, page_store.specs.claim.Transactions.IsQuiet}
use Rattle.{desk_store_pages.specs.declared.error.StoreError.TheVariants.{AlreadySealed, Full, Memory, NotAStore, Halted, Ended}, sector_device.specs.declared.SectorDevice.Ghosts}
use Rattle.{desk_store_rows.specs.claim.GeographyRows.geography_rows, desk_theorem_loading.proofs.Moves.then_moved}
use Rattle.desk_theorem_loading.specs.Loads.{batch_rows, HasBegun, HasStaged, HasWhole, IsLoaded, BeginStopped, BatchStopped, StageRefused, SealStopped, LoadRefused}

module _ {D : Type 0} {g : Ghosts D} where
  -- ---- batches
  pub none_staged : (x : Clerk D g) (load : Load) → HasStaged x load x load
  none_staged x load =
      let moves : MovesIf (Stages x load) (desk_of x) x x = unmoved (Stages x load) (desk_of x) x (λ stages. stages.keeps) in
      search rules

  -- calls after those that staged
  pub staged_moved : (x y z : Clerk D g) (load so_far : Load) (next : Desk) → HasStaged x load y so_far → MovesIf (Stages y so_far) next y z → MovesIf (Stages x load) next x z
  staged_moved x y z load so_far next one moves = then_moved (Stages x load) (Stages y so_far) next x y z one.moves one.desk one.staged moves

  -- and such a call that leaves the desk
  pub batch_moved : (x y z : Clerk D g) (load so_far : Load) → HasStaged x load y so_far → MovesIf (Stages y so_far) (desk_of y) y z → MovesIf (Stages x load) (desk_of x) x z
  batch_moved x y z load so_far one moves = staged_moved x y z load so_far (desk_of x) one (subst (λ (d : Desk). MovesIf (Stages y so_far) d y z) one.desk moves)

  pub more_staged : (x y z : Clerk D g) (load so_far more : Load) (rows : ℕ) → HasStaged x load y so_far → MovesIf (Stages y so_far) (desk_of y) y z → desk_of z ≡ desk_of y → z.loading ≡ y.loading → IsFurther so_far more rows
      → (Stages y so_far → Stages z more) → z.halted ≡ false → HasStaged x load z more
  more_staged x y z load so_far more rows one moves desk loading further staged works = search (rules, batch_moved x y z load so_far one moves)

  -- a batch that was refused
  module _ (x w y : Clerk D g) (load so_far : Load) (rows : ℕ) (before : HasStaged x load w so_far) (last : IsLast w so_far) (unsealed : (desk_of w).geography ≡ None)
      (rows_are : rows ≡ min (geography_rows (geography_model_of load) - done_of so_far) (batch_rows (room_of x))) (moves : MovesIf (Stages w so_far) (desk_of w) w y) (desk : desk_of y ≡ desk_of w) (loading : y.loading ≡ w.loading)
      (quiet : y.halted ≡ false → IsQuiet (pages_of w) (pages_of y)) where
    stopped : (e : StoreError) → BatchRefused so_far rows w e y.halted (pages_of y) → BatchStopped x load e y
    stopped e why = record { w = w; so_far = so_far; before = before; rows = rows; rows_are = rows_are; moves = moves; desk = desk; loading = loading; quiet = quiet; why = why }

    pub stage_refused : (e : StoreError) → BatchRefused so_far rows w e y.halted (pages_of y) → StageRefused x load e y
    stage_refused AlreadySealed why = absurd (let clash : Some why.0 ≡ None = sym why.1 ∙ unsealed in cc)
    stage_refused Full why = stopped Full why
    stage_refused Memory why = stopped Memory why
    stage_refused NotAStore why = stopped NotAStore why
    stage_refused Halted why = stopped Halted why
    stage_refused Ended why = absurd (why.1 last)
    stage_refused _ why = absurd why

  -- ---- a whole load
  -- calls after a load's beginning
  pub begun_moved : (x w z : Clerk D g) (area : GeographyModel) (load : Load) (next : Desk) → HasBegun x area w load → MovesIf (Stages w load) next w z → Moves next x z
  begun_moved x w z area load next begun moves = then_moved (Keeps x) (Stages w load) next x w z begun.moves begun.desk begun.staged moves

  pub begin_refused : (x y : Clerk D g) (area : GeographyModel) (e : StoreError) → BeginStopped x area e y → LoadRefused x area e y
  begin_refused x y area AlreadySealed stopped = stopped
  begin_refused x y area Full stopped = inl stopped
  begin_refused x y area Memory stopped = inl stopped
  begin_refused x y area NotAStore stopped = inl stopped
  begin_refused x y area Halted stopped = inl stopped
  begin_refused x y area _ stopped = absurd stopped.why

  pub staging_refused : (x w y : Clerk D g) (area : GeographyModel) (load : Load) → HasBegun x area w load → (e : StoreError) → StageRefused w load e y → LoadRefused x area e y
  staging_refused x w y area load begun Full why = inr (inl (record { w = w; load = load; begun = begun; why = why }))
  staging_refused x w y area load begun Memory why = inr (inl (record { w = w; load = load; begun = begun; why = why }))
  staging_refused x w y area load begun NotAStore why = inr (inl (record { w = w; load = load; begun = begun; why = why }))
  staging_refused x w y area load begun Halted why = inr (inl (record { w = w; load = load; begun = begun; why = why }))
  staging_refused x w y area load begun _ why = absurd why

  module _ {x w v y : Clerk D g} {area : GeographyModel} {load all : Load} (begun : HasBegun x area w load) (staged : HasStaged w load v all) (done : done_of all ≡ geography_rows (geography_model_of all))
      (moved : MovesIf (Stages v all) (sealed_desk (geography_model_of all)) v y) (loading : y.loading ≡ v.loading) where
    the_geography : geography_model_of all ≡ area
    the_geography = (λ i. (staged.geography i).value) ∙ begun.the_geography

    whole : HasWhole x area v all
    whole = record { w = w; load = load; begun = begun; staged = staged; done = done ∙ ap geography_rows the_geography }

    moves : MovesIf (Stages v all) (sealed_desk area) v y
    moves = subst (λ (a : GeographyModel). MovesIf (Stages v all) (sealed_desk a) v y) the_geography moved

    last : IsLast v all
    last = staged.loading ∙ begun.last ∙ ap Some (sym staged.number)

    pub load_moved : Moves (sealed_desk area) x y
    load_moved = begun_moved x w y area load (sealed_desk area) begun (staged_moved w v y load all (sealed_desk area) staged moves)

    pub load_sealed : desk_of y ≡ sealed_desk (geography_model_of all) → y.halted ≡ false → IsLoaded x area y
    load_sealed desk works = record { w = v; load = all; whole = whole; moves = moves; desk = desk ∙ ap sealed_desk the_geography; last = loading ∙ last; works = works }

    module _ (desk : desk_of y ≡ desk_of v) (quiet : y.halted ≡ false → IsQuiet (pages_of v) (pages_of y)) where
      seal_stopped : (e : StoreError) → SealRefused all v e y.halted (pages_of y) → SealStopped x area e y
      seal_stopped e why = record { w = v; load = all; whole = whole; moves = moves; desk = desk; loading = loading; quiet = quiet; why = why }

      pub seal_refused : (e : StoreError) → SealRefused all v e y.halted (pages_of y) → LoadRefused x area e y
      seal_refused AlreadySealed why = absurd (let clash : Some why.0 ≡ None = sym why.1 ∙ ap (λ (d : Desk). d.geography) (staged.desk ∙ begun.desk) ∙ begun.unsealed in cc)
      seal_refused Full why = inr (inr (seal_stopped Full why))
      seal_refused Memory why = inr (inr (seal_stopped Memory why))
      seal_refused NotAStore why = inr (inr (seal_stopped NotAStore why))
      seal_refused Halted why = inr (inr (seal_stopped Halted why))
      seal_refused Ended why = absurd (why.1 last)
      seal_refused _ why = absurd why

-- One request in a life.
use Rattle.{std.proofs.Common.{◌≡◌, false, [], ◌∷◌, inl, refl, arith}, desk_theorem.specs.claim.OneLife.RequestsHold, desk_theorem_lives.specs.claim.DeskLives.Lived}
use Rattle.desk_theorem_lives.specs.{DeskInside.{Answers, LivedThrough, Stands}, declared.desk_lives.{Answer.Answer, Request.Request}, desk_store.declared.clerk.Clerk.Clerk}
use Rattle.{desk_theorem_lives.specs.desk_store.claim.Clerks.{desk_of, disk_of, is_halted, sectors_of, Keeps}, sector_device.specs.declared.SectorDevice.Ghosts}
use Rattle.{desk_theorem.proofs.{Device.through_more, OneLife.requests_hold}, desk_theorem_lives.proofs.DeskLiving.{ends, fails_no_less, goes_on, same_sectors, was_honest}}

module _ {D : Type 0} {g : Ghosts D} (x : Clerk D g) (q : Request) (a : Answer) (y : Clerk D g) where
  one_lived : Answers x q a y → LivedThrough (λ t u d e. Lived t u d (q ∷ []) (a ∷ []) e) x y
  one_lived did =
      let t = (disk_of x).faults in
      let d = desk_of x in
      let n = sectors_of x in
      let stands : (Keeps x → is_halted x ≡ false → (disk_of y).is_honest → Stands t d n (q ∷ []) [] (a ∷ []) y)
      = λ keeps off honest. goes_on t d n (q ∷ []) [] [] x q a y refl honest did (inl (off, keeps, refl, λ u told e lived. lived)) in
      record {
        sectors = same_sectors x q a y did;
        honest = was_honest x q a y did;
        faults = λ keeps off honest. fails_no_less t d n (q ∷ []) (a ∷ []) y (stands keeps off honest);
        lived = λ keeps off honest. ends t d n (q ∷ []) (a ∷ []) y (same_sectors x q a y did) honest (stands keeps off honest);
      }

  pub one_asked : Answers x q a y → LivedThrough (RequestsHold (q ∷ []) (a ∷ [])) x y
  one_asked did = through_more x y (λ t u d e. Lived t u d (q ∷ []) (a ∷ []) e) (RequestsHold (q ∷ []) (a ∷ [])) (requests_hold (q ∷ []) (a ∷ [])) (one_lived did)

-- nothing was asked
pub none_asked : {D : Type 0} {g : Ghosts D} (x : Clerk D g) → LivedThrough (RequestsHold [] []) x x
none_asked x = through_more x x (λ t u d e. Lived t u d [] [] e) (RequestsHold [] []) (requests_hold [] []) (record {
  sectors = refl;
  honest = λ now. now;
  faults = λ keeps off now. omega arith;
  lived = λ keeps off now. ends (disk_of x).faults (desk_of x) (sectors_of x) [] [] x refl now (inl (off, keeps, refl, λ u told e lived. lived));
})

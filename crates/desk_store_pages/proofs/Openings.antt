-- Lemmas on the definitions of Commits.
use Rattle.{std.{specs.Prelude.{◌⊎◌, ℕ, Bool}, proofs.Common.{rules, inl, inr, ⊎_elim}}, desk_model.specs.claim.Desk.Desk, desk_store_pages.specs.Commits.OpensRows}
use Rattle.{desk_store_pages.specs.claim.Desks.{IsMapOf, OpensDeskOf}, desk_store_rows.specs.claim.Rows.KeyMap, sector_device.specs.claim.{Disk.{Disk, Image}, Moments.LeavesOnly}}
use Rattle.sector_device.proofs.Moments.{leaves_wider}

-- it opens to the desk whose rows the map has
pub opens_desk : {new : Bool} (sectors : ℕ) (m : KeyMap) (d : Desk) (c : Image) → IsMapOf new m d → OpensRows sectors m c → OpensDeskOf new sectors d c
opens_desk sectors m d c is opens = search rules

-- so do those that a stop leaves
pub leaves_desk : {was now : Bool} (sectors : ℕ) (m next : KeyMap) (d e : Desk) (old new : Disk) → IsMapOf was m d → IsMapOf now next e → LeavesOnly (λ c. OpensRows sectors m c ⊎ OpensRows sectors next c) old new → LeavesOnly (λ c. OpensDeskOf was sectors d c ⊎ OpensDeskOf now sectors e c) old new
leaves_desk {was} {now} sectors m next d e old new is then left = leaves_wider (λ c. OpensRows sectors m c ⊎ OpensRows sectors next c) (λ c. OpensDeskOf was sectors d c ⊎ OpensDeskOf now sectors e c) old new
    (λ c. ⊎_elim (λ before. inl (opens_desk sectors m d c is before)) (λ after. inr (opens_desk sectors next e c then after))) left

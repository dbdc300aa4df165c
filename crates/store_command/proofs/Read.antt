-- A synced device, by what it reads.
use Rattle.{std.proofs.Common.{rules, ◌≡◌, Bool, true, false, sym, subst}, desk_model.specs.claim.Desk.Desk, desk_store_pages.specs.declared.error.StoreError.StoreError}
use Rattle.desk_store_pages.specs.{Openings.{AllDesks, AllOld, LeavesOneOf, OpensOneOf}, claim.Desks.{OpensDeskOf, OpensAs, OpensDesk, OpensOld, OpensEither}}
use Rattle.{desk_store_pages.specs.claim.Openings.{AllVersions, IsOneAs, LeavesOneAs, OpensOneAs}, desk_theorem.specs.runs.{Recovery.ImagesAreOne, claim.Lives.left_by}}
use Rattle.desk_theorem.specs.runs.{desk_migration.{Openings.{IsRefused, KeepsOne}, claim.Migrating.{disk_of as migrated_disk, Keeps as KeepsOld}}, desk_store.Openings.OpenRefused}
use Rattle.desk_theorem.specs.runs.{desk_migration.declared.migration.Migration.Migration, desk_store.{claim.Clerks.{desk_of, disk_of, Keeps}, declared.clerk.Clerk.Clerk}}
use Rattle.sector_device.{specs.{Disk.IsSynced, claim.{Disk.{Disk, Image}, Moments.LeavesOnly}, declared.SectorDevice.Ghosts}, proofs.Moments.leaves_wider}
use Rattle.store_command.specs.Reading.{ReadsDesk, ReadsOld, ShowsWhatIsRead, BeginsAtWhatIsRead, RefusesWhatIsRead, BarsWhatIsRead, HoldsWhatIsRead, FindsWhatIsRead}
use Rattle.desk_theorem.proofs.runs.One.{one_version, few_sectors}

module _ (disk : Disk) (synced : IsSynced disk) where
  -- an image that a stop may leave now is what is read
  as_read : (c : Image) → disk.leaves c → disk.reads ≡ c
  as_read c leaves = λ i k. (sym ((synced c leaves).same k (λ none. none))) i

  pub left_opens : (new : Bool) (d : Desk) → OpensDeskOf new disk.sectors d disk.reads → (c : Image) → disk.leaves c → OpensDeskOf new disk.sectors d c
  left_opens new d reads c leaves = subst (λ (i : Image). OpensDeskOf new disk.sectors d i) (as_read c leaves) reads

  pub all_new : (d : Desk) → ReadsDesk disk d → AllDesks disk
  all_new d reads c leaves = (d, left_opens true d reads c leaves)

  pub all_old : (d : Desk) → ReadsOld disk d → AllOld disk
  all_old d reads c leaves = (d, left_opens false d reads c leaves)

  pub all_either : (new : Bool) (d : Desk) → OpensDeskOf new disk.sectors d disk.reads → AllVersions disk
  all_either new d reads c leaves = ((new, d), left_opens new d reads c leaves)

  -- what was there is what is read
  was_read : (x : Bool × Desk) → IsOneAs disk x → OpensAs disk.sectors x disk.reads
  was_read x one = subst (λ (c : Image). OpensAs disk.sectors x c) (sym (as_read one.was one.left)) one.opens

  module _ (law : ImagesAreOne) where
    pub it_is : (new other : Bool) (d e : Desk) → OpensDeskOf new disk.sectors d disk.reads → IsOneAs disk (other, e) → e ≡ d
    it_is new other d e reads one = law other new disk.sectors e d disk.reads (few_sectors disk) (was_read (other, e) one) reads

    -- images that open to one of those that were there
    in_as : (new other : Bool) (d e : Desk) (c : Image) → OpensDeskOf new disk.sectors d disk.reads → IsOneAs disk (other, e) → OpensDeskOf other disk.sectors e c → OpensDeskOf new disk.sectors d c
    in_as true true d e c reads one opens = subst (λ (f : Desk). OpensDesk disk.sectors f c) (it_is true true d e reads one) opens
    in_as true false d e c reads one opens = absurd (one_version disk.sectors d e disk.reads (few_sectors disk) reads (was_read (false, e) one))
    in_as false true d e c reads one opens = absurd (one_version disk.sectors e d disk.reads (few_sectors disk) (was_read (true, e) one) reads)
    in_as false false d e c reads one opens = subst (λ (f : Desk). OpensOld disk.sectors f c) (it_is false false d e reads one) opens

    pub leaves_new : (new : Disk) → new.is_honest → LeavesOneOf disk new → (d : Desk) → ReadsDesk disk d → LeavesOnly (OpensDesk disk.sectors d) disk new
    leaves_new new honest leaves d reads = leaves_wider (OpensOneOf disk) (OpensDesk disk.sectors d) disk new (λ c is. in_as true true d is.desk c reads is.one is.opens) (leaves honest (all_new d reads))

    pub leaves_as : (version : Bool) (new : Disk) → new.is_honest → LeavesOneAs disk new → (d : Desk) → OpensDeskOf version disk.sectors d disk.reads → LeavesOnly (OpensDeskOf version disk.sectors d) disk new
    leaves_as version new honest leaves d reads =
        leaves_wider (OpensOneAs disk) (OpensDeskOf version disk.sectors d) disk new (λ c is. in_as version is.x.0 d is.x.1 c reads is.one is.opens) (leaves honest (all_either version d reads))

    -- ---- openings for a migration that were refused
    pub bars : (new : Disk) (error : StoreError) → new.is_honest → LeavesOneAs disk new → IsRefused disk new error → BarsWhatIsRead disk new error
    bars new error honest leaves why = record {
      old_desk = λ d reads. search (rules, all_either false d reads, all_old d reads, leaves_as false new honest leaves d reads);
      desk = λ d reads. search (rules, all_either true d reads, leaves_as true new honest leaves d reads);
    }

module _ {D : Type 0} (g : Ghosts D) (law : ImagesAreOne) (device : D) (synced : IsSynced (g.disk device)) where
  abbrev old : Disk
  old = g.disk device

  -- a clerk who opened the device
  pub shows : (x : Clerk D g) → LeavesOneOf old (disk_of x) → (AllVersions old → Keeps x) → (AllVersions old → (disk_of x).is_honest → IsOneAs old (true, desk_of x)) → ShowsWhatIsRead device x
  shows x leaves keeps one d reads = record {
    keeps = keeps (all_either old synced true d reads);
    desk = λ honest. it_is old synced law true true d (desk_of x) reads (one (all_either old synced true d reads) honest);
    any_moment = λ honest. leaves_new old synced law (disk_of x) honest leaves d reads;
  }

  -- a migration
  pub begins : (x : Migration D g) → LeavesOneAs old (migrated_disk x) → (AllVersions old → (migrated_disk x).is_honest → KeepsOne old x) → BeginsAtWhatIsRead device x
  begins x leaves opened honest d reads =
      let kept = opened (all_either old synced false d reads) honest in
      record {
        keeps = subst (λ (e : Desk). KeepsOld x e) (it_is old synced law false false d kept.0 reads kept.1.1) kept.1.0;
        any_moment = leaves_as old synced law false (migrated_disk x) honest leaves d reads;
      }

  -- an opening that was refused
  pub refuses : (left : D) (error : StoreError) → (g.disk left).is_honest → LeavesOneOf old (g.disk left) → LeavesOneAs old (g.disk left) → OpenRefused g device left error → RefusesWhatIsRead old (g.disk left) error
  refuses left error honest leaves versions why = record {
    desk = λ d reads. search (rules, all_either old synced true d reads, all_new old synced d reads, leaves_new old synced law (g.disk left) honest leaves d reads);
    old_desk = λ d reads. record {
      a_store = λ is. subst (λ (e : StoreError). OpenRefused g device left e) is why honest (all_either old synced false d reads);
      any_moment = leaves_as old synced law false (g.disk left) honest versions d reads;
    };
  }

-- ---- lives
pub holds_read : {D : Type 0} (g : Ghosts D) → HoldsWhatIsRead g
holds_read g device d synced reads c leaves = subst (λ (i : Image). OpensEither (g.disk device).sectors d i) (as_read (g.disk device) synced c leaves) reads

pub finds_read : {D : Type 0} (g : Ghosts D) → FindsWhatIsRead g
finds_read g life n device sectors synced reads = (sectors, λ c leaves. subst (λ (i : Image). left_by life i) (as_read (g.disk device) synced c leaves) reads)

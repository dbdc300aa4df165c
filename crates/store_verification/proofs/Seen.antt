-- What readers see is so of the device that lent them.
use Rattle.std.{specs.{Prelude.Vec, declared.alloc.Global.Global}, proofs.Common.{◌≡◌, ◌⊎◌, ◌<◌, ℕ, List, inl, inr, sym, ap, subst, ◌∙◌, arith}}
use Rattle.{desk_model.specs.declared.ranges.CountyRange.CountyRange, page_store.specs.gate_journal.{Recovery.HasRoom, claim.Store.{header_of, pages}}}
use Rattle.{sector_device.specs.claim.Disk.{Disk, Image, AgreeOff, Nowhere}, store_verification.specs.{Readers.{IsLent, AreTakenBack}, declared.jobs.SeenRows.SeenRows}}
use Rattle.store_verification.specs.{Looking.{HasDesk, HasOwners, HasSeen, IsAllSound, IsJoined, IsSeen, IsSoundAt, LooksAs, LooksBy, LooksWhole}, declared.look.Look.Look}
use Rattle.{store_verification.specs.declared.look.Look.TheVariants.{Sound, Unsound, Failed}, store_verification_rows.specs.{Strays.AllBelong, Wholes.AreWhole}}
use Rattle.page_store.proofs.gate_journal.Headers.{same_journal}

pub agreed : (b c : Image) → AgreeOff Nowhere b c → b ≡ c
agreed b c agree = λ i k. (sym (agree.same k (λ none. none))) i

-- an image of a store in whose pages this is found
record IsSeenAt {X : Type 0} (finds : ℕ → Image → X → Type 0) (sectors : ℕ) (c : Image) (x : X) : Type 0 where
  pub J : ℕ
  pub n : ℕ
  pub room : HasRoom sectors J n
  pub header : c 0 ≡ header_of J n
  pub seen : finds n (pages J c) x

seen_at : {X : Type 0} (finds : ℕ → Image → X → Type 0) (held : ℕ → Image) (disk reader left : Disk) (x : X) → IsLent held disk reader → left.is_honest → IsSeen finds reader left x → IsSeenAt finds disk.sectors disk.reads x
seen_at finds held disk reader left x lent honest seen =
    let found = seen.found honest in
    let was : found.was ≡ disk.reads = sym (agreed reader.reads found.was (lent.synced found.was found.left)) ∙ lent.reads in
    let same : pages seen.J left.reads ≡ pages seen.J disk.reads = found.same ∙ ap (λ (c : Image). pages seen.J c) was in
    record {
      J = seen.J;
      n = seen.n;
      room = subst (λ (k : ℕ). HasRoom k seen.J seen.n) lent.sectors seen.room;
      header = sym (ap (λ (c : Image). c 0) was) ∙ found.header;
      seen = subst (λ (P : Image). finds seen.n P x) same (seen.seen honest);
    }

-- one image has one layout
pub same_layout : (sectors : ℕ) (c : Image) (J n K m : ℕ) → HasRoom sectors J n → c 0 ≡ header_of J n → HasRoom sectors K m → c 0 ≡ header_of K m → (K ≡ J) × (m ≡ n)
same_layout sectors c J n K m room header other header' =
    let journal : K ≡ J = same_journal K m J n (omega arith) (omega arith) (sym header' ∙ header) in
    (journal, omega arith)

there : {Y : Type 0} {others : ℕ → Image → Y → Type 0} {y : Y} {X : Type 0} (finds : ℕ → Image → X → Type 0) (sectors : ℕ) (c : Image) (x : X) (at : IsSeenAt others sectors c y) → IsSeenAt finds sectors c x → finds at.n (pages at.J c) x
there finds sectors c x at seen =
    let same = same_layout sectors c at.J at.n seen.J seen.n at.room at.header seen.room seen.header in
    subst (λ (m : ℕ). finds m (pages at.J c) x) same.1 (subst (λ (K : ℕ). finds seen.n (pages K c) x) same.0 seen.seen)

told : {X : Type 0} {finds : ℕ → Image → X → Type 0} {old new : Disk} {look other : Look X} → LooksBy finds old new look → look ≡ other → LooksAs finds old new other
told {X} {finds} {old} {new} by is = subst (λ (look : Look X). LooksAs finds old new look) is by.looked

-- ---- three readers of a device, as they were lent and as they were taken back
module _ (held : ℕ → Image) (old r s t : Disk) (r' s' t' new : Disk) (r_lent : IsLent held old r) (s_lent : IsLent held old s) (t_lent : IsLent held old t)
    (back : AreTakenBack held old r' s' t' new) (owners : Look ℕ) (desk : Look (Vec CountyRange Global)) (rows : Look SeenRows) (owned : LooksBy HasOwners r r' owners) (opened : LooksBy HasDesk s s' desk) (seen : LooksBy HasSeen t t' rows) where
  first : new.is_honest → r'.is_honest
  first honest = back.first_honest honest r_lent.held_is (owned.sectors ∙ r_lent.sectors)

  second : new.is_honest → s'.is_honest
  second honest = back.second_honest honest s_lent.held_is (opened.sectors ∙ s_lent.sectors)

  third : new.is_honest → t'.is_honest
  third honest = back.third_honest honest t_lent.held_is (seen.sectors ∙ t_lent.sectors)

  sound : (count : ℕ) → IsAllSound owners desk rows count → new.is_honest → IsSoundAt old.sectors old.reads count
  sound count all honest =
      let at = seen_at HasOwners held old r r' all.leaves r_lent (first honest) (told owned all.owners_are) in
      let desk_at = there HasDesk old.sectors old.reads all.ranges at (seen_at HasDesk held old s s' all.ranges s_lent (second honest) (told opened all.desk_is)) in
      let rows_at = there HasSeen old.sectors old.reads all.seen at (seen_at HasSeen held old t t' all.seen t_lent (third honest) (told seen all.rows_are)) in
      record {
        J = at.J;
        n = at.n;
        room = at.room;
        header = at.header;
        owned = at.seen;
        sound = λ m holds. record {
          version = (desk_at m holds).version;
          desk = (desk_at m holds).tells.desk;
          read = (desk_at m holds).tells.read;
          whole = subst (λ (k : ℕ). AreWhole k m) (sym all.count_is) (rows_at m holds).whole;
          belong = subst (λ (l : List CountyRange). AllBelong l m) (sym all.same ∙ (desk_at m holds).tells.ranges_are) (rows_at m holds).belong;
          holdings = (rows_at m holds).holdings;
        };
      }

  failed : (owners ≡ Failed) ⊎ ((desk ≡ Failed) ⊎ (rows ≡ Failed)) → new.is_honest → old.faults < new.faults
  failed (inl is) honest = omega (arith, back.faults honest, told owned is (first honest))
  failed (inr (inl is)) honest = omega (arith, back.faults honest, told opened is (second honest))
  failed (inr (inr is)) honest = omega (arith, back.faults honest, told seen is (third honest))

  pub joined_whole : (result : Look ℕ) → IsJoined owners desk rows result → LooksWhole old new result
  joined_whole (Sound count) is = sound count is
  joined_whole Unsound is = tt
  joined_whole Failed is = failed is

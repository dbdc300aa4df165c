-- What reading a run of sectors leaves of the disk.
use Rattle.{std.{specs.Prelude.Result, proofs.{Math.Seq.take-append_seam, lemmas.{Bool.cases_eq, List.{drop_all, drop_more}}}}, sector_device.specs.Disk.HasCause}
use Rattle.std.proofs.Common.{rules, ◌≡◌, ◌<◌, ◌+◌, ◌^◌, ◌∙◌, ℕ, zero, suc, false, List, [], ◌∷◌, length, take, drop, ◌++◌, get_or, refl, sym, ap, subst, arith, IsTrue, ◌&&◌}
use Rattle.{sector_device.specs.claim.Disk.{Disk, Touches, Nowhere}, sector_file.specs.{Runs.{IsHeldRun, IsRunOf, with_run}, declared.run.HeldRun.HeldRun}}
use Rattle.sector_file.{specs.Told.{Told, Call, same_bytes, replay_on, only_reads, read_call, told_disk}, proofs.{Readers.{whole_more, short_more}, Steps.{bytes_same, first_true}}}

pub run_begins : (first : ℕ) (run : List (List ℕ)) (calls : List Call) → with_run (first + 0) run calls ≡ with_run first run calls
run_begins first run calls = let none : first + 0 ≡ first = omega arith in ap (λ n. with_run n run calls) none

pub run_more : (first k : ℕ) (run : List (List ℕ)) (bytes : List ℕ) (calls later : List Call) → k < length run → later ≡ read_call (first + k) 4096 bytes ∷ calls → bytes ≡ get_or run k [] → with_run (first + (k + 1)) (drop (k + 1) run) later ≡ with_run (first + k) (drop k run) calls
run_more first k run bytes calls later less is same = search (rules, same, drop_more)

pub run_ends : (first k : ℕ) (run : List (List ℕ)) (calls : List Call) → k ≡ length run → with_run (first + k) (drop k run) calls ≡ calls
run_ends first k run calls is = ap (λ (rest : List (List ℕ)). with_run (first + k) rest calls) (drop_all k run (omega (arith, is)))

-- what a run that was read came to
pub record HasRun (first : ℕ) (run : List (List ℕ)) (t u : Told) : Type 0 where
  pub sectors : u.0 ≡ t.0
  pub unsynced : u.1 ≡ t.1
  pub states : u.2 ≡ t.2
  pub honest : IsTrue u.3 → IsTrue t.3
  pub run_is : IsTrue u.3 → IsRunOf first run t.0

module _ (sector : ℕ → List ℕ) (s : Told) where
  pub run_reads : (first : ℕ) (run : List (List ℕ)) (calls : List Call) → IsTrue (only_reads calls) → IsTrue (only_reads (with_run first run calls))
  run_reads first [] calls only = only
  run_reads first (bytes ∷ run) calls only = run_reads (first + 1) run (read_call first 4096 bytes ∷ calls) only

  pub run_read : (first : ℕ) (run : List (List ℕ)) (calls : List Call) → HasRun first run (replay_on sector s calls) (replay_on sector s (with_run first run calls))
  run_read first [] calls = record { sectors = refl; unsynced = refl; states = refl; honest = λ is. is; run_is = λ is j less. absurd (omega (arith, less)) }
  run_read first (bytes ∷ run) calls =
      let rest = run_read (first + 1) run (read_call first 4096 bytes ∷ calls) in
      let t = replay_on sector s calls in
      let one = whole_more sector s calls (read_call first 4096 bytes ∷ calls) first 4096 bytes refl refl in
      let was : IsTrue (replay_on sector s (with_run first (bytes ∷ run) calls)).3 → IsTrue (t.3 && same_bytes bytes (get_or t.0 first [])) = λ is. subst (λ (v : Told). IsTrue v.3) one (rest.honest is) in
      record {
        sectors = rest.sectors ∙ ap (λ (v : Told). v.0) one;
        unsynced = rest.unsynced ∙ ap (λ (v : Told). v.1) one;
        states = rest.states ∙ ap (λ (v : Told). v.2) one;
        honest = λ is. first_true t.3 _ (was is);
        run_is = λ is. at_each first bytes run t.0 (sym (bytes_same t.3 bytes (get_or t.0 first []) (was is))) (subst (λ (all : List (List ℕ)). IsRunOf (first + 1) run all) (ap (λ (v : Told). v.0) one) (rest.run_is is));
      }
    where
      at_each : (from : ℕ) (b : List ℕ) (more all : List (List ℕ)) → get_or all from [] ≡ b → IsRunOf (from + 1) more all → IsRunOf from (b ∷ more) all
      at_each from b more all here later zero less = let none : from + 0 ≡ from = omega arith in ap (λ i. get_or all i []) none ∙ here
      at_each from b more all here later (suc j) less = let over : from + suc j ≡ from + 1 + j = omega arith in ap (λ i. get_or all i []) over ∙ later j (omega (arith, less))

-- no sector is touched
pub run_touches : (t u : Told) (few : length t.0 < 2 ^ 32) (few' : length u.0 < 2 ^ 32) (first : ℕ) (run : List (List ℕ)) → HasRun first run t u → IsTrue u.3 → Touches Nowhere (told_disk t few) (told_disk u few')
run_touches t u few few' first run is honest = search (rules, same)
  where
    same : u ≡ (t.0, t.1, t.2, u.3)
    same = λ i. (is.sectors i, is.unsynced i, is.states i, u.3)

-- ---- the run that a reader holds
pub none_held : (held : HeldRun) (all : List (List ℕ)) → held.is ≡ false → IsHeldRun held all
none_held held all off is = cc

-- it stays where no sector was written
pub held_still : (held : HeldRun) (t u : Told) → u.0 ≡ t.0 → (IsTrue u.3 → IsTrue t.3) → (IsTrue t.3 → IsHeldRun held t.0) → IsTrue u.3 → IsHeldRun held u.0
held_still held t u same before had honest = subst (λ (all : List (List ℕ)). IsHeldRun held all) (sym same) (had (before honest))

-- a new one is right
pub held_new : (held : HeldRun) (first : ℕ) (run : List (List ℕ)) (t u : Told) → held.first ≡ first → held.sectors.items ≡ run → HasRun first run t u → IsTrue u.3 → IsHeldRun held u.0
held_new held first run t u at has is honest held_is = search rules

-- a whole slice that was written
pub all_written : (n : ℕ) (run old : List (List ℕ)) → length run ≡ n → take n (run ++ drop (length run) old) ≡ run
all_written n run old long = ap (λ k. take k (run ++ drop (length run) old)) (sym long) ∙ take-append_seam run (drop (length run) old)

module _ (sector : ℕ → List ℕ) (s : Told) (calls later : List Call) (i got : ℕ) (bytes : List ℕ) (is : later ≡ read_call i got bytes ∷ calls) where
  pub honest_before_read : IsTrue (replay_on sector s later).3 → IsTrue (replay_on sector s calls).3
  honest_before_read honest = search (rules, cases_eq, first_true, whole_more, short_more)

-- a call has its cause, where the calls before it met no fault
pub cause_from : {T E : Type 0} (result : Result T E) (old mid new : Disk) → mid.faults ≡ old.faults → HasCause mid new result → HasCause old new result
cause_from result old mid new same is = search (rules, same)

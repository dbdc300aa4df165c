-- What is kept of plans, of chunks and of loads, each by itself: a change of rows mostly reaches one of the three.
use Rattle.std.{specs.FinMap.{get, insert, remove}, proofs.Common.{◌∷◌, rules, Bool, ◌≡◌, ◌<◌, ◌≤◌, ◌^◌, ℕ, List, [], Option, Some, None, sym, ◌∙◌, arith}}
use Rattle.desk_store_rows.specs.{Rows.SameTag, Tidy.TidyWith, claim.{Holders.{IsHeld, AreTallied}, Rows.{KeyMap, row_in, Has}, Values.{counters_bytes, plan_bytes, seal_bytes}}}
use Rattle.desk_store_rows.{specs.claim.Keys.{holding, version, RowKey, key_of, Fits, counters, retired, begun, named, part, seal, block, pair, chunk}, proofs.Changes.cases_key}
use Rattle.desk_store_rows.specs.claim.Tidy.{IsNext, CountersFit, IsNumbered, IsNamedBy, IsPart, IsPiece, AreRows, IsKnown, IsLoad, AreHoldings, Tidy}
use Rattle.desk_store_rows.{specs.declared.value.{Counters.Counters, SealRow.SealRow, StoredPlan.StoredPlan}, proofs.{HolderCounts.holder_counts_stay, OneGeography.no_value}}
use Rattle.desk_store_rows.proofs.Frames.{put_is_there, put_keeps, put_keeps_tag, removed_is_gone, remove_keeps, other_tag}

pub record PlansKept (m : KeyMap) (limit : ℕ) : Type 0 where
  pub below : (name : List ℕ) (number : ℕ) → IsNumbered m name number → number < limit
  pub marks_below : (plan : ℕ) (value : List ℕ) → Fits (retired plan) → Has m (retired plan) value → plan < limit
  pub one : (name other : List ℕ) (number : ℕ) → IsNumbered m name number → IsNumbered m other number → name ≡ other
  pub gone : (name : List ℕ) (number : ℕ) → IsNumbered m name number → row_in m (retired number) ≡ None
  pub parts : (plan revision index : ℕ) (value : List ℕ) → Fits (part plan revision index) → Has m (part plan revision index) value → IsKnown m plan
  pub told : (plan revision index : ℕ) (value : List ℕ) → Fits (part plan revision index) → Has m (part plan revision index) value → IsPart value
  pub counted : (name : List ℕ) (p : StoredPlan) → p.number < 2 ^ 64 → p.revisions < 2 ^ 32 → Has m (named name) (plan_bytes p)
      → (revision index : ℕ) (value : List ℕ) → Fits (part p.number revision index) → Has m (part p.number revision index) value → (0 < revision) × (revision ≤ p.revisions)

pub record ChunksKept (m : KeyMap) (limit : ℕ) : Type 0 where
  pub below : (plan number : ℕ) → IsNamedBy m plan number → number < limit
  pub chunks : (number index : ℕ) (value : List ℕ) → Fits (chunk number index) → Has m (chunk number index) value → (plan : ℕ) × IsNamedBy m plan number
  pub pieces : (number piece : ℕ) (value : List ℕ) → Fits (chunk number piece) → Has m (chunk number piece) value → IsPiece value

pub record LoadsKept (m : KeyMap) (limit : ℕ) : Type 0 where
  pub below : (load : ℕ) (value : List ℕ) → Fits (begun load) → Has m (begun load) value → load < limit
  pub sealed_below : (sealed : SealRow) → sealed.load < 2 ^ 64 → Has m seal (seal_bytes sealed) → sealed.load < limit
  pub blocks : (load place : ℕ) (value : List ℕ) → Fits (block load place) → Has m (block load place) value → IsLoad m load
  pub pairs : (load place : ℕ) (value : List ℕ) → Fits (pair load place) → Has m (pair load place) value → IsLoad m load
  pub ended : (sealed : SealRow) → sealed.load < 2 ^ 64 → Has m seal (seal_bytes sealed) → row_in m (begun sealed.load) ≡ None

-- all but the row of counters
pub record AllKept (m : KeyMap) (next : Counters) (new : Bool) : Type 0 where
  pub rows : AreRows m
  pub plans : PlansKept m next.plan
  pub chunks : ChunksKept m next.chunk
  pub loads : LoadsKept m next.load
  pub holders : AreHoldings m new

-- what stands in the second map under a tag stood in the first
abbrev pub IsFewer : ℕ → KeyMap → KeyMap → Type 0
IsFewer tag m n = (rest value : List ℕ) → get n (tag ∷ rest) ≡ Some value → get m (tag ∷ rest) ≡ Some value

-- ---- what is kept is tidiness
pub kept_of : (m : KeyMap) (tidy : Tidy m) → AllKept m tidy.next tidy.new
kept_of m tidy = search tidy

pub some_or_none : (o : Option (List ℕ)) → ((value : List ℕ) → o ≡ Some value → ⊥) → o ≡ None
some_or_none o never = search (arith, never)

-- a row that is left was there
pub removed_fewer : (tag : ℕ) (m : KeyMap) (gone : List ℕ) → IsFewer tag m (remove m gone)
removed_fewer tag m gone rest value there = search (arith, cases_key, no_value, removed_is_gone, remove_keeps)

-- ---- rows that tell a fact tell it of every map that has them
pub numbered_moves : (m n : KeyMap) (name : List ℕ) (number : ℕ) → row_in n (named name) ≡ row_in m (named name) → IsNumbered m name number → IsNumbered n name number
numbered_moves m n name number same is = search (same, is)

pub naming_moves : (m n : KeyMap) (plan number : ℕ) → SameTag 82 m n → IsNamedBy m plan number → IsNamedBy n plan number
naming_moves m n plan number rows is = search (rows)

pub known_moves : (m n : KeyMap) (plan : ℕ) → SameTag 80 m n → SameTag 68 m n → IsKnown m plan → IsKnown n plan
known_moves m n plan names marks given = search (arith, numbered_moves, names, marks)

pub load_moves : (m n : KeyMap) (load : ℕ) → SameTag 83 m n → SameTag 76 m n → IsLoad m load → IsLoad n load
load_moves m n load seals marks given = search (arith, seals, marks)

pub same_fewer : (tag : ℕ) (m n : KeyMap) → SameTag tag m n → IsFewer tag m n
same_fewer tag m n same rest value there = sym (same rest) ∙ there

pub was_numbered : (m n : KeyMap) (name : List ℕ) (number : ℕ) → IsFewer 80 m n → IsNumbered n name number → IsNumbered m name number
was_numbered m n name number names is = record { plan = is.plan; row = names _ _ is.row; is = is.is; fits = is.fits }

was_named : (m n : KeyMap) (plan number : ℕ) → IsFewer 82 m n → IsNamedBy n plan number → IsNamedBy m plan number
was_named m n plan number parts is = search (parts _ _ is.row)

pub plans_fewer : (m n : KeyMap) (limit more : ℕ) → limit ≤ more → IsFewer 80 m n → IsFewer 68 m n → IsFewer 82 m n
    → ((plan revision index : ℕ) (value : List ℕ) → Fits (part plan revision index) → Has n (part plan revision index) value → IsKnown m plan → IsKnown n plan) → PlansKept m limit → PlansKept n more
plans_fewer m n limit more few names marks parts known kept =
    let old = λ (name : List ℕ) (number : ℕ) (is : IsNumbered n name number). was_numbered m n name number names is in
    record {
      below = λ name number is. let less = kept.below name number (old name number is) in omega arith;
      marks_below = λ plan value fits has. let less = kept.marks_below plan value fits (marks _ value has) in omega arith;
      one = λ name other number is also. kept.one name other number (old name number is) (old other number also);
      gone = λ name number is. some_or_none _ (λ value there. no_value value (sym (marks _ value there) ∙ kept.gone name number (old name number is)));
      parts = λ plan revision index value fits has. known plan revision index value fits has (kept.parts plan revision index value fits (parts _ value has));
      told = λ plan revision index value fits has. kept.told plan revision index value fits (parts _ value has);
      counted = λ name p fits small has revision index value part_fits there. kept.counted name p fits small (names _ _ has) revision index value part_fits (parts _ value there);
    }

pub plans_stay : (m n : KeyMap) (limit more : ℕ) → limit ≤ more → SameTag 80 m n → SameTag 68 m n → SameTag 82 m n → PlansKept m limit → PlansKept n more
plans_stay m n limit more few names marks rows kept = search (plans_fewer m n limit more few, same_fewer, names, marks, rows, known_moves, kept)

pub chunks_fewer : (m n : KeyMap) (limit more : ℕ) → limit ≤ more → IsFewer 82 m n → IsFewer 107 m n
    → ((number index : ℕ) (value : List ℕ) → Fits (chunk number index) → Has n (chunk number index) value → (plan : ℕ) → IsNamedBy m plan number → (other : ℕ) × IsNamedBy n other number) → ChunksKept m limit → ChunksKept n more
chunks_fewer m n limit more few parts pieces naming kept = record {
  below = λ plan number is. let less = kept.below plan number (was_named m n plan number parts is) in omega arith;
  chunks = λ number index value fits has. let is = kept.chunks number index value fits (pieces _ value has) in naming number index value fits has is.0 is.1;
  pieces = λ number piece value fits has. kept.pieces number piece value fits (pieces _ value has);
}

pub chunks_stay : (m n : KeyMap) (limit more : ℕ) → limit ≤ more → SameTag 82 m n → SameTag 107 m n → ChunksKept m limit → ChunksKept n more
chunks_stay m n limit more few rows pieces kept = chunks_fewer m n limit more few (same_fewer 82 m n rows) (same_fewer 107 m n pieces) (λ number index value fits has plan is. (plan, naming_moves m n plan number rows is)) kept

pub holders_fewer : (m n : KeyMap) (new : Bool) → row_in n version ≡ row_in m version → IsFewer 80 m n → IsFewer 72 m n → IsFewer 82 m n → AreTallied n
    → ((plan number : ℕ) (value : List ℕ) → Fits (holding plan number) → Has n (holding plan number) value → IsNamedBy m plan number → IsNamedBy n plan number)
    → ((name : List ℕ) (plan number : ℕ) → IsNumbered m name plan → IsNamedBy m plan number → IsHeld m plan number → IsHeld n plan number) → AreHoldings m new → AreHoldings n new
holders_fewer m n new versions names rows parts counted held hold kept = record {
  told = versions ∙ kept.told;
  held = λ plan number value fits has. let is = kept.held plan number value fits (rows _ value has) in (is.0, held plan number value fits has is.1);
  counted_by_holders = counted;
  hold = λ is_new name plan number is naming.
      let was = was_numbered m n name plan names is in
      let named_by = was_named m n plan number parts naming in
      hold name plan number was named_by (kept.hold is_new name plan number was named_by);
}

pub holders_stay : (m n : KeyMap) (new : Bool) → SameTag 80 m n → SameTag 72 m n → SameTag 75 m n → SameTag 82 m n → SameTag 86 m n → AreHoldings m new → AreHoldings n new
holders_stay m n new names rows counts parts versions kept = search (holders_fewer m n new, same_fewer, names, rows, counts, parts, versions, naming_moves, holder_counts_stay, kept)

pub loads_fewer : (m n : KeyMap) (limit more : ℕ) → limit ≤ more → IsFewer 76 m n → IsFewer 83 m n → IsFewer 103 m n
    → ((load place : ℕ) (value : List ℕ) → Fits (block load place) → Has n (block load place) value → IsLoad m load → IsLoad n load)
    → ((load place : ℕ) (value : List ℕ) → Fits (pair load place) → Has n (pair load place) value → IsLoad m load → IsLoad n load) → LoadsKept m limit → LoadsKept n more
loads_fewer m n limit more few marks seals rows blocks pairs kept = record {
  below = λ load value fits has. let less = kept.below load value fits (marks _ value has) in omega arith;
  sealed_below = λ sealed fits has. let less = kept.sealed_below sealed fits (seals _ _ has) in omega arith;
  blocks = λ load place value fits has. blocks load place value fits has (kept.blocks load place value fits (rows _ value has));
  pairs = λ load place value fits has. pairs load place value fits has (kept.pairs load place value fits (rows _ value has));
  ended = λ sealed fits has. some_or_none _ (λ value there. no_value value (sym (marks _ value there) ∙ kept.ended sealed fits (seals _ _ has)));
}

pub loads_stay : (m n : KeyMap) (limit more : ℕ) → limit ≤ more → SameTag 76 m n → SameTag 83 m n → SameTag 103 m n → LoadsKept m limit → LoadsKept n more
loads_stay m n limit more few marks seals rows kept = search (loads_fewer m n limit more few, same_fewer, marks, seals, rows, load_moves, kept)

-- where only rows of loads change, all else is kept
pub loads_kept : (m n : KeyMap) (tidy : Tidy m) (next : Counters) → tidy.next.plan ≤ next.plan → tidy.next.chunk ≤ next.chunk → ((tag : ℕ) → (tag ≡ 76 → ⊥) → (tag ≡ 83 → ⊥) → (tag ≡ 103 → ⊥) → SameTag tag m n) → AreRows n → LoadsKept n next.load → AllKept n next tidy.new
loads_kept m n tidy next plans chunks other rows loads =
    let kept = kept_of m tidy in
    search (arith, rows, plans_stay m n tidy.next.plan next.plan plans, chunks_stay m n tidy.next.chunk next.chunk chunks, loads, holders_stay m n tidy.new, other, kept)

-- and where only rows of holdings change, their counts and the version
pub holders_kept : (m n : KeyMap) (tidy : Tidy m) (new : Bool) → ((tag : ℕ) → (tag ≡ 72 → ⊥) → (tag ≡ 75 → ⊥) → (tag ≡ 86 → ⊥) → SameTag tag m n) → AreRows n → AreHoldings n new → AllKept n tidy.next new
holders_kept m n tidy new other rows holders =
    let next = tidy.next in
    let kept = kept_of m tidy in
    search (arith, rows, plans_stay m n next.plan next.plan, chunks_stay m n next.chunk next.chunk, loads_stay m n next.load next.load, holders, other, kept)

-- ---- one key
pub rows_put : (m : KeyMap) (row : RowKey) (value : List ℕ) → Fits row → AreRows m → AreRows (insert m (key_of row) value)
rows_put m row value fits rows key got there = search (rules, cases_key key (key_of row), put_keeps)

pub rows_removed : (m : KeyMap) (gone : List ℕ) → AreRows m → AreRows (remove m gone)
rows_removed m gone rows key got there = search (arith, cases_key, gone, no_value, removed_is_gone, rows, remove_keeps)

-- a name that has a row fits in its key
pub name_fits : (m : KeyMap) (name value : List ℕ) → AreRows m → Has m (named name) value → Fits (named name)
name_fits m name value rows has = (let row = rows (key_of (named name)) value has in (search (arith, other_tag)))

-- ---- the counters
pub next_moves : (m n : KeyMap) (next : Counters) → row_in n counters ≡ row_in m counters → IsNext m next → IsNext n next
next_moves m n next same is = rw same is

pub tidy_at : (n : KeyMap) (next : Counters) (new : Bool) → IsNext n next → CountersFit next → AllKept n next new → TidyWith n next new
tidy_at n next new is fits kept = (
  record {
    next = next;
    new = new;
    is_next = is;
    fits = fits;
    rows = kept.rows;
    below = search kept;
    owned = search kept;
    holdings = kept.holders;
    counted = search kept;
  },
  λ i. next,
  λ i. new,
)

-- where they stay as they are, so does what comes next
pub stays_tidy : (m n : KeyMap) (tidy : Tidy m) → row_in n counters ≡ row_in m counters → AllKept n tidy.next tidy.new → TidyWith n tidy.next tidy.new
stays_tidy m n tidy same kept = tidy_at n tidy.next tidy.new (next_moves m n tidy.next same tidy.is_next) tidy.fits kept

-- with a row of counters that bounds what is there, all is tidy
pub counters_put : (m : KeyMap) (next : Counters) (new : Bool) → CountersFit next → AllKept m next new → TidyWith (insert m (key_of counters) (counters_bytes next)) next new
counters_put m next new fits kept =
    let value = counters_bytes next in
    let n = insert m (key_of counters) value in
    let same = λ (tag : ℕ) (apart : tag ≡ 65 → ⊥). put_keeps_tag m tag 65 [] value apart in
    let is : IsNext n next = rw (← (sym (put_is_there m (key_of counters) value))) (λ i. value) in
    let rows = rows_put m counters value tt kept.rows in
    tidy_at n next new is fits
    (search (arith, rows, plans_stay m n next.plan next.plan, chunks_stay m n next.chunk next.chunk, loads_stay m n next.load next.load, holders_stay m n new, same, kept))

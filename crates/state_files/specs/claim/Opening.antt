-- A file that a command reads: how it was opened, and how it stands after some of it was read.
use Rattle.{std.specs.Prelude.{ℕ, List, Option, Result, Ok, Err}, state_files.specs.declared.{census.CensusFiles.CensusFiles, fault.OpenFault.OpenFault}}

-- the bytes that its reader has left, where they are known; how often it was asked for more; and how often that failed
pub record File : Type 0 where
  pub unread : Option (List ℕ)
  pub turns : ℕ
  pub failures : ℕ

-- an opening: a file, or why it isn't opened
abbrev pub Opening : Type 0
Opening = Result File OpenFault

abbrev pub opening_of : {R : Type 0} → (R → Option (List ℕ)) → (R → ℕ) → (R → ℕ) → Result R OpenFault → Opening
opening_of unread turns failures (Ok reader) = Ok (record { unread = unread reader; turns = turns reader; failures = failures reader })
opening_of unread turns failures (Err fault) = Err fault

-- the geographic header and the three segments
pub record Census : Type 0 where
  pub header : Opening
  pub first : Opening
  pub second : Opening
  pub third : Opening

abbrev pub census_of : {R : Type 0} → (R → Option (List ℕ)) → (R → ℕ) → (R → ℕ) → CensusFiles R → Census
census_of unread turns failures files = record {
  header = opening_of unread turns failures files.geo;
  first = opening_of unread turns failures files.seg1;
  second = opening_of unread turns failures files.seg2;
  third = opening_of unread turns failures files.seg3;
}

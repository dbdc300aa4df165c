-- What the workers found, each in its own pieces: those that leave the worker's number when they are divided by the number of workers.
use Rattle.std.specs.Prelude.{◌≡◌, ◌↔◌, ℕ, ◌+◌, ◌*◌, ◌/◌, ◌%◌, ◌<◌, ◌≤◌, min, Bool, false, IsTrue, List, length, get_or, set, remove, Vec, Result, IfOk}
use Rattle.{std.specs.declared.alloc.{AllocError.AllocError, Global.Global}, audit_report.specs.{Work.{Audit, IsPieceOf, IsFound}, declared.work.Found.Found}}

-- the pieces are numbered below this
abbrev pub AreNumberedBelow : ℕ → ℕ → Type 0
AreNumberedBelow count pieces = (piece : ℕ) → (piece < pieces) ↔ IsPieceOf count piece

-- the work of an audit of so many districts is cut into these pieces
pub record AreAllPieces (count pieces : ℕ) : Type 0 where
  pub numbered : AreNumberedBelow count pieces
  pub three : 3 ≤ pieces
  pub few : pieces ≤ 66

-- no more workers than pieces share them
pub record AreShared (count pieces workers : ℕ) : Type 0 where
  pub cut : AreAllPieces count pieces
  pub some : 0 < workers
  pub fewer : workers ≤ pieces

-- one of the workers
pub record IsWorker (count pieces workers worker : ℕ) : Type 0 where
  pub shared : AreShared count pieces workers
  pub own : worker < workers

-- what the piece found stands at that place
pub record IsHeld (a : Audit) (piece place : ℕ) (held : List Found) : Type 0 where
  pub within : place < length held
  pub is : (d : Found) → IsFound a piece (get_or held place d)

-- a worker holds its pieces below a number, in their order
abbrev pub IsShare : Audit → ℕ → ℕ → ℕ → List Found → Type 0
IsShare a pieces workers worker held = (place : ℕ) → worker + place * workers < pieces → IsHeld a (worker + place * workers) place held

-- what the worker found so far stands in the order of its pieces, and this is the next of them
pub record AreNext (a : Audit) (workers worker piece : ℕ) (held : List Found) : Type 0 where
  pub next : piece ≡ worker + length held * workers
  pub each : (place : ℕ) → place < length held → IsHeld a (worker + place * workers) place held

-- the next piece is of the districts' contiguity
pub record AreNextParts (a : Audit) (workers worker piece : ℕ) (held : List Found) : Type 0 where
  pub after : 3 ≤ piece
  pub next : AreNext a workers worker piece held

-- a worker began, and what it found is its share
pub record HasWorked {C : Type 0} (begins : C → ℕ → ℕ → Type 0) (crew : C) (a : Audit) (pieces workers worker : ℕ) (result : Result (Vec Found Global) AllocError) : Type 0 where
  pub share : IfOk result (λ held. IsShare a pieces workers worker held.items)
  pub begun : begins crew worker workers

-- all workers together hold the pieces below a number
pub record AreShares (a : Audit) (pieces workers : ℕ) (shares : List (Vec Found Global)) : Type 0 where
  pub wide : length shares ≡ workers
  pub each : (piece : ℕ) (s : Vec Found Global) → piece < pieces → IsHeld a piece (piece / workers) (get_or shares (piece % workers) s).items

-- they hold all pieces
pub record AreAllShares (a : Audit) (pieces workers : ℕ) (shares : List (Vec Found Global)) : Type 0 where
  pub shared : AreShared a.count pieces workers
  pub held : AreShares a pieces workers shares

-- The audit of a plan of n districts was shared out among so many workers, or among as many as there are pieces where these are fewer: each
-- of them began, to find the pieces that are its own.
pub record IsSharedOut {C : Type 0} (begins : C → ℕ → ℕ → Type 0) (crew : C) (workers n : ℕ) : Type 0 where
  pub pieces : ℕ
  pub numbered : AreNumberedBelow n pieces
  pub each : (worker : ℕ) → worker < min workers pieces → begins crew worker (min workers pieces)

-- what the piece found was there, and is no more
pub record IsTaken (piece workers : ℕ) (old new : List (Vec Found Global)) (found : Found) : Type 0 where
  pub share : Vec Found Global
  pub was : (s : Vec Found Global) (d : Found) → get_or (get_or old (piece % workers) s).items (piece / workers) d ≡ found
  pub left : (s : Vec Found Global) → share.items ≡ remove (get_or old (piece % workers) s).items (piece / workers)
  pub is : new ≡ set old (piece % workers) share

-- the share in which a piece lies reaches to its place
pub record IsThere (piece workers : ℕ) (shares : List (Vec Found Global)) : Type 0 where
  pub some : 0 < workers
  pub wide : length shares ≡ workers
  pub within : (s : Vec Found Global) → piece / workers < length (get_or shares (piece % workers) s).items

-- the parts of the worker's pieces are own
abbrev pub AreOwnParts : ℕ → ℕ → ℕ → List Bool → Type 0
AreOwnParts pieces workers worker own = (part : ℕ) → part + 3 < pieces → (part + 3) % workers ≡ worker → IsTrue (get_or own part false)

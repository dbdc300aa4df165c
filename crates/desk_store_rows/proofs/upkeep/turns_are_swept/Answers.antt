-- Turns of a sweep are taken, one after the other.
use Rattle.desk_store_rows.proofs.upkeep.turns_are_swept.Goals as goal
use Rattle.{std.{specs.FinMap.remove, proofs.Common.{true, ◌≡◌, List, [], ◌∷◌, refl, ◌∙◌}}, desk_model.specs.claim.Desk.Desk, desk_store_rows.specs.SweepLaws.IsSwept}
use Rattle.desk_store_rows.specs.{TurnLaws.{IsUnneeded, CanTurn, Turn, goes, lets_go, turned, take_turns, AreTurns}, claim.{DeskRows.IsDesk, Rows.KeyMap, Tidy.Tidy}}
use Rattle.desk_store_rows.specs.claim.Keys.{RowKey, key_of, Fits, retired, begun, part, block, pair, chunk}
use Rattle.desk_store_rows.proofs.Sweeps.{hold_swept, block_swept, pair_swept, load_mark_swept, mark_swept, piece_swept, part_swept}

row_swept : (m : KeyMap) (tidy : Tidy m) → tidy.new ≡ true → (d : Desk) → IsDesk m d → (row : RowKey) → Fits row → IsUnneeded m row → IsSwept d tidy.next tidy.new (remove m (key_of row))
row_swept m tidy is_new d is (retired plan) fits left = mark_swept m tidy d is plan left.0 fits left.1
row_swept m tidy is_new d is (begun load) fits left = load_mark_swept m tidy d is load fits left.0 left.1
row_swept m tidy is_new d is (part plan revision index) fits left = part_swept m tidy is_new d is plan left.0 revision index left.1.numbers fits left.1.chunks left.1.row left.1.let_go left.1.gone
row_swept m tidy is_new d is (block load place) fits left = block_swept m tidy d is load fits.0 left place fits.1
row_swept m tidy is_new d is (pair load place) fits left = pair_swept m tidy d is load fits.0 left place fits.1
row_swept m tidy is_new d is (chunk number piece) fits left = piece_swept m tidy is_new d is left.0 left.1 number piece fits left.2 left.3
row_swept m tidy is_new d is _ fits left = absurd left

turn_swept : (m : KeyMap) (tidy : Tidy m) → tidy.new ≡ true → (d : Desk) → IsDesk m d → (turn : Turn) → CanTurn m turn → IsSwept d tidy.next tidy.new (turned m turn)
turn_swept m tidy is_new d is (goes row) left = row_swept m tidy is_new d is row left.0 left.1
turn_swept m tidy is_new d is (lets_go plan number count) left = hold_swept m tidy is_new d is plan number count left

turns_swept : (m : KeyMap) (tidy : Tidy m) → tidy.new ≡ true → (d : Desk) (turns : List Turn) → IsDesk m d → AreTurns m turns → IsSwept d tidy.next tidy.new (take_turns m turns)
turns_swept m tidy is_new d [] is left = record { desk = is; tidy = (tidy, refl, refl) }
turns_swept m tidy is_new d (turn ∷ turns) is left =
    let one = turn_swept m tidy is_new d is turn left.0 in
    let rest = turns_swept (turned m turn) one.tidy.0 (one.tidy.2 ∙ is_new) d turns one.desk left.1 in
    record { desk = rest.desk; tidy = (rest.tidy.0, rest.tidy.1 ∙ one.tidy.1, rest.tidy.2 ∙ one.tidy.2) }

pub returns : goal.returns
returns c = turns_swept

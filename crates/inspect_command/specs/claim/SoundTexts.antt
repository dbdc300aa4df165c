-- What is printed of a store that is sound, and told of one that isn't.
use Rattle.std.specs.Prelude.{◌≡◌, ◌⊎◌, ℕ, List, ◌++◌, codes, decimal, Option, Some, None}
use Rattle.{command_output.specs.{claim.Writing.{Written, Told}, declared.status.Status.Status}, inspect_command.specs.declared.refusal.Refusal.Refusal}
use Rattle.{inspect_command.specs.declared.verifying.Verified.Verified, page_btree.specs.checks.declared.error.{PageFault.PageFault, PageFaultKind.PageFaultKind}}
use Rattle.page_btree.specs.checks.declared.error.PageFaultKind.TheVariants.{BeyondTheEnd, NamedTwice, NotFree, ListGoesOn, NotANode, WrongLevel, KeysOutOfOrder, Lost}
use Rattle.store_command.specs.{claim.Telling.{status_of, store_line}, declared.fault.StoreFault.TheVariants.NotAStore}
use Rattle.store_verification.specs.rows.declared.wrong.WrongRow.{WrongRow}

abbrev pub verified_text : Verified → List ℕ
verified_text found = codes "sound yes\n" ++ (codes "pages " ++ (decimal found.pages ++ (codes "\nrows " ++ (decimal found.rows ++ codes "\n"))))

-- what isn't so of a page
abbrev pub kind_word : PageFaultKind → List ℕ
kind_word BeyondTheEnd = codes "BeyondTheEnd"
kind_word NamedTwice = codes "NamedTwice"
kind_word NotFree = codes "NotFree"
kind_word ListGoesOn = codes "ListGoesOn"
kind_word NotANode = codes "NotANode"
kind_word WrongLevel = codes "WrongLevel"
kind_word KeysOutOfOrder = codes "KeysOutOfOrder"
kind_word Lost = codes "Lost"

abbrev pub page_line : PageFault → List ℕ
page_line fault = codes "plandesk: store: NotAStore " ++ (kind_word fault.kind ++ (codes " page " ++ (decimal fault.page ++ codes "\n")))

-- the line of a page that is wrong, or any of a row
abbrev pub IsLongLine : Option PageFault → Option WrongRow → List ℕ → Type 0
IsLongLine (Some page) row line = line ≡ page_line page
IsLongLine None (Some row) line = Unit {0}
IsLongLine None None line = ⊥

-- the line of the fault; or, of what is no store, that of its page or its row
abbrev pub IsLine : Refusal → List ℕ → Type 0
IsLine refusal line = (line ≡ store_line refusal.fault) ⊎ ((refusal.fault ≡ NotAStore) × IsLongLine refusal.page refusal.row line)

abbrev pub TellsRefusal : Refusal → Status → (before after : Written) → Type 0
TellsRefusal refusal end before after = (end ≡ status_of refusal.fault) × ((line : List ℕ) × IsLine refusal line × Told before after line)

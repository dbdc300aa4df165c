-- What the lines so far make of the list, and what the list and the lines that are left make of the text.
use Rattle.{std.proofs.Common.{◌≡◌, ℕ, ◌+◌, Bool, true, false, cond, eqb, List, ◌∷◌, length, Option, Result, Ok, Err, sym, ◌∙◌, ap}, baf_text.specs.Listed.{listed_of, IsLineTaken}}
use Rattle.{baf_text.specs.{claim.Faults.IsFaultOf, declared.reading.BafFault.{BafFault, TheVariants.{Body, Memory}}}, desk_model.specs.claim.Geography.GeographyModel}
use Rattle.{desk_model.specs.{claim.Baf.{Values, body_read, rows_read, line_read, at_line, fields_of}, declared.reply.BodyFault.BodyFault}, field_text.specs.claim.Fields.fields}

-- some values are listed, and the text reads on from them
pub record IsUnderWay (g : GeographyModel) (n : ℕ) (text : List ℕ) (at : ℕ) (left : List (List ℕ)) (listed : List (Option ℕ)) : Type 0 where
  pub so_far : Values
  pub lists : listed ≡ listed_of g so_far
  pub rest : body_read g n text ≡ rows_read g n (at + 1) so_far left

-- the fault of a line is the fault of the text
pub fault_told : (g : GeographyModel) (n : ℕ) (text : List ℕ) (at : ℕ) (so_far : Values) (line : List ℕ) (left : List (List ℕ)) (fault : BafFault) (listed : List (Option ℕ))
    → body_read g n text ≡ rows_read g n at so_far (line ∷ left) → IsLineTaken g n so_far line at (Err fault) listed → IsFaultOf (body_read g n text) fault
fault_told g n text at so_far line left Memory listed reads taken = tt
fault_told g n text at so_far line left (Body code number) listed reads taken =
    reads ∙ by_test (eqb (length line) 0) taken.0 ∙ ap (λ (k : ℕ). Err (code, k)) (sym taken.1)
  where
    read : Result Values BodyFault
    read = line_read g n so_far (fields_of (fields line))

    by_test : (b : Bool) → cond b (Ok so_far) read ≡ Err code
        → cond b (rows_read g n (at + 1) so_far left) (at_line at read (λ next. rows_read g n (at + 1) next left)) ≡ Err (code, at)
    by_test true is = cc
    by_test false is = ap (λ (r : Result Values BodyFault). at_line at r (λ next. rows_read g n (at + 1) next left)) is

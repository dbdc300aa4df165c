use Rattle.{std.proofs.{Common.{◌≡◌, ℕ, ◌+◌, List, [], get_or, drop, ap, ◌∙◌}, lemmas.List.{drop-drop, get_or-drop}}, field_text.specs.claim.Fields.fields}
use Rattle.pl94_geo.proofs.entry.block_fields.Goals as goal

-- Fields that are found one after the other.
field_at : (whole left : List (List ℕ)) (field : List ℕ) (at k : ℕ) → left ≡ drop at whole → field ≡ get_or left k [] → field ≡ get_or whole (at + k) []
field_at whole left field at k is found = found ∙ ap (λ (l : List (List ℕ)). get_or l k []) is ∙ get_or-drop at whole k []

left_after : (whole left new : List (List ℕ)) (at k : ℕ) → left ≡ drop at whole → new ≡ drop k left → new ≡ drop (at + k) whole
left_after whole left new at k is next = next ∙ ap (drop k) is ∙ drop-drop k at whole

pub returns : goal.returns
returns c =
    let whole = fields c.args.line.now in
    let a = left_after whole c.new-fields.result c.field_after-number.new.self 0 8 c.new-fields.ensures c.field_after-number.ensures.rest in
    let b = left_after whole c.field_after-number.new.self c.field_after-state.new.self 8 5 a c.field_after-state.ensures.rest in
    let d = left_after whole c.field_after-state.new.self c.field_after-county.new.self 13 2 b c.field_after-county.ensures.rest in
    let e = left_after whole c.field_after-county.new.self c.field_after-place.new.self 15 15 d c.field_after-place.ensures.rest in
    let f = left_after whole c.field_after-place.new.self c.field_after-place_class.new.self 30 1 e c.field_after-place_class.ensures.rest in
    let h = left_after whole c.field_after-place_class.new.self c.field_after-tract.new.self 31 2 f c.field_after-tract.ensures.rest in
    record {
      number = field_at whole c.new-fields.result c.field_after-number.result.now 0 7 c.new-fields.ensures c.field_after-number.ensures.field;
      state = field_at whole c.field_after-number.new.self c.field_after-state.result.now 8 4 a c.field_after-state.ensures.field;
      county = field_at whole c.field_after-state.new.self c.field_after-county.result.now 13 1 b c.field_after-county.ensures.field;
      place = field_at whole c.field_after-county.new.self c.field_after-place.result.now 15 14 d c.field_after-place.ensures.field;
      place_class = field_at whole c.field_after-place.new.self c.field_after-place_class.result.now 30 0 e c.field_after-place_class.ensures.field;
      tract = field_at whole c.field_after-place_class.new.self c.field_after-tract.result.now 31 1 f c.field_after-tract.ensures.field;
      block = field_at whole c.field_after-tract.new.self c.field_after-block.result.now 33 1 h c.field_after-block.ensures.field;
    }

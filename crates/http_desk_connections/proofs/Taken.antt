-- Bytes that are taken after turns that took none.
use Rattle.std.{specs.Io.KnownBytes.{Consumes, Keeps}, proofs.Common.{◌≡◌, ◌⊎◌, ◌≤◌, ◌*◌, ℕ, Bool, true, false, List, None, Some, Option, inl, inr, sym, ◌∙◌}}
use Rattle.{std.proofs.KnownBytes.{Consumes-nil, Consumes-kept, Keeps-refl, Keeps-trans}, byte_stream.specs.declared.source.Turn.TheVariants.Read}
use Rattle.http_desk_connections.specs.{Taking.MayEnd, declared.pace.{Limits.Limits, Pace.Pace}}

pub taken_after : (a b c : Option (List ℕ)) (bytes : List ℕ) → Keeps a b → Consumes b c bytes → Consumes a c bytes
taken_after None b c bytes p q = tt
taken_after (Some x) None c bytes p q = absurd p
taken_after (Some x) (Some y) None bytes p q = absurd q
taken_after (Some x) (Some y) (Some z) bytes p q = sym p ∙ q

pub ruleset turns = (Keeps-refl, Keeps-trans, Consumes-nil, Consumes-kept, taken_after)

-- a connection that gives way was let go, or was silent too long
pub ends_by_fate : {A : Type 0} (left : Option (List ℕ)) (limits : Limits) (p : Pace) (waits : Bool) (buf : List ℕ) → (waits ≡ true → A) → (p.asks ≡ false) × ((waits ≡ true) ⊎ (limits.keep * 1000 ≤ p.silent))
    → MayEnd A limits p left (Read 0) buf
ends_by_fate left limits p waits buf told (asks, inl waiting) = λ _ _. inr (asks, inl (told waiting))
ends_by_fate left limits p waits buf told (asks, inr silent) = λ _ _. inr (asks, inr silent)

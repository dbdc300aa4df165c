use Rattle.std.{specs.Io.KnownBytes.{Appends, Keeps}, proofs.{KnownBytes.{Keeps-refl, Appends-trans, Appends-kept}, Math.Seq.take-add, lemmas.List.take_rest}}
use Rattle.std.proofs.Common.{rules, ◌≡◌, ℕ, ◌+◌, ◌-◌, ◌≤◌, List, ◌++◌, length, take, drop, Option, sym, arith, length-drop, take-append-drop}
use Rattle.byte_stream.proofs.sink.write_all.Goals as goal

-- one piece more of the bytes, from what is left of them
sent_more : (a b c : Option (List ℕ)) (bytes : List ℕ) (done n : ℕ) → Appends a b (take done bytes) → Appends b c (take n (take (length bytes - done) (drop done bytes)))
    → Appends a c (take (done + n) bytes)
sent_more a b c bytes done n p q = search (rules, take-add, Appends-trans, take_rest)

-- and it is within the bytes
piece_within : (bytes : List ℕ) (done n : ℕ) → done ≤ length bytes → n ≤ length (take (length bytes - done) (drop done bytes)) → done + n ≤ length bytes
piece_within bytes done n within h = omega (arith, rw take_rest at h, length-drop done bytes)

-- what was written is a prefix of the bytes, also after a write that took nothing
sent_prefix : (a b c : Option (List ℕ)) (bytes : List ℕ) (done : ℕ) → Appends a b (take done bytes) → Keeps b c
    → (prefix : List ℕ) × (rest : List ℕ) × (bytes ≡ prefix ++ rest) × Appends a c prefix
sent_prefix a b c bytes done p k = (take done bytes, drop done bytes, sym (take-append-drop done bytes), Appends-kept a b c (take done bytes) p k)

pub returns-in-Ok-eq0 : goal.returns-in-Ok-eq0
returns-in-Ok-eq0 g c =
    sent_prefix _ _ _ _ _ (sent_more _ _ _ c.args.bytes.now c.loop-done.done c.in-Ok-eq0.field-0 c.loop-done.invariant.written c.in-Ok-eq0.ensures.bytes) (Keeps-refl _)

pub loop-done-preserved-in-Ok : goal.loop-done-preserved-in-Ok
loop-done-preserved-in-Ok g c = search (rules, c.loop-done.invariant.within, c.in-Ok.ensures.bound, c.loop-done.invariant.written, c.in-Ok.ensures.bytes, piece_within, sent_more)

pub returns-then-not-is_tried_again : goal.returns-then-not-is_tried_again
returns-then-not-is_tried_again g c = sent_prefix _ _ _ c.args.bytes.now c.loop-done.done c.loop-done.invariant.written c.in-Err.ensures.bytes

-- The prefix of an input is one thing alone.
use Rattle.std.proofs.Common.{◌≡◌, ◌⊎◌, ℕ, ◌-◌, Bool, List, [], length, drop, Ok, Err, sym, ap, subst, ◌∙◌, arith, inl, inr, length-append, take-append-drop, ⊎_elim, refl}
use Rattle.http_wire.specs.{Law.{HasTwoHeadFaults, HasTwoBodyFaults, HasTwoFaults}, declared.head.Framing.{Framing, TheVariants.{Sized, Chunked}}}
use Rattle.http_wire.specs.claim.Prefix.{HasHead, HasMessage, HasRequest, IsNoHead, RefusesBytes, RefusesHead, RefusesBody, RefusesTarget, HasFault, HasBody, Lacks, IsFaulty, IsOpen, IsIncomplete, judged_head, is_head}
use Rattle.http_wire_intake.specs.{Chunks.ChunkLaw, claim.Limits.window, declared.bad_request.BadRequest.{BadRequest, TheVariants.{BadHead, HeadTooLarge}}}
use Rattle.{httparse.specs.Grammar.{RequestHead, HasNoRequest, MayBecomeRequest, print_request}, http_wire_intake.proofs.Prefixes.{same_cut, in_window}}
use Rattle.httparse.proofs.GrammarLemmas.{request_unique}
use Rattle.http_wire_intake.specs.Chunks as chunks

-- a head within its limit stands in the window
not_in_window : (input : List ℕ) (h : RequestHead) (rest : List ℕ) → HasNoRequest (window input) → HasHead input h rest → ⊥
not_in_window input h rest none s =
    let g = in_window 16384 input (print_request h) rest s.reads.1 s.short in
    none h g.0 (s.reads.0, g.1)

pub open_no_head : (input : List ℕ) (h : RequestHead) (rest : List ℕ) → IsOpen input → HasHead input h rest → ⊥
open_no_head input h rest o s = not_in_window input h rest o.none s

-- ---- the first bytes

-- bytes that are refused have no head
pub bytes_no_head : (input : List ℕ) (f : BadRequest) (h : RequestHead) (rest : List ℕ) → RefusesBytes input f → HasHead input h rest → ⊥
bytes_no_head input BadHead h rest x s = x.never (drop 16384 input) h rest (rw take-append-drop s.reads)
bytes_no_head input HeadTooLarge h rest (inl x) s = not_in_window input h rest x.none s
bytes_no_head input HeadTooLarge h rest (inr x) s = omega (arith, s.few, x.exceeds (drop 16384 input) h rest (rw take-append-drop s.reads))
bytes_no_head input _ h rest x s = x

-- where no head can come none may
no_head_not_open : (input : List ℕ) → IsNoHead input → MayBecomeRequest (window input) → ⊥
no_head_not_open input x (inl (more, h, reads)) = x.never more h [] reads
no_head_not_open input x (inr ends) = x.past_target ends

bytes_or_open : (input : List ℕ) (f : BadRequest) → RefusesBytes input f → IsOpen input → ⊥
bytes_or_open input BadHead x o = no_head_not_open input x o.goes_on
bytes_or_open input HeadTooLarge (inl x) o = omega (arith, x.long, o.short)
bytes_or_open input HeadTooLarge (inr x) o = omega (arith, x.lines, o.few)
bytes_or_open input _ x o = x

bytes_fault : (input : List ℕ) (f g : BadRequest) → RefusesBytes input f → RefusesBytes input g → (f ≡ g) ⊎ HasTwoHeadFaults input
bytes_fault input BadHead BadHead x y = inl refl
bytes_fault input BadHead HeadTooLarge x (inl y) = absurd (no_head_not_open input x y.goes_on)
bytes_fault input BadHead HeadTooLarge x (inr y) = inr (record { many = y; never = x })
bytes_fault input HeadTooLarge BadHead (inl x) y = absurd (no_head_not_open input y x.goes_on)
bytes_fault input HeadTooLarge BadHead (inr x) y = inr (record { many = x; never = y })
bytes_fault input HeadTooLarge HeadTooLarge x y = inl refl
bytes_fault input BadHead _ x y = absurd y
bytes_fault input HeadTooLarge _ x y = absurd y
bytes_fault input _ g x y = absurd x

-- ---- a body, as it is framed

one_body : ChunkLaw → (m : Framing) (text b c r q : List ℕ) → HasBody m text b r → HasBody m text c q → (b ≡ c) × (r ≡ q)
one_body law (Sized n) text b c r q x y = same_cut b c r q (sym x.0 ∙ y.0) (x.1 ∙ sym y.1)
one_body law Chunked text b c r q x y = law.one_body 0 text b c r q x y

body_or_lack : ChunkLaw → (m : Framing) (text b r : List ℕ) → HasBody m text b r → Lacks m text → ⊥
body_or_lack law (Sized n) text b r x l = omega (arith, l, x.1, ap length x.0, length-append b r)
body_or_lack law Chunked text b r x l = law.body_or_lack 0 text b r x l

body_or_fault : ChunkLaw → (m : Framing) (text b r : List ℕ) (f : BadRequest) → HasBody m text b r → IsFaulty m text f → ⊥
body_or_fault law (Sized n) text b r f x y = absurd y
body_or_fault law Chunked text b r f x y = law.body_or_fault 0 text b r f (omega arith) x y

fault_or_lack : ChunkLaw → (m : Framing) (text : List ℕ) (f : BadRequest) → IsFaulty m text f → Lacks m text → ⊥
fault_or_lack law (Sized n) text f x l = absurd x
fault_or_lack law Chunked text f x l = law.fault_or_lack 0 text f (omega arith) x l

-- two faults of one body
body_faults : ChunkLaw → (m : Framing) (input : List ℕ) (h : RequestHead) (rest : List ℕ) (f g : BadRequest) → HasHead input h rest → IsFaulty m rest f → IsFaulty m rest g → (f ≡ g) ⊎ HasTwoBodyFaults input
body_faults law (Sized n) input h rest f g stands x y = absurd x
body_faults law Chunked input h rest f g stands x y =
    ⊎_elim (λ same. inl same) (λ two. inr (record { head = h; rest = rest; stands = stands; two = two })) (law.one_fault 0 rest f g (omega arith) x y)

-- ---- a head, and what follows it

module _ (input : List ℕ) (h k : RequestHead) (r q : List ℕ) (a : HasHead input h r) (b : HasHead input k q) where
  same_head : (h ≡ k) × (r ≡ q)
  same_head = request_unique input h k r q a.reads b.reads

  -- it is judged in one way
  judged_once : (f : BadRequest) (m : Framing) → judged_head h ≡ Ok m → judged_head k ≡ Err f → ⊥
  judged_once f m good bad = let same = same_head.0 in cc

  -- and what is said of what follows it is said of it by its other name
  same_rest : (P : Framing → List ℕ → Type 0) (m n : Framing) → judged_head h ≡ Ok m → judged_head k ≡ Ok n → P n q → P m r
  same_rest P m n x y p =
      let same = same_head.0 in
      let framed : n ≡ m = cc in
      subst (λ (i : Framing). P i r) framed (subst (P n) (sym same_head.1) p)

pub one_request : ChunkLaw → (input : List ℕ) (h k : RequestHead) (t u b c r q : List ℕ) → HasRequest input h t b r → HasRequest input k u c q → (h ≡ k) × (t ≡ u) × (b ≡ c) × (r ≡ q)
one_request law input h k t u b c r q x y =
    let m = x.message in
    let n = y.message in
    let head = (same_head input h k m.text n.text m.head n.head).0 in
    let target : t ≡ u = cc in
    let other = same_rest input h k m.text n.text m.head n.head (λ i xs. HasBody i xs c q) m.framing n.framing m.judges n.judges n.stands in
    let bodies = one_body law m.framing m.text b c r q m.stands other in
    (head, target, bodies.0, bodies.1)

-- a whole message lacks no body, nor has its body a fault
pub message_or_incomplete : ChunkLaw → (input : List ℕ) (h : RequestHead) (b r : List ℕ) → HasMessage input h b r → IsIncomplete input → ⊥
message_or_incomplete law input h b r m (inl o) = open_no_head input h m.text o m.head
message_or_incomplete law input h b r m (inr l) =
    body_or_lack law m.framing m.text b r m.stands (same_rest input h l.head m.text l.rest m.head l.stands Lacks m.framing l.framing m.judges l.judges l.lacks)

message_or_fault : ChunkLaw → (input : List ℕ) (h : RequestHead) (b r : List ℕ) (f : BadRequest) (head_only : Bool) → HasMessage input h b r → RefusesBody input f head_only → ⊥
message_or_fault law input h b r f head_only m x =
    body_or_fault law m.framing m.text b r f m.stands
    (same_rest input h x.head m.text x.rest m.head x.stands (λ i xs. IsFaulty i xs f) m.framing x.framing m.judges x.judges x.faulty)

pub fault_or_incomplete : ChunkLaw → (input : List ℕ) (f : BadRequest) (head_only : Bool) → HasFault input f head_only → IsIncomplete input → ⊥
fault_or_incomplete law input f head_only (inl x) (inl o) = bytes_or_open input f x.0 o
fault_or_incomplete law input f head_only (inl x) (inr l) = bytes_no_head input f l.head l.rest x.0 l.stands
fault_or_incomplete law input f head_only (inr (inl x)) (inl o) = open_no_head input x.head x.rest o x.stands
fault_or_incomplete law input f head_only (inr (inl x)) (inr l) = judged_once input l.head x.head l.rest x.rest l.stands x.stands f l.framing l.judges x.judges
fault_or_incomplete law input f head_only (inr (inr (inl x))) (inl o) = open_no_head input x.head x.rest o x.stands
fault_or_incomplete law input f head_only (inr (inr (inl x))) (inr l) =
    fault_or_lack law x.framing x.rest f x.faulty (same_rest input x.head l.head x.rest l.rest x.stands l.stands Lacks x.framing l.framing x.judges l.judges l.lacks)
fault_or_incomplete law input f head_only (inr (inr (inr x))) i = message_or_incomplete law input x.head x.body x.rest x.message i

pub request_or_fault : ChunkLaw → (input : List ℕ) (h : RequestHead) (t b r : List ℕ) (f : BadRequest) (head_only : Bool) → HasRequest input h t b r → HasFault input f head_only → ⊥
request_or_fault law input h t b r f head_only y (inl x) = bytes_no_head input f h y.message.text x.0 y.message.head
request_or_fault law input h t b r f head_only y (inr (inl x)) =
    judged_once input h x.head y.message.text x.rest y.message.head x.stands f y.message.framing y.message.judges x.judges
request_or_fault law input h t b r f head_only y (inr (inr (inl x))) = message_or_fault law input h b r f head_only y.message x
request_or_fault law input h t b r f head_only y (inr (inr (inr x))) =
    let same = (same_head input h x.head y.message.text x.message.text y.message.head x.message.head).0 in cc (y.target_is, x.bad)

-- ---- two faults

-- a head with a fault of it or after it, and whether its method is HEAD
record Headed (input : List ℕ) (head_only : Bool) : Type 0 where
  head : RequestHead
  rest : List ℕ
  stands : HasHead input head rest
  shown : head_only ≡ is_head head.method

headed : (input : List ℕ) (f : BadRequest) (head_only : Bool) → RefusesHead input f head_only ⊎ (RefusesBody input f head_only ⊎ RefusesTarget input f head_only)
    → Headed input head_only
headed input f head_only (inl x) = record { head = x.head; rest = x.rest; stands = x.stands; shown = x.shown }
headed input f head_only (inr (inl x)) = record { head = x.head; rest = x.rest; stands = x.stands; shown = x.shown }
headed input f head_only (inr (inr x)) = record { head = x.head; rest = x.message.text; stands = x.message.head; shown = x.shown }

head_or_after : (input : List ℕ) (f g : BadRequest) (a b : Bool) → RefusesHead input f a → RefusesBody input g b ⊎ RefusesTarget input g b → ⊥
head_or_after input f g a b x (inl y) = judged_once input y.head x.head y.rest x.rest y.stands x.stands f y.framing y.judges x.judges
head_or_after input f g a b x (inr y) = judged_once input y.head x.head y.message.text x.rest y.message.head x.stands f y.message.framing y.message.judges x.judges

headed_fault : ChunkLaw → (input : List ℕ) (f g : BadRequest) (a b : Bool) → RefusesHead input f a ⊎ (RefusesBody input f a ⊎ RefusesTarget input f a)
    → RefusesHead input g b ⊎ (RefusesBody input g b ⊎ RefusesTarget input g b) → (f ≡ g) ⊎ HasTwoBodyFaults input
headed_fault law input f g a b (inl x) (inl y) = let same = (same_head input x.head y.head x.rest y.rest x.stands y.stands).0 in inl (cc)
headed_fault law input f g a b (inl x) (inr y) = absurd (head_or_after input f g a b x y)
headed_fault law input f g a b (inr x) (inl y) = absurd (head_or_after input g f b a y x)
headed_fault law input f g a b (inr (inl x)) (inr (inl y)) =
    body_faults law x.framing input x.head x.rest f g x.stands x.faulty
    (same_rest input x.head y.head x.rest y.rest x.stands y.stands (λ i xs. IsFaulty i xs g) x.framing y.framing x.judges y.judges y.faulty)
headed_fault law input f g a b (inr (inl x)) (inr (inr y)) = absurd (message_or_fault law input y.head y.body y.rest f a y.message x)
headed_fault law input f g a b (inr (inr x)) (inr (inl y)) = absurd (message_or_fault law input x.head x.body x.rest g b x.message y)
headed_fault law input f g a b (inr (inr x)) (inr (inr y)) = inl (x.named ∙ sym y.named)

pub one_fault : ChunkLaw → (input : List ℕ) (f g : BadRequest) (a b : Bool) → HasFault input f a → HasFault input g b → ((f ≡ g) × (a ≡ b)) ⊎ HasTwoFaults input
one_fault law input f g a b (inl x) (inl y) = ⊎_elim (λ same. inl (same, x.1 ∙ sym y.1)) (λ two. inr (inl two)) (bytes_fault input f g x.0 y.0)
one_fault law input f g a b (inl x) (inr y) = let s = headed input g b y in absurd (bytes_no_head input f s.head s.rest x.0 s.stands)
one_fault law input f g a b (inr x) (inl y) = let s = headed input f a x in absurd (bytes_no_head input g s.head s.rest y.0 s.stands)
one_fault law input f g a b (inr x) (inr y) =
    let s = headed input f a x in
    let t = headed input g b y in
    let same = (same_head input s.head t.head s.rest t.rest s.stands t.stands).0 in
    let shown : a ≡ b = cc in
    ⊎_elim (λ is. inl (is, shown)) (λ two. inr (inr two)) (headed_fault law input f g a b x y)

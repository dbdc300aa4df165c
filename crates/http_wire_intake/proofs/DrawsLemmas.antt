-- Calls on an intake, one after another.
use Rattle.{std.{specs.{Io.KnownBytes.Consumes, Prelude.All}, proofs.KnownBytes.Consumes-trans}, http_wire_intake.specs.{Budget.Spends, Draws.{Draws, SameParts, IsPutOff}}}
use Rattle.std.proofs.Common.{◌≡◌, ℕ, ◌+◌, List, [], ◌∷◌, ◌++◌, Option, Ok, refl, ◌∙◌, arith, subst, sym, ap, append_assoc, append-nil, rules}
use Rattle.http_wire_intake.specs.declared.intake.Intake.{Intake}

pub spends_more : (t u v a b c : ℕ) → Spends t u a b → Spends u v b c → Spends t v a c
spends_more t u v a b c p q = record { fewer = omega (arith, p.fewer, q.fewer); taken = omega (arith, p.fewer, q.fewer, p.taken, q.taken) }

pub spends_none : (t a : ℕ) → Spends t t a a
spends_none t a = record { fewer = omega arith; taken = omega arith }

pub same_more : {R : Type 0} (a b c : Intake R) → SameParts a b → SameParts b c → SameParts a c
same_more a b c p q = record { reader = q.reader ∙ p.reader; read_buffer = q.read_buffer ∙ p.read_buffer; turns = q.turns ∙ p.turns }

pub same_none : {R : Type 0} (a : Intake R) → SameParts a a
same_none a = record { reader = refl; read_buffer = refl; turns = refl }

-- calls that ended well draw together what each of them drew
pub draws_more : {R A B C : Type 0} (turned failed : R → ℕ) (a b c : Intake R) {x : A} {y : B} {z : C} → Draws turned failed a b (Ok x) → Draws turned failed b c (Ok y) → Draws turned failed a c (Ok z)
draws_more turned failed a b c p q = search (rules, same_more, spends_more)

-- what holds of the inbox and some more bytes holds of the start and all bytes since
pub goes_on : (P : List ℕ → Type 0) (u v w : Option (List ℕ)) (start read_buffer : List ℕ) → (more : List ℕ) × Consumes u v more × (read_buffer ≡ start ++ more)
    → ((x : List ℕ) × Consumes v w x × P (read_buffer ++ x)) → (x : List ℕ) × Consumes u w x × P (start ++ x)
goes_on P u v w start read_buffer came next = search (rules, Consumes-trans, append_assoc)

none_wait : (xs : List ℕ) → All (λ b. ⊥) xs → xs ≡ []
none_wait [] all = refl
none_wait (x ∷ xs) all = absurd (all 0 0 (omega arith))

-- where no byte may wait it is said of all of them
pub not_put_off : (Says : List ℕ → Type 0) (bytes : List ℕ) → IsPutOff Says (λ b. ⊥) bytes → Says bytes
not_put_off Says bytes p = subst Says (sym (p.cut ∙ ap (λ (t : List ℕ). p.prefix ++ t) (none_wait p.unread p.all) ∙ append-nil p.prefix)) p.says

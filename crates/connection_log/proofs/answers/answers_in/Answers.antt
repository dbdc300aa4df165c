use Rattle.std.proofs.{Common.{◌≡◌, ◌+◌, ◌-◌, ◌<◌, ℕ, List, length, take, drop, sym, ap, subst, ◌∙◌, arith, length-drop}, Math.Seq.take-length}
use Rattle.{std.proofs.lemmas.List.{drop_more, at_drop_more}, connection_log.specs.Answers.{class_of, one_from, count_from}}
use Rattle.connection_log.proofs.answers.answers_in.Goals as goal

count_more : (digit : ℕ) (text : List ℕ) (i : ℕ) → i < length text → count_from digit (drop i text) ≡ one_from digit (class_of (drop i text)) + count_from digit (drop (i + 1) text)
count_more digit text i inside =
    subst (λ (l : List ℕ). count_from digit (drop i text) ≡ one_from digit (class_of l) + count_from digit (drop (i + 1) text)) (sym (drop_more text i 0 inside))
    (at_drop_more (count_from digit) text i 0 inside)

pub loop-place-preserved : goal.loop-place-preserved
loop-place-preserved c =
    let text = c.args.text.now in
    let i = c.loop-place.place in
    let rest : take (length text - i) (drop i text) ≡ drop i text = ap (λ (n : ℕ). take n (drop i text)) (sym (length-drop i text)) ∙ take-length (drop i text) in
    let class : c.class-class.result ≡ class_of (drop i text) = c.class-class.ensures ∙ ap class_of rest in
    let all : c.one-all.result ≡ one_from 50 (class_of (drop i text)) = c.one-all.ensures.value ∙ ap (one_from 50) class in
    let refusals : c.one-refusals.result ≡ one_from 52 (class_of (drop i text)) = c.one-refusals.ensures.value ∙ ap (one_from 52) class in
    let more = count_more 50 text i c.loop-place-test.true in
    let less = count_more 52 text i c.loop-place-test.true in
    record { all = omega arith; refusals = omega arith; some = omega arith; few = omega arith }

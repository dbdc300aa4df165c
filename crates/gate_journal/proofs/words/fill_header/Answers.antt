use Rattle.{std.proofs.Common.{ap, ◌∙◌, ℕ, List}, gate_journal.specs.claim.Store.{put_word, header_of}}
use Rattle.gate_journal.proofs.words.fill_header.Goals as goal

pub returns : goal.returns
unfolding header_of
returns c =
    c.set_word-5.ensures.bytes ∙ ap (λ (s : List ℕ). put_word s 4 c.args.layout.pages)
    (c.set_word-4.ensures.bytes ∙ ap (λ (s : List ℕ). put_word s 3 c.args.layout.journal_pages)
    (c.set_word-3.ensures.bytes ∙ ap (λ (s : List ℕ). put_word s 2 1)
    (c.set_word-2.ensures.bytes ∙ ap (λ (s : List ℕ). put_word s 1 0x4445534b)
    c.set_word.ensures.bytes)))

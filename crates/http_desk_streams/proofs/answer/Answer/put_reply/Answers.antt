use Rattle.{std.proofs.Common.{◌≡◌, ◌⊎◌, ◌||◌, inl, inr, refl, ◌∙◌, Bool, List, ℕ}, desk_model.specs.declared.reply.Reply.Reply}
use Rattle.{http_desk_streams.specs.claim.Answers.{bytes_of, saying, message_of, closes_after}, http_wire.specs.declared.response.ContentType.TheVariants.PlainText}
use Rattle.desk_model.specs.declared.reply.Reply.TheVariants as reply
use Rattle.http_desk_streams.proofs.answer.Answer.put_reply.Goals as goal

file_text : (r : Reply) (text : List ℕ) (closing head_only : Bool) → (r ≡ reply.Blocks text) ⊎ (r ≡ reply.Baf text)
    → bytes_of closing head_only (saying 200 PlainText text) ≡ bytes_of (closes_after r || closing) head_only (message_of r)
file_text r text closing head_only (inl e) = rw e refl
file_text r text closing head_only (inr e) = rw e refl

pub returns-in-Audited-clause-text : goal.returns-in-Audited-clause-text
returns-in-Audited-clause-text c = rw (c.in-Audited.is, ← c.into_vec.ensures) c.put_long.ensures

pub returns-in-Blocks-clause-text : goal.returns-in-Blocks-clause-text
returns-in-Blocks-clause-text c = rw c.into_vec-in-Blocks.ensures at c.put_long-in-Blocks.ensures ∙ file_text c.args.reply c.in-Blocks.text c.args.closing c.args.head_only c.in-Blocks.is

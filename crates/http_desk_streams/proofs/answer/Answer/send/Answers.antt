use Rattle.std.proofs.Common.{◌≡◌, if◌then◌else◌}
use Rattle.http_desk_streams.proofs.answer.Answer.send.Goals as goal

pub returns-clause-bytes : goal.returns-clause-bytes
returns-clause-bytes g c =
    let body : c.body_of-body.result.now ≡ (if c.self.inside.is_long then c.self.inside.long.items else c.self.inside.short)
    = rw (← c.as_slice.ensures, ← c.as_slice-2.ensures.value) c.body_of-body.ensures in
    rw (← c.self.view_is, ← body, ← c.allow_text.ensures.text) c.write_response.ensures.bytes

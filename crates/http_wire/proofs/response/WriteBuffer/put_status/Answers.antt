use Rattle.{std.proofs.Common.{rules, ◌≡◌, ◌++◌, ◌∙◌, codes}, http.specs.StatusCode.code_digits, http_wire.{specs.claim.Phrases.phrase_of, proofs.AddingLemmas.adds}}
use Rattle.http_wire.proofs.response.WriteBuffer.put_status.Goals as goal

pub returns : goal.returns
returns c =
    let put = adds (adds (adds (adds c.put.ensures c.put-2.ensures) c.put-3.ensures) c.put-4.ensures) c.put-5.ensures in
    let digits : c.as_bytes.result.now ≡ code_digits c.args.status = search rules in
    let words : c.as_bytes-2.result.now ≡ phrase_of c.args.status = search rules in
    record { is = put.is ∙ λ i. c.args.self.now ++ ((((codes "HTTP/1.1 " ++ digits i) ++ codes " ") ++ words i) ++ codes "\r\n"); few = search rules }

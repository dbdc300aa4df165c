use Rattle.http_wire.proofs.{CaseLemmas.some_prefix, PrefixLemmas.{one_request, one_fault, request_or_fault, message_or_incomplete, fault_or_incomplete}}
use Rattle.http_wire.proofs.{RequestLemmas.request_prefix, StayLemmas.{request_stays, fault_stays}}
use Rattle.http_wire.proofs.law.prefix_law.Goals as goal

pub returns : goal.returns
returns c =
    let law = c.chunk_law.ensures in
    record {
      one_request = one_request law;
      one_fault = one_fault law;
      request_or_fault = request_or_fault law;
      request_or_incomplete = λ input h t b r x. message_or_incomplete law input h b r x.message;
      fault_or_incomplete = fault_or_incomplete law;
      some_case = some_prefix law;
      request_stays = request_stays law;
      fault_stays = fault_stays law;
      request_prefix = request_prefix law;
    }

use Rattle.{std.proofs.Common.{length, arith}, http_wire_intake.proofs.ChunkCases.{chunk_cases, nothing_lacks}}
use Rattle.http_wire_intake.proofs.ChunkLemmas as chunks
use Rattle.http_wire_intake.proofs.ChunkStays as stays
use Rattle.http_wire_intake.proofs.law.chunk_law.Goals as goal

pub returns : goal.returns
returns c = record {
  one_body = chunks.one_body;
  one_fault = chunks.one_fault;
  body_or_fault = chunks.body_or_fault;
  body_or_lack = chunks.body_or_lack;
  fault_or_lack = chunks.fault_or_lack;
  some_case = λ n input room x. chunk_cases (length input) n input (omega arith) room x;
  nothing_lacks = nothing_lacks;
  body_stays = stays.body_stays;
  fault_stays = stays.fault_stays;
  body_prefix = stays.body_prefix;
}

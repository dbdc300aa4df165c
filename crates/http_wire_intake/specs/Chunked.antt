-- What reading chunks gives.
use Rattle.{std.specs.{Io.KnownBytes.IsAtEnd, Prelude.{ℕ, List, Option, Result, Ok, Err, ⊤}}, http_wire_intake.specs.claim.Chunks.{HasChunks, HasChunkFault, LacksChunks}}
use Rattle.http_wire_intake.specs.declared.{chunks.Chunked.{Chunked, TheVariants.{Whole, Lacking, Refused}}, fault.WireFault.WireFault}
use Rattle.http_wire_intake.specs.declared.fault.WireFault.TheVariants as fault

-- after n bytes of the body, what stands at the start of the input
abbrev pub ChunksCame : ℕ → List ℕ → Result Chunked WireFault → List ℕ → List ℕ → Type 0
ChunksCame n input (Ok Whole) body rest = HasChunks n input body rest
ChunksCame n input (Ok Lacking) body rest = LacksChunks n input
ChunksCame n input (Ok (Refused f)) body rest = HasChunkFault n input f
ChunksCame n input (Err fault.Read) body rest = LacksChunks n input
ChunksCame n input (Err fault.TurnLimit) body rest = LacksChunks n input
ChunksCame n input (Err fault.Memory) body rest = ⊤

-- less than the whole is told only at the reader's end
abbrev pub LacksChunksAtEnd : Option (List ℕ) → Result Chunked WireFault → Type 0
LacksChunksAtEnd left (Ok Whole) = ⊤
LacksChunksAtEnd left (Ok Lacking) = IsAtEnd left
LacksChunksAtEnd left (Ok (Refused f)) = ⊤
LacksChunksAtEnd left (Err e) = ⊤

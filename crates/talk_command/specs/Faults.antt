-- What is told of a fault of `talk`.
use Rattle.{std.specs.Prelude.{ℕ, List, codes}, http_desk.specs.streams.declared.serve.ServeFault.{ServeFault, TheVariants.{ReadFault, WriteFault, Memory, TurnLimit}}}

abbrev pub fault_line : ServeFault → List ℕ
fault_line ReadFault = codes "plandesk: talk: ReadFault\n"
fault_line WriteFault = codes "plandesk: talk: WriteFault\n"
fault_line Memory = codes "plandesk: talk: Memory\n"
fault_line TurnLimit = codes "plandesk: talk: TurnLimit\n"

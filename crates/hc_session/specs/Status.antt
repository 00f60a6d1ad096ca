-- The number and the message of a status. Our own choice.
use Rattle.std.specs.Prelude.{ℕ, List, Option, Some, None, codes}
use Rattle.hc_session.specs.declared.status.Status.{Status}
use Rattle.hc_session.specs.declared.status.Status.TheVariants.{Done, Words, ReadFault, WriteFault}
use Rattle.hc_session.specs.declared.status.Status.TheVariants.{NoMemory, CutLine, LineTooLong, ScriptTooLong}

abbrev pub code_of : Status → ℕ
code_of Done = 0
code_of Words = 2
code_of ReadFault = 3
code_of WriteFault = 4
code_of NoMemory = 5
code_of CutLine = 6
code_of LineTooLong = 7
code_of ScriptTooLong = 8

abbrev pub message_of : Status → Option (List ℕ)
message_of Done = None
message_of Words = Some (codes "hc: words")
message_of ReadFault = Some (codes "hc: read")
message_of WriteFault = Some (codes "hc: write")
message_of NoMemory = Some (codes "hc: memory")
message_of CutLine = Some (codes "hc: cut line")
message_of LineTooLong = Some (codes "hc: long line")
message_of ScriptTooLong = Some (codes "hc: long script")

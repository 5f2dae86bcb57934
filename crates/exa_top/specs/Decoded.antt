-- How `decode` ends.
use Rattle.message_decoder.specs.declared.halt.Halt.{Halt}
use Rattle.message_decoder.specs.declared.halt.Halt.TheVariants as halt
use Rattle.script_play.specs.declared.status.Status.{Status}
use Rattle.script_play.specs.declared.status.Status.TheVariants as status

-- why decoding halted, as a status
abbrev pub status_halted : Halt → Status
status_halted halt.Memory = status.NoMemory
status_halted halt.Read = status.ReadFault
status_halted halt.Write = status.WriteFault
status_halted halt.Long = status.InputLong

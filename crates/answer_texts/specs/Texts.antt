-- What is printed for answers, as lines of text.
use Rattle.std.specs.Prelude.{ℕ, ◌≡◌, codes, decimal, Bool, true, false, List, [], ◌∷◌, ◌++◌}
use Rattle.std.specs.List.{flat_map}
use Rattle.hex.specs.Hex.{encode_upper}
use Rattle.ack_queue.specs.declared.reply.Reply.{Reply}
use Rattle.ack_queue.specs.Texts.{reply_text}
use Rattle.route_grammar.specs.declared.fault.LineFault.{LineFault}
use Rattle.route_grammar.specs.declared.fault.LineFault.TheVariants as fault
use Rattle.config_model.specs.declared.fault.ConfigFault.{ConfigFault}
use Rattle.config_model.specs.Kinds.{kind_word}
use Rattle.book_history.specs.declared.outcomes.Control.{Control}
use Rattle.book_history.specs.declared.outcomes.Control.TheVariants as control
use Rattle.book_history.specs.declared.outcomes.Cut.{Cut}
use Rattle.book_history.specs.declared.outcomes.Cut.TheVariants as cut
use Rattle.book_history.specs.declared.outcomes.NotRead.{NotRead}
use Rattle.book_history.specs.declared.outcomes.NotRead.TheVariants as not_read
use Rattle.book_history.specs.declared.outcomes.Peer.{Peer}
use Rattle.book_history.specs.declared.outcomes.Peer.TheVariants as peer
use Rattle.book_history.specs.declared.outcomes.Reload.{Reload}
use Rattle.book_history.specs.declared.outcomes.Reload.TheVariants as reload
use Rattle.book_history.specs.declared.outcomes.Spawn.{Spawn}
use Rattle.book_history.specs.declared.outcomes.Spawn.TheVariants as spawn
use Rattle.book_history.specs.declared.outcomes.Take.{Take}
use Rattle.book_history.specs.declared.outcomes.Take.TheVariants as take
use Rattle.book_history.specs.declared.outcomes.Up.{Up}
use Rattle.book_history.specs.declared.outcomes.Up.TheVariants as up
use Rattle.book_history.specs.declared.outcomes.Verdict.{Verdict}
use Rattle.book_history.specs.declared.outcomes.Verdict.TheVariants as verdict
use Rattle.book_history.specs.declared.outcomes.Why.{Why}
use Rattle.book_history.specs.declared.outcomes.Why.TheVariants as why

-- a piece was put behind a text
pub record IsPut (before piece after : List ℕ) : Type 0 where
  pub after_is : after ≡ before ++ piece

-- a line that ends with a number
abbrev pub number_line : List ℕ → ℕ → List ℕ
number_line words number = words ++ (decimal number ++ 10 ∷ [])

-- a line that ends with two numbers
abbrev pub numbers_line : List ℕ → ℕ → ℕ → List ℕ
numbers_line words first second = words ++ (decimal first ++ 32 ∷ (decimal second ++ 10 ∷ []))

-- whether a helper may be started
abbrev pub spawn_text : Spawn → List ℕ
spawn_text spawn.Stopping = codes "stopping\n"
spawn_text spawn.Absent = codes "absent\n"
spawn_text spawn.Running = codes "running\n"
spawn_text spawn.GiveUp = codes "give-up\n"
spawn_text (spawn.Go inc run) = number_line (codes "go ") inc

-- the fault of a line
abbrev pub fault_text : LineFault → List ℕ
fault_text (fault.BadToken place) = number_line (codes "error token ") place
fault_text (fault.TooMany place limit) = numbers_line (codes "error many ") place limit
fault_text fault.TooLong = codes "error long\n"

-- why a line is refused
abbrev pub why_text : Why → List ℕ
why_text (why.Line fault) = fault_text fault
why_text why.NoMatch = codes "error no-match\n"
why_text (why.Full number) = number_line (codes "error full ") number
why_text (why.Show number) = number_line (codes "error show ") number
why_text why.NoMemory = codes "error memory\n"

-- what becomes of a line
abbrev pub verdict_text : Verdict → List ℕ
verdict_text verdict.Ended = codes "ended\n"
verdict_text verdict.Busy = codes "busy\n"
verdict_text (verdict.Error why) = why_text why
verdict_text verdict.Done = codes "done\n"

-- a reply that was taken
abbrev pub taken_text : Reply → List ℕ
taken_text reply = codes "reply " ++ reply_text reply

-- what was taken
abbrev pub take_text : Take → List ℕ
take_text take.Ended = codes "ended\n"
take_text take.Nothing = codes "nothing\n"
take_text (take.Replies given) = flat_map taken_text given.items

-- the replies that were taken, as the helper reads them
abbrev pub replies_text : Take → List ℕ
replies_text take.Ended = []
replies_text take.Nothing = []
replies_text (take.Replies given) = flat_map reply_text given.items

-- which neighbour is in a slot
abbrev pub peer_text : Peer → List ℕ
peer_text peer.Stopping = codes "stopping\n"
peer_text peer.Absent = codes "absent\n"
peer_text (peer.Is settings) = codes "peer\n"

-- whether a session may come up
abbrev pub up_text : Up → List ℕ
up_text up.Stopping = codes "stopping\n"
up_text up.Stale = codes "stale\n"
up_text up.Ok = codes "up\n"

-- whether further messages of the batch follow
abbrev pub place_text : Bool → List ℕ
place_text false = codes " more "
place_text true = codes " last "

-- a message to the neighbour of a slot, in hexadecimal digits
abbrev pub message_text : ℕ → List ℕ → Bool → List ℕ
message_text n bytes last =
    codes "update " ++ (decimal n ++ (place_text last ++ (encode_upper bytes ++ 10 ∷ [])))

-- what is to be sent to the neighbour of a slot
abbrev pub cut_text : ℕ → List ℕ → Cut → List ℕ
cut_text n bytes cut.Down = codes "down\n"
cut_text n bytes (cut.Reset code sub) = numbers_line (codes "reset ") code sub
cut_text n bytes cut.Nothing = codes "nothing\n"
cut_text n bytes (cut.Message last) = message_text n bytes last

-- what the daemon is to do
abbrev pub control_text : Control → List ℕ
control_text control.Stop = codes "stop\n"
control_text control.ReloadDue = codes "reload-due\n"
control_text control.Nothing = codes "nothing\n"

-- what became of a new configuration
abbrev pub reload_text : Reload → List ℕ
reload_text (reload.Full number) = number_line (codes "full ") number
reload_text reload.NoMemory = codes "memory\n"
reload_text reload.Ok = codes "reloaded\n"

-- the first fault of a file
abbrev pub refused_text : ConfigFault → List ℕ
refused_text fault =
    codes "refused " ++ (decimal fault.line ++ 58 ∷ (decimal fault.column ++ 32 ∷ (kind_word fault.kind ++ 10 ∷ [])))

-- why there is no new configuration; where its file isn't read nothing is printed
abbrev pub not_read_text : NotRead → List ℕ
not_read_text not_read.ReadFault = []
not_read_text (not_read.Refused fault) = refused_text fault
not_read_text not_read.NoMemory = codes "memory\n"

-- what has no answer
abbrev pub ok_text : List ℕ
ok_text = codes "ok\n"

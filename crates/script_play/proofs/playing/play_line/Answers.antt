use Rattle.std.proofs.Common.{sym}
use Rattle.script_grammar.specs.Events.{event_told}
use Rattle.script_play.proofs.LineLemmas.{event_slot}
use Rattle.script_play.proofs.playing.play_line.Goals as goal

pub play_event-requires-after_bounds : goal.play_event-requires-after_bounds
play_event-requires-after_bounds g c =
    λ places bounds. event_slot c.script_lines_say_one.ensures.slots c.args.line.now (event_told c.in-Says.event) (sym
    c.in-Says.ensures)

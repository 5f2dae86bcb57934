use Rattle.exa_top.proofs.CompleteLemmas.{completed, counts_rose, refuses_it}
use Rattle.exa_top.specs.declared.words.TextCommand.TheVariants.{EncodePlain, Parse}
use Rattle.exa_top.proofs.EncodedLemmas.{encode_named, encodes_named, encodes_spelled}
use Rattle.exa_top.proofs.ParsedLemmas.{parses_named}
use Rattle.exa_top.proofs.PlayedLemmas.{play_spelled, plays_named, refused_plays}
use Rattle.exa_top.proofs.WordLemmas.{spelled_bounded}
use Rattle.exa_top.proofs.top.exabgp_text.Goals as goal

pub returns-in-Some-clause-refuses : goal.returns-in-Some-clause-refuses
returns-in-Some-clause-refuses g c fault command is faulty files =
    refuses_it c.files_say_one.ensures.values c.files_say_one.ensures.apart c.files_say_one.ensures.faults _
    c.in-Some.command _ _ _ _ fault
    c.run.result c.run.ensures.answered (faulty c.in-Some.command c.in-Some.ensures.found)
    (λ unread. files (counts_rose _ _ (c.run.ensures.config unread)))

pub returns-in-Some-clause-complete : goal.returns-in-Some-clause-complete
returns-in-Some-clause-complete g c command is good script short files input output =
    completed c.files_say_one.ensures.values c.files_say_one.ensures.apart _ c.in-Some.command _ _ _ _ c.run.result
    c.run.ensures.answered
    (good c.in-Some.command c.in-Some.ensures.found) (script c.in-Some.command c.in-Some.ensures.found)
    (λ reads. short (c.in-Some.command, c.in-Some.ensures.found, reads))
    (λ unread. files (counts_rose _ _ (c.run.ensures.config unread))) input output

pub returns-in-Some-clause-plays : goal.returns-in-Some-clause-plays
returns-in-Some-clause-plays g c path named =
    plays_named _ _ c.in-Some.command path _ _ _ _ _ _ c.run.result c.in-Some.ensures.found named c.run.ensures.plays

pub returns-in-Some-clause-encodes : goal.returns-in-Some-clause-encodes
returns-in-Some-clause-encodes g c path named =
    encodes_named _ _ c.in-Some.command path _ _ _ _ _ _ c.run.result c.in-Some.ensures.found named
    c.run.ensures.encodes

pub returns-in-Some-clause-encodes_plain : goal.returns-in-Some-clause-encodes_plain
returns-in-Some-clause-encodes_plain g c session spells =
    encodes_spelled _ _ c.in-Some.command session _ _ _ _ _ _ c.run.result c.in-Some.ensures.found spells
    c.run.ensures.encodes

pub returns-in-Some-clause-parses : goal.returns-in-Some-clause-parses
returns-in-Some-clause-parses g c named =
    parses_named _ c.in-Some.command _ _ _ _ c.run.result c.in-Some.ensures.found named c.run.ensures.parses

pub returns-in-Some-clause-script : goal.returns-in-Some-clause-script
returns-in-Some-clause-script g c line is = (
  c.in-Some.command,
  c.in-Some.ensures.found,
  refused_plays _ c.in-Some.command _ (c.run.ensures.answered.bad line is),
)

pub returns-in-None-clause-plays : goal.returns-in-None-clause-plays
returns-in-None-clause-plays g c path named =
    let spelled = play_spelled c.args.words.now path named in absurd (c.in-None.ensures.none spelled.0 spelled.1)

pub returns-in-None-clause-encodes : goal.returns-in-None-clause-encodes
returns-in-None-clause-encodes g c path named =
    let spelled = encode_named c.args.words.now path named in absurd (c.in-None.ensures.none spelled.0 spelled.1)

pub returns-in-None-clause-encodes_plain : goal.returns-in-None-clause-encodes_plain
returns-in-None-clause-encodes_plain g c session spells = absurd (c.in-None.ensures.none (EncodePlain session) spells)

pub returns-in-None-clause-parses : goal.returns-in-None-clause-parses
returns-in-None-clause-parses g c named = absurd (c.in-None.ensures.none Parse named)

pub run-requires-clause-bounded : goal.run-requires-clause-bounded
run-requires-clause-bounded g c lifetimes ordered = spelled_bounded _ c.in-Some.command c.in-Some.ensures.found

use Rattle.std.proofs.Common.{refl}
use Rattle.outside.specs.Seen.{source_seen}
use Rattle.exa_top.specs.declared.words.TextCommand.TheVariants.{Load, Decode, Help, Version}
use Rattle.exa_top.proofs.AnsweredLemmas.{read_none, text_written}
use Rattle.exa_top.proofs.CheckedLemmas.{ends_later}
use Rattle.exa_top.proofs.EncodedLemmas.{encodes_later, encodes_read, file_answered, plain_answered}
use Rattle.exa_top.proofs.ParsedLemmas.{parsed_answered, parses_later, parses_read}
use Rattle.exa_top.proofs.PlayedLemmas.{played_answered}
use Rattle.exa_top.proofs.top.run.Goals as goal

pub returns-in-Encode-clause-answered : goal.returns-in-Encode-clause-answered
returns-in-Encode-clause-answered g c =
    rw c.in-Encode.is (file_answered _ c.in-Encode.path _ _ _ _ _ _ _ c.encode_over.ensures.encodes)

pub returns-in-Encode-clause-encodes : goal.returns-in-Encode-clause-encodes
returns-in-Encode-clause-encodes g c = rw c.in-Encode.is c.encode_over.ensures.encodes

pub returns-in-EncodePlain-clause-answered : goal.returns-in-EncodePlain-clause-answered
returns-in-EncodePlain-clause-answered g c =
    rw c.in-EncodePlain.is (plain_answered _ c.in-EncodePlain.ends _ _ _ _ _ c.encode_plain.ensures)

pub returns-in-EncodePlain-clause-encodes : goal.returns-in-EncodePlain-clause-encodes
returns-in-EncodePlain-clause-encodes g c = rw c.in-EncodePlain.is c.encode_plain.ensures

pub returns-in-EncodePlain-clause-at_once : goal.returns-in-EncodePlain-clause-at_once
returns-in-EncodePlain-clause-at_once g c at_once =
    absurd (encodes_later _ _ _ _ _ _ c.encode_plain.ensures at_once)

pub returns-in-EncodePlain-clause-unread : goal.returns-in-EncodePlain-clause-unread
returns-in-EncodePlain-clause-unread g c is = absurd (encodes_read _ _ _ _ _ _ c.encode_plain.ensures is)

pub returns-in-EncodePlain-clause-config : goal.returns-in-EncodePlain-clause-config
returns-in-EncodePlain-clause-config g c is = absurd (encodes_read _ _ _ _ _ _ c.encode_plain.ensures is)

pub returns-in-Check-clause-answered : goal.returns-in-Check-clause-answered
returns-in-Check-clause-answered g c = rw c.in-Check.is (c.check.ensures.answered _)

pub returns-in-Play-clause-answered : goal.returns-in-Play-clause-answered
returns-in-Play-clause-answered g c =
    rw c.in-Play.is (played_answered _ c.in-Play.path _ _ _ _ _ _ _ c.play_over.ensures.plays)

pub returns-in-Play-clause-plays : goal.returns-in-Play-clause-plays
returns-in-Play-clause-plays g c = rw c.in-Play.is c.play_over.ensures.plays

pub returns-in-Load-clause-answered : goal.returns-in-Load-clause-answered
returns-in-Load-clause-answered g c = rw c.in-Load.is (c.load_plain.ensures _ _)

pub returns-in-Load-clause-at_once : goal.returns-in-Load-clause-at_once
returns-in-Load-clause-at_once g c at_once =
    absurd (ends_later (g.F.Files.content c.args.files.now) (Load c.in-Load.count) _ _ _ _ _
    (c.load_plain.ensures _ (source_seen g.S.Source.given g.S.Source.left g.S.Source.ended g.S.Source.faults
    c.args.input.now)) (λ names. names) at_once)

pub returns-in-Load-clause-unread : goal.returns-in-Load-clause-unread
returns-in-Load-clause-unread g c is =
    absurd ((c.load_plain.ensures (g.F.Files.content c.args.files.now) (source_seen g.S.Source.given g.S.Source.left
    g.S.Source.ended g.S.Source.faults c.args.input.now)).unread is)

pub returns-in-Load-clause-config : goal.returns-in-Load-clause-config
returns-in-Load-clause-config g c is =
    absurd ((c.load_plain.ensures (g.F.Files.content c.args.files.now) (source_seen g.S.Source.given g.S.Source.left
    g.S.Source.ended g.S.Source.faults c.args.input.now)).unread is)

pub returns-in-Parse-clause-answered : goal.returns-in-Parse-clause-answered
returns-in-Parse-clause-answered g c = rw c.in-Parse.is (parsed_answered _ _ _ _ _ _ c.parse.ensures)

pub returns-in-Parse-clause-parses : goal.returns-in-Parse-clause-parses
returns-in-Parse-clause-parses g c = rw c.in-Parse.is c.parse.ensures

pub returns-in-Parse-clause-at_once : goal.returns-in-Parse-clause-at_once
returns-in-Parse-clause-at_once g c at_once = absurd (parses_later _ _ _ _ _ c.parse.ensures at_once)

pub returns-in-Parse-clause-unread : goal.returns-in-Parse-clause-unread
returns-in-Parse-clause-unread g c is = absurd (parses_read _ _ _ _ _ c.parse.ensures is)

pub returns-in-Parse-clause-config : goal.returns-in-Parse-clause-config
returns-in-Parse-clause-config g c is = absurd (parses_read _ _ _ _ _ c.parse.ensures is)

pub returns-in-Decode-clause-answered : goal.returns-in-Decode-clause-answered
returns-in-Decode-clause-answered g c = rw c.in-Decode.is (c.decode.ensures _)

pub returns-in-Decode-clause-at_once : goal.returns-in-Decode-clause-at_once
returns-in-Decode-clause-at_once g c at_once =
    absurd (ends_later (g.F.Files.content c.args.files.now) (Decode c.in-Decode.caps) _ _ _ _ _ (c.decode.ensures _)
    (λ names. names) at_once)

pub returns-in-Decode-clause-unread : goal.returns-in-Decode-clause-unread
returns-in-Decode-clause-unread g c is =
    absurd ((c.decode.ensures (g.F.Files.content c.args.files.now)).unread is)

pub returns-in-Decode-clause-config : goal.returns-in-Decode-clause-config
returns-in-Decode-clause-config g c is =
    absurd ((c.decode.ensures (g.F.Files.content c.args.files.now)).unread is)

pub returns-in-Help-clause-answered : goal.returns-in-Help-clause-answered
returns-in-Help-clause-answered g c =
    rw c.in-Help.is
    (text_written _ Help _ _ _ _ _ (read_none _) (read_none _) (refl, refl) c.write_text.ensures)

pub returns-in-Version-clause-answered : goal.returns-in-Version-clause-answered
returns-in-Version-clause-answered g c =
    rw c.in-Version.is
    (text_written _ Version _ _ _ _ _ (read_none _) (read_none _) (refl, refl) c.write_text-in-Version.ensures)

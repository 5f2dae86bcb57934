use Rattle.std.proofs.Common.{Err, arith, subst, sym}
use Rattle.config_reader.specs.declared.fault.ConfigError.{ConfigError}
use Rattle.health_core.specs.Files.{ReadsHealth}
use Rattle.health_core.proofs.FileLemmas.{read_ends, read_lacks}
use Rattle.health_core.proofs.SoundLemmas.{says_sound}
use Rattle.health_core.proofs.file.read_health.Goals as goal

pub returns-in-Some-clause-read : goal.returns-in-Some-clause-read
returns-in-Some-clause-read c =
    read_ends c.args.bytes.now c.new-words.result.end c.new-words.result.left c.statements_read.new.words.left
    c.in_ok-written.written c.in-Some.health c.new-words.ensures.left c.new-words.ensures.end
    (omega (arith, c.if-bytes-gt-MAX_FILE.false)) c.in_ok-written.ensures.read
    (sym c.in-Some.ensures)

pub returns-in-Some-clause-sound : goal.returns-in-Some-clause-sound
returns-in-Some-clause-sound c = says_sound c.args.bytes.now c.in-Some.health (returns-in-Some-clause-read c)

pub returns-in-None-clause-read : goal.returns-in-None-clause-read
returns-in-None-clause-read c =
    subst (λ (error : ConfigError). ReadsHealth c.args.bytes.now (Err error)) (sym c.refused-in-None.ensures)
    (read_lacks c.args.bytes.now c.new-words.result.end c.new-words.result.left c.statements_read.new.words.left
    c.in_ok-written.written c.new-words.ensures.left c.new-words.ensures.end
    (omega (arith, c.if-bytes-gt-MAX_FILE.false)) c.in_ok-written.ensures.read (sym c.in-None.ensures))

use Rattle.std.proofs.Common.{◌≡◌, ◌≤◌, Ok, length, arith}
use Rattle.std.proofs.lemmas.Result.{err_from_is_err_and}
use Rattle.config_reader.proofs.FileLemmas.{all_known, read_ends, read_stops, tokens_few}
use Rattle.config_reader.proofs.file.read_config.Goals as goal

pub sections_read-requires : goal.sections_read-requires
sections_read-requires c =
    tokens_few c.args.bytes.now c.new-words.result.left c.new-words.ensures.left
    (omega (arith, c.if-bytes-gt-MAX_FILE.false))

pub configured-requires : goal.configured-requires
configured-requires c =
    all_known c.args.slots c.new-words.result.end c.in_ok-read.read c.new-words.result.left
    c.sections_read.new.words.left c.in_ok-read.ensures.read

pub returns : goal.returns
returns c =
    read_ends c.args.bytes.now c.args.slots c.new-words.result.end c.new-words.result.left
    c.sections_read.new.words.left c.in_ok-read.read c.configured.result c.new-words.ensures.left
    c.new-words.ensures.end (omega (arith, c.if-bytes-gt-MAX_FILE.false)) c.in_ok-read.ensures.read
    c.configured.ensures

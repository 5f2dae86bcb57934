-- What stands below an adapter.
use Rattle.outside_std.specs.declared.reader.ReaderSource.{ReaderSource}
use Rattle.outside_std.specs.declared.writer.WriterSink.{WriterSink}
use Rattle.outside_std.specs.declared.pipes.ChildSource.{ChildSource}
use Rattle.outside_std.specs.declared.pipes.ChildSink.{ChildSink}
use Rattle.outside_std.specs.declared.link.StreamLink.{StreamLink}

module _ {R : Type 0} where
  -- the reader that a source reads
  abbrev pub reader_of : ReaderSource R → R
  reader_of s = s.reader

  -- the reader that a child's source reads
  abbrev pub child_reader_of : ChildSource R → R
  child_reader_of s = s.reader

module _ {W : Type 0} where
  -- the writer that a sink writes
  abbrev pub writer_of : WriterSink W → W
  writer_of s = s.writer

  -- the writer that a child's sink writes
  abbrev pub child_writer_of : ChildSink W → W
  child_writer_of s = s.writer

module _ {S : Type 0} where
  -- the stream that a link reads and writes
  abbrev pub stream_of : StreamLink S → S
  stream_of l = l.stream

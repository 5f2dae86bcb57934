-- What a source in memory puts into a buffer: bytes of its content from a place on, at the front.
use Rattle.std.proofs.Common.{ℕ, ◌≡◌, ◌+◌, ◌≤◌, List, ◌++◌, length, take, drop, sym, ap, ◌∙◌, arith}
use Rattle.std.proofs.Common.{length-drop, length-take, length-append}
use Rattle.std.proofs.lemmas.List.{take_all, take-append-le, take-append-drop, drop-drop}
use Rattle.std.proofs.Math.Seq.{take-add}
use Rattle.std.specs.declared.option.Option.{Option}
use Rattle.outside.specs.Calls.{Reads}
use Rattle.outside.specs.Receiving.{Receives}
use Rattle.outside.specs.declared.source.Read.{Read}
use Rattle.outside.specs.declared.source.Read.TheVariants as read
use Rattle.outside.specs.declared.link.Recv.{Recv}
use Rattle.outside.specs.declared.link.Recv.TheVariants as recv

-- the front of the buffer is what was copied
pub front_is :
    (content copied behind : List ℕ) (at count : ℕ) →
    copied ≡ take count (drop at content) → at + count ≤ length content →
    take count (copied ++ behind) ≡ take count (drop at content)
front_is content copied behind at count is within =
    let len : length copied ≡ count =
    omega (arith, ap length is, length-take count (drop at content), length-drop at content) in
    take-append-le count copied behind (omega arith) ∙ take_all count copied (omega arith) ∙ is

-- so many bytes stand in the buffer
pub front_fits :
    (content copied behind : List ℕ) (at count : ℕ) →
    copied ≡ take count (drop at content) → at + count ≤ length content →
    count ≤ length (copied ++ behind)
front_fits content copied behind at count is within =
    let rest = drop at content in
    omega (arith, length-append copied behind, ap length is, length-take count rest, length-drop at content)

-- what was given has grown by the front of the buffer
pub given_more :
    (content copied behind : List ℕ) (at count : ℕ) →
    copied ≡ take count (drop at content) → at + count ≤ length content →
    take (at + count) content ≡ take at content ++ take count (copied ++ behind)
given_more content copied behind at count is within =
    let front = front_is content copied behind at count is within in
    take-add at count content ∙ ap (λ piece. take at content ++ piece) (sym front)

-- what is left has lost the front of the buffer
pub left_less :
    (content copied behind : List ℕ) (at count : ℕ) →
    copied ≡ take count (drop at content) → at + count ≤ length content →
    drop at content ≡ take count (copied ++ behind) ++ drop (at + count) content
left_less content copied behind at count is within =
    let front = front_is content copied behind at count is within in
    rw (front, ← drop-drop count at content) (sym (take-append-drop count (drop at content)))

-- what a source puts at the front of a part of a buffer, it puts at the front of the buffer
pub reads_front :
    (old new : Option (List ℕ)) (front behind : List ℕ) (answer : Read) →
    Reads old new front answer → Reads old new (front ++ behind) answer
reads_front old new front behind (read.Got n) given = (
  given.0,
  omega (arith, length-append front behind, given.1),
  rw (take-append-le n front behind given.1) given.2,
)
reads_front old new front behind read.End given = given
reads_front old new front behind read.Failed given = given

-- and so does a link
pub receives_front :
    (old new : Option (List ℕ)) (front behind : List ℕ) (answer : Recv) →
    Receives old new front answer → Receives old new (front ++ behind) answer
receives_front old new front behind (recv.Got n) given = (
  given.0,
  omega (arith, length-append front behind, given.1),
  rw (take-append-le n front behind given.1) given.2,
)
receives_front old new front behind recv.End given = given
receives_front old new front behind recv.Quiet given = given
receives_front old new front behind recv.Failed given = given

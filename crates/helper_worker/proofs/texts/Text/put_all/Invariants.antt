use Rattle.std.proofs.Common.{◌≡◌, ◌≤◌, ◌*◌, take}
use Rattle.std.specs.List.{flat_map}
use Rattle.arrayvec.specs.ArrayVec.{array_vec_len}
use Rattle.ack_queue.specs.Texts.{reply_text}
use Rattle.helper_worker.proofs.texts.Text.put_all.Given as goal

-- the texts of the replies so far
abbrev pub invariant-replies : goal.invariant-replies
invariant-replies l = record {
  texts : l.self.bytes.items ≡ flat_map reply_text (take l.reply-index l.replies);
  room : array_vec_len l.self.bytes ≤ l.reply-index * 183;
}

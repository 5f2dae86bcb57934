use Rattle.std.proofs.Common.{◌≡◌, ◌++◌, take}
use Rattle.std.specs.List.{flat_map}
use Rattle.answer_texts.specs.Texts.{taken_text}
use Rattle.answer_texts.proofs.replies.put_taken.Given as goal

abbrev pub invariant-replies : goal.invariant-replies
invariant-replies l = l.text.items ≡ l.initial.text.items ++ flat_map taken_text (take l.reply-index l.replies)

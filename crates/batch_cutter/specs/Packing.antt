-- A message that is being packed.
use Rattle.std.specs.Prelude.{ℕ, ◌≡◌, ◌≤◌, List, [], ◌∷◌, ◌++◌, length}
use Rattle.route_values.specs.declared.key.Key.{Key}
use Rattle.route_values.specs.Caps.{Caps}
use Rattle.route_values.specs.Visible.{has_path}
use Rattle.update_grammar.specs.Head.{Head}
use Rattle.update_grammar.specs.Packed.{room}
use Rattle.update_grammar.specs.Prefixes.{keys_text}
use Rattle.update_grammar.specs.Written.{written}
use Rattle.attr_codec.specs.Buffer.{Buffer}
use Rattle.batch_cutter.specs.declared.kind.Kind.{Kind}
use Rattle.batch_cutter.specs.Heads.{kind_of, family_of_head, CanBegin, Fits}

-- what a contract sees of a packer: the session's capabilities, what the message is for, and how many bytes its
-- prefixes have so far
pub record Packing : Type 0 where
  pub caps : Caps
  pub kind : Kind
  pub filled : ℕ

-- the buffer is as the packer's last call left it, which has put these keys into a message with this head
pub record Holds (packer : Packing) (h : Head) (keys : List Key) (out : Buffer) : Type 0 where
  pub kind : packer.kind ≡ kind_of h
  pub filled : packer.filled ≡ length (keys_text (has_path packer.caps (family_of_head h)) keys)
  pub text : out.bytes ≡ written packer.caps h keys
  pub fits : Fits packer.caps h keys
  pub room : room packer.caps ≤ out.room
  pub begun : CanBegin h

-- the buffer is as the packer's last call left it
pub record IsOpen (packer : Packing) (out : Buffer) : Type 0 where
  pub head : Head
  pub keys : List Key
  pub holds : Holds packer head keys out

-- one more key was put into the message
pub record Adds (key : Key) (old new : Packing) (out_old out_new : Buffer) : Type 0 where
  pub holds : (h : Head) (keys : List Key) → Holds old h keys out_old → Holds new h (keys ++ key ∷ []) out_new
  pub caps : new.caps ≡ old.caps
  pub kind : new.kind ≡ old.kind

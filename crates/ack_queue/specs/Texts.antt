-- What a helper is told, as lines of text.
use Rattle.std.specs.Prelude.{ℕ, ◌==◌, Bool, true, false, if◌then◌else◌, List, [], ◌++◌, codes, decimal}
use Rattle.route_values.specs.declared.key.Key.{Key}
use Rattle.text_forms.specs.Printed.{addr_text, prefix_text}
use Rattle.ack_queue.specs.declared.reply.Reply.{Reply}
use Rattle.ack_queue.specs.declared.reply.Reply.TheVariants.{Done, Error, NoMemory, Route}
use Rattle.ack_queue.specs.declared.reply.Shown.{Shown}

-- a path identifier; none was written where it is 0
abbrev pub id_text : ℕ → List ℕ
id_text id = if id == 0 then [] else codes " path-information " ++ decimal id

-- a prefix and its path identifier
abbrev pub key_text : Key → List ℕ
key_text key = prefix_text key.prefix ++ id_text key.id

-- whose a route is: the configuration's, or a helper's
abbrev pub owner_text : Bool → List ℕ
owner_text true = codes " static"
owner_text false = codes " helper"

-- the line of a route
abbrev pub shown_text : Shown → List ℕ
shown_text shown =
    codes "neighbor " ++ addr_text shown.peer ++ codes " route " ++ key_text shown.key ++ codes " next-hop "
    ++ addr_text shown.hop ++ owner_text shown.fixed ++ codes "\n"

-- the line of a reply
abbrev pub reply_text : Reply → List ℕ
reply_text Done = codes "done\n"
reply_text Error = codes "error\n"
reply_text NoMemory = codes "error memory\n"
reply_text (Route shown) = shown_text shown

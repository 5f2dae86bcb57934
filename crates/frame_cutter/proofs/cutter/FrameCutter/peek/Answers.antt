use Rattle.std.proofs.Common.{◌≡◌, ◌∙◌}
use Rattle.frame_cutter.specs.Cutting.{front_of}
use Rattle.frame_cutter.specs.Told.{told}
use Rattle.frame_cutter.proofs.CutterLemmas.{told_sized, told_room}
use Rattle.frame_cutter.proofs.cutter.FrameCutter.peek.Goals as goal

pub returns-clause-sized : goal.returns-clause-sized
returns-clause-sized c =
    let exact : told c.front.result ≡ front_of c.args.self.now = c.front.ensures ∙ cc in
    told_sized c.args.self.now (told c.front.result) exact

pub returns-clause-room : goal.returns-clause-room
returns-clause-room c =
    let exact : told c.front.result ≡ front_of c.args.self.now = c.front.ensures ∙ cc in
    told_room c.args.self.now (told c.front.result) exact

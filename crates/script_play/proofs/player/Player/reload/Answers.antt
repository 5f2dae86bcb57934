use Rattle.std.proofs.Common.{◌≡◌, refl}
use Rattle.book_history.specs.Entries.Entry.{ReloadRefused}
use Rattle.book_history.specs.declared.outcomes.NotRead.TheVariants as not_read
use Rattle.script_play.specs.Reloading.{IsLoaded}
use Rattle.script_play.proofs.ReloadLemmas.{ends_of, loaded_is, memory_isnt_read, other_than_read, puts_no_text}
use Rattle.script_play.proofs.ReloadLemmas.{puts_reload, refused_is, unfound_is}
use Rattle.script_play.proofs.player.Player.reload.Goals as goal

pub returns-in_ok-load-in-Ok-clause-reloads : goal.returns-in_ok-load-in-Ok-clause-reloads
returns-in_ok-load-in-Ok-clause-reloads g c =
    puts_reload (g.F.Files.content c.args.files.now) c.args.path.now c.args.self.now c.load.new.self
    (g.F.Files.faults c.args.files.now) (g.F.Files.faults c.configured.new.files) (IsLoaded c.in-Ok.config)
    (loaded_is (g.F.Files.content c.args.files.now) c.args.path.now _ c.in-Ok.config (refl, refl)
    c.in-Ok.ensures.config) (c.in-Ok.ensures.same (λ is. cc)) tt c.in_ok-load-in-Ok.ensures

pub returns-in_err-load-in-Ok-clause-reloads : goal.returns-in_err-load-in-Ok-clause-reloads
returns-in_err-load-in-Ok-clause-reloads g c =
    puts_no_text (g.F.Files.content c.args.files.now) c.args.path.now c.args.self.now c.load.new.self
    (g.F.Files.faults c.args.files.now) (g.F.Files.faults c.configured.new.files) (IsLoaded c.in-Ok.config)
    (loaded_is (g.F.Files.content c.args.files.now) c.args.path.now _ c.in-Ok.config (refl, refl)
    c.in-Ok.ensures.config) (c.in-Ok.ensures.same (λ is. cc)) c.in_err-load-in-Ok.field-0.0 c.from_residual.result
    c.from_residual.ensures.1 c.in_err-load-in-Ok.ensures

pub returns-in_ok-refuse-in-Err-ConfigRefused-clause-reloads :
    goal.returns-in_ok-refuse-in-Err-ConfigRefused-clause-reloads
returns-in_ok-refuse-in-Err-ConfigRefused-clause-reloads g c =
    puts_reload (g.F.Files.content c.args.files.now) c.args.path.now c.args.self.now c.refuse.new.self
    (g.F.Files.faults c.args.files.now) (g.F.Files.faults c.configured.new.files)
    (λ entry. entry ≡ ReloadRefused (not_read.Refused c.in-Err-ConfigRefused.fault))
    (refused_is (g.F.Files.content c.args.files.now) c.args.path.now _ c.in-Err-ConfigRefused.fault
    c.in-Err-ConfigRefused.field-0 (refl, refl) c.in-Err-ConfigRefused.field-0-is c.in-Err-ConfigRefused.ensures.unread)
    (c.in-Err-ConfigRefused.ensures.same
    (λ is. other_than_read _ c.in-Err-ConfigRefused.fault c.in-Err-ConfigRefused.field-0-is (ends_of _ _ _ refl is)))
    tt c.in_ok-refuse-in-Err-ConfigRefused.ensures

pub returns-in_err-refuse-in-Err-ConfigRefused-clause-reloads :
    goal.returns-in_err-refuse-in-Err-ConfigRefused-clause-reloads
returns-in_err-refuse-in-Err-ConfigRefused-clause-reloads g c =
    puts_no_text (g.F.Files.content c.args.files.now) c.args.path.now c.args.self.now c.refuse.new.self
    (g.F.Files.faults c.args.files.now) (g.F.Files.faults c.configured.new.files)
    (λ entry. entry ≡ ReloadRefused (not_read.Refused c.in-Err-ConfigRefused.fault))
    (refused_is (g.F.Files.content c.args.files.now) c.args.path.now _ c.in-Err-ConfigRefused.fault
    c.in-Err-ConfigRefused.field-0 (refl, refl) c.in-Err-ConfigRefused.field-0-is c.in-Err-ConfigRefused.ensures.unread)
    (c.in-Err-ConfigRefused.ensures.same
    (λ is. other_than_read _ c.in-Err-ConfigRefused.fault c.in-Err-ConfigRefused.field-0-is (ends_of _ _ _ refl is)))
    c.in_err-refuse-in-Err-ConfigRefused.field-0.0 c.from_residual-in_err-refuse-in-Err-ConfigRefused.result
    c.from_residual-in_err-refuse-in-Err-ConfigRefused.ensures.1 c.in_err-refuse-in-Err-ConfigRefused.ensures

pub returns-in_ok-refuse-in-Err-NoMemory-clause-reloads : goal.returns-in_ok-refuse-in-Err-NoMemory-clause-reloads
returns-in_ok-refuse-in-Err-NoMemory-clause-reloads g c =
    puts_reload (g.F.Files.content c.args.files.now) c.args.path.now c.args.self.now c.refuse-in-Err-NoMemory.new.self
    (g.F.Files.faults c.args.files.now) (g.F.Files.faults c.configured.new.files)
    (λ entry. entry ≡ ReloadRefused not_read.NoMemory)
    (unfound_is (g.F.Files.content c.args.files.now) c.args.path.now)
    (c.in-Err-NoMemory.ensures.same (λ is. memory_isnt_read _ c.in-Err-NoMemory.field-0-is (ends_of _ _ _ refl is)))
    tt c.in_ok-refuse-in-Err-NoMemory.ensures

pub returns-in_err-refuse-in-Err-NoMemory-clause-reloads : goal.returns-in_err-refuse-in-Err-NoMemory-clause-reloads
returns-in_err-refuse-in-Err-NoMemory-clause-reloads g c =
    puts_no_text (g.F.Files.content c.args.files.now) c.args.path.now c.args.self.now
    c.refuse-in-Err-NoMemory.new.self (g.F.Files.faults c.args.files.now) (g.F.Files.faults c.configured.new.files)
    (λ entry. entry ≡ ReloadRefused not_read.NoMemory)
    (unfound_is (g.F.Files.content c.args.files.now) c.args.path.now)
    (c.in-Err-NoMemory.ensures.same (λ is. memory_isnt_read _ c.in-Err-NoMemory.field-0-is (ends_of _ _ _ refl is)))
    c.in_err-refuse-in-Err-NoMemory.field-0.0 c.from_residual-in_err-refuse-in-Err-NoMemory.result
    c.from_residual-in_err-refuse-in-Err-NoMemory.ensures.1 c.in_err-refuse-in-Err-NoMemory.ensures

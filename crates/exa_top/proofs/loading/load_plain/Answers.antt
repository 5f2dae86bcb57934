use Rattle.exa_top.proofs.LoadedLemmas.{loaded, unloaded}
use Rattle.exa_top.specs.Loaded.{load_config}
use Rattle.exa_top.proofs.loading.load_plain.Goals as goal

pub returns-in_default : goal.returns-in_default
returns-in_default g c content source = unloaded content c.args.count source _

pub returns : goal.returns
returns g c content source =
    loaded c.loads_leave_counted.ensures content c.args.count source _ _ _ c.load.result
    (c.load.ensures load_config c.in-Ok.ensures)

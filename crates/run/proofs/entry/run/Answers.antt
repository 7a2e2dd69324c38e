use Rattle.run.specs.Same.Entry.{run_is_walked}
use Rattle.run.proofs.entry.run.Goals as goal

pub returns : goal.returns
returns c = run_is_walked _ _ _ _ _ _ _ _ c.play_run.ensures

-- A text that was cut off is one of a run that is over.
use Rattle.std.proofs.Common.{rules}
use Rattle.afr_cli.proofs.EndLemmas.{short_live, unless_err}
use Rattle.afr_live.specs.Ending.{EndsInAnyOrder}
use Rattle.afr_model.specs.Complete.{IsComplete}
use Rattle.afr_cli.proofs.live.run_live.Goals as goal

pub returns-clause-write : goal.returns-clause-write
returns-clause-write g c =
    let complete : IsComplete c.run_lent.new.volume.plan c.run_lent.new.volume.log = search rules in
    λ e. let cut = c.tell_live.ensures.write e in (cut.0, cut.1, complete, cut.2)

pub returns-clause-short : goal.returns-clause-short
returns-clause-short g c =
    let ends : EndsInAnyOrder c.run_lent.new.volume.plan c.run_lent.new.volume.log = unless_err c.run_lent.result _ (search rules) c.run_lent.ensures.ends in
    λ e. short_live c.run_lent.new.volume.plan c.run_lent.new.volume.log ends (c.tell_live.ensures.unfinished e).2

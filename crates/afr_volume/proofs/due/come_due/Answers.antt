use Rattle.afr_volume.specs.Going.{Still}
use Rattle.afr_volume.proofs.GoingLemmas.{goes_nowhere, takes_none}
use Rattle.afr_volume.proofs.due.come_due.Goals as goal

pub returns-clause-goes : goal.returns-clause-goes
returns-clause-goes c = goes_nowhere c.args.volume.now

pub returns-clause-taken : goal.returns-clause-taken
returns-clause-taken c = takes_none c.args.volume.now.plan c.args.volume.now.log

pub returns-clause-happens : goal.returns-clause-happens
returns-clause-happens c = Still

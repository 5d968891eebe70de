use Rattle.std.proofs.Common.{◌≤◌, arith}
use Rattle.afr_volume.proofs.GoingLemmas.{goes_nowhere}
use Rattle.afr_volume.specs.Going.{AtFirst}
use Rattle.afr_order.proofs.rows.client_order.Goals as goal

pub returns-then-go-gt-MOST_CLIENTS-clause-goes : goal.returns-then-go-gt-MOST_CLIENTS-clause-goes
returns-then-go-gt-MOST_CLIENTS-clause-goes g c = goes_nowhere c.args.volume.now

pub returns-then-go-gt-MOST_CLIENTS-clause-runs : goal.returns-then-go-gt-MOST_CLIENTS-clause-runs
returns-then-go-gt-MOST_CLIENTS-clause-runs g c = AtFirst

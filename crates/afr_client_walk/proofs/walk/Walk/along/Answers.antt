use Rattle.afr_client_walk.proofs.WalkLemmas.{is_walk_from}
use Rattle.afr_client_walk.proofs.walk.Walk.along.Goals as goal

pub returns-clause-kept : goal.returns-clause-kept
returns-clause-kept c = rw (c.put_step.ensures, c.len.ensures, c.fresh.ensures.value, c.root-root.ensures) (is_walk_from c.args.shape c.args.names c.requires.few c.requires.some)

-- A text that was cut off is one of a run that is over.
use Rattle.std.proofs.Common.{Ok, ap, inl}
use Rattle.afr_cli.proofs.replaying.replay_image.Goals as goal

pub returns-in-Ok-Same-clause-write : goal.returns-in-Ok-Same-clause-write
returns-in-Ok-Same-clause-write g c = λ e. let cut = c.tell.ensures.write e in (cut.0, inl (cut.1, c.in-Ok-Same.ensures.complete (ap Ok c.in-Ok-Same.field-0-is), cut.2))

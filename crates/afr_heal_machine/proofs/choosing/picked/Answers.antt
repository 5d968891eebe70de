use Rattle.afr_heal_machine.proofs.ChoiceLemmas.{some_listed}
use Rattle.afr_heal_machine.proofs.choosing.picked.Goals as goal

pub pick-requires-clause-some : goal.pick-requires-clause-some
pick-requires-clause-some g c = rw (c.as_slice.ensures, c.choices-copies.ensures) (some_listed c.args.register.now c.args.kind c.requires.few c.requires.source)

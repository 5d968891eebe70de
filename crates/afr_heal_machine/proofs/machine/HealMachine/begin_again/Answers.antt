-- A heal that begins is one, wherever it stands.
use Rattle.afr_heal_machine.proofs.machine.HealMachine.begin_again.Goals as goal

pub invariant_of-self : goal.invariant_of-self
invariant_of-self c = rw (c.renew.ensures, c.nothing.ensures) (c.a_heal_stays_sound.ensures.begins c.self.inside.register.shape c.args.gfid c.args.kind (rw (← c.self.view_is) at c.requires.some) (rw (← c.self.view_is) at c.requires.few))

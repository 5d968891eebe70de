use Rattle.std.proofs.Common.{arith, refl}
use Rattle.afr_base.specs.Bricks.{below}
use Rattle.afr_base.specs.SetLemmas.{below_all}
use Rattle.afr_discipline.proofs.LeftLemmas.{left_in_step}
use Rattle.afr_discipline.proofs.heal_sets.left_in.Goals as goal
use Rattle.afr_discipline.specs.declared.register.Step.TheVariants as step

pub returns-in-HealLocks : goal.returns-in-HealLocks
returns-in-HealLocks c = rw (c.minus.ensures, c.asked_at.ensures, c.all.ensures) (left_in_step c.args.register.now c.args.s.0 c.args.step step.HealLocks c.in-HealLocks.is (below 5) (λ x few. below_all 5 x (omega arith) few))

pub returns-in-WorkLocks : goal.returns-in-WorkLocks
returns-in-WorkLocks c = rw (c.minus-in-WorkLocks.ensures, c.asked_at-in-WorkLocks.ensures) (left_in_step c.args.register.now c.args.s.0 c.args.step step.WorkLocks c.in-WorkLocks.is c.locked.result c.locked.ensures)

pub returns-in-Looks : goal.returns-in-Looks
returns-in-Looks c = rw (c.minus-in-Looks.ensures, c.asked_at-in-Looks.ensures) (left_in_step c.args.register.now c.args.s.0 c.args.step step.Looks c.in-Looks.is c.looked_at.result c.looked_at.ensures)

pub returns-in-Unlocks : goal.returns-in-Unlocks
returns-in-Unlocks c = rw (c.minus-in-Unlocks.ensures, c.asked_at-in-Unlocks.ensures) (left_in_step c.args.register.now c.args.s.0 c.args.step step.Unlocks c.in-Unlocks.is c.args.register.now.held (λ x few. refl))

pub returns-in-HealUnlocks : goal.returns-in-HealUnlocks
returns-in-HealUnlocks c = rw (c.minus-in-HealUnlocks.ensures, c.asked_at-in-HealUnlocks.ensures) (left_in_step c.args.register.now c.args.s.0 c.args.step step.HealUnlocks c.in-HealUnlocks.is c.args.register.now.healing (λ x few. refl))

pub returns-in-Reads : goal.returns-in-Reads
returns-in-Reads c = rw (c.minus-in-Reads.ensures, c.asked_at-in-Reads.ensures) (left_in_step c.args.register.now c.args.s.0 c.args.step step.Reads c.in-Reads.is c.read.result c.read.ensures)

pub returns-in-HealPres : goal.returns-in-HealPres
returns-in-HealPres c = rw (c.minus-in-HealPres.ensures, c.asked_at-in-HealPres.ensures) (left_in_step c.args.register.now c.args.s.0 c.args.step step.HealPres c.in-HealPres.is c.raised_first.result c.raised_first.ensures)

pub returns-in-Mends : goal.returns-in-Mends
returns-in-Mends c = rw (c.minus-in-Mends.ensures, c.asked_at-in-Mends.ensures) (left_in_step c.args.register.now c.args.s.0 c.args.step step.Mends c.in-Mends.is c.mended.result c.mended.ensures)

pub returns-in-Settles : goal.returns-in-Settles
returns-in-Settles c = rw (c.minus-in-Settles.ensures, c.asked_at-in-Settles.ensures) (left_in_step c.args.register.now c.args.s.0 c.args.step step.Settles c.in-Settles.is c.settled.result c.settled.ensures)

use Rattle.std.proofs.Common.{ap, subst}
use Rattle.afr_base.specs.declared.ids.Shape.{Shape}
use Rattle.afr_discipline.specs.Free.{IsFree}
use Rattle.afr_discipline.specs.declared.register.Register.{Register}
use Rattle.afr_discipline.proofs.FreeLemmas.{free_here, shape_is}
use Rattle.afr_client_walk.proofs.walk.Walk.note.Goals as goal

pub note_free-requires : goal.note_free-requires
note_free-requires c = free_here c.args.self.now.shape c.args.self.now.register c.requires.free

pub returns : goal.returns
returns c = record {
  value = λ asked told at h. ap (λ (r : Register). record c.args.self.now { register = r }) (c.note_free.ensures.value at asked.0.0 asked.1 told h);
  kept = record {
    few = c.requires.few;
    some = c.requires.some;
    within = c.requires.within;
    step = c.requires.step;
    free = subst (λ (s : Shape). IsFree s c.note_free.new.register) (shape_is c.args.self.now.shape c.args.self.now.register c.requires.free) c.note_free.ensures.kept;
  };
}

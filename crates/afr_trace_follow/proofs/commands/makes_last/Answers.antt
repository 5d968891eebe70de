use Rattle.std.proofs.Common.{refl}
use Rattle.afr_base.specs.declared.ids.NameId.{NameId}
use Rattle.afr_model.specs.Commands.{last_of}
use Rattle.afr_object.specs.declared.change.Change.TheVariants.{Make}
use Rattle.afr_trace_follow.proofs.ChangeLemmas.{last_none, last_some}
use Rattle.afr_trace_follow.proofs.KeepingLemmas.{as_well, never}
use Rattle.afr_trace_follow.proofs.commands.makes_last.Goals as goal

pub returns-in-Some : goal.returns-in-Some
returns-in-Some c =
    as_well c.is_make.result _ _ (last_some (λ (name : NameId). Make c.args.dir name c.args.made c.args.what) (last_of c.args.path.now) c.in-Some.name c.args.change.now c.in-Some.ensures) c.is_make.ensures

pub returns-in-None : goal.returns-in-None
returns-in-None c = never _ _ refl (last_none (λ (name : NameId). Make c.args.dir name c.args.made c.args.what) (last_of c.args.path.now) c.args.change.now c.in-None.ensures)

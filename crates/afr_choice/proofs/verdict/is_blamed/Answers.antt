use Rattle.std.proofs.Common.{sym, ◌∙◌, arith}
use Rattle.afr_choice.specs.Verdict.{accuses_at}
use Rattle.afr_base.proofs.OfFive.{some_passes}
use Rattle.afr_choice.proofs.verdict.is_blamed.Goals as goal

pub returns-then-blames : goal.returns-then-blames
returns-then-blames c =
    sym (some_passes (λ x. accuses_at c.args.kind x c.args.c.0 c.args.looked.now) c.loop-x.x (omega arith) (sym c.blames.ensures ∙ c.if-blames.true))

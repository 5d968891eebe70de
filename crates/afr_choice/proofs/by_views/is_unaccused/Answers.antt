use Rattle.std.proofs.Common.{◌∙◌, ap, not, sym}
use Rattle.afr_choice.proofs.Agreement.{one_is_missing}
use Rattle.afr_choice.specs.Looks.{views_of}
use Rattle.afr_model_moves.specs.Register.{accuses}
use Rattle.afr_choice.proofs.by_views.is_unaccused.Goals as goal

pub returns-then-accuses_at : goal.returns-then-accuses_at
returns-then-accuses_at c =
    sym (one_is_missing c.args.n (λ x. not (accuses c.args.kind (views_of c.args.looked.now x) c.args.s.0)) c.loop-x.x c.loop-x-test.true (ap not (sym c.accuses_at.ensures ∙ c.if-accuses_at.true)))

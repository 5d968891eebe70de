use Rattle.std.proofs.Common.{◌≡◌, ◌∙◌, sym, ap}
use Rattle.afr_base.specs.declared.ids.BrickId.{BrickId}
use Rattle.afr_base.specs.declared.ids.Kind.TheVariants.{Names}
use Rattle.afr_choice.specs.Verdict.{verdict_of}
use Rattle.afr_client_walk.specs.Choosing.{reader_of}
use Rattle.afr_client_walk.specs.Walk.{verdict_step}
use Rattle.afr_client_walk.specs.declared.looks.Looks.{Looks}
use Rattle.afr_client_walk.proofs.WalkLemmas.{over_judged}
use Rattle.afr_client_walk.proofs.walk.look_over.Goals as goal

pub returns-in-Looking-clause-step : goal.returns-in-Looking-clause-step
returns-in-Looking-clause-step g c = λ looks e.
    let same : c.in-Looking.looks ≡ looks = cc in
    c.put_judged.ensures looks (sym c.in-Looking.is ∙ e)
    ∙ ap (λ (chosen : BrickId). verdict_step chosen c.judged_by-verdict.result.0 looks.looked.views) c.reader_of.ensures
    ∙ over_judged (reader_of c.judged_by-verdict.result.1) c.args.shape looks c.judged_by-verdict.result.0 (c.requires.over looks e)
    (c.judged_by-verdict.ensures.verdict ∙ ap (λ (s : Looks). verdict_of c.args.shape s.looked Names) same)

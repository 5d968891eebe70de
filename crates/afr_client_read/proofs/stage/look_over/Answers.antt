use Rattle.std.proofs.Common.{◌≡◌, ◌∙◌, sym, ap, subst}
use Rattle.afr_base.specs.declared.ids.BrickId.{BrickId}
use Rattle.afr_base.specs.declared.ids.Kind.{Kind}
use Rattle.afr_choice.specs.Verdict.{verdict_of}
use Rattle.afr_client_walk.specs.Choosing.{RuleAnswers, choices_after, reader_of}
use Rattle.afr_client_walk.specs.declared.looks.Looks.{Looks}
use Rattle.afr_client_read.specs.Job.{kind_of}
use Rattle.afr_client_read.specs.Lookup.{object_judged}
use Rattle.afr_client_read.proofs.LookupLemmas.{over_judged}
use Rattle.afr_client_read.proofs.stage.look_over.Goals as goal

pub returns-in-Looking-clause-picked : goal.returns-in-Looking-clause-picked
returns-in-Looking-clause-picked g c = λ looks e.
    let same : c.in-Looking.looks ≡ looks = cc in
    subst (λ (s : Looks). RuleAnswers g.G.Fn c.args.rule.now (choices_after c.args.walk.now.shape (kind_of c.args.job c.args.walk.now.object.what) s) c.judged_by-verdict.result.1) same
    (subst (λ (kind : Kind). RuleAnswers g.G.Fn c.args.rule.now (choices_after c.args.walk.now.shape kind c.in-Looking.looks) c.judged_by-verdict.result.1) c.kind_of-kind.ensures c.judged_by-verdict.ensures.picked)

pub returns-in-Looking-clause-stage : goal.returns-in-Looking-clause-stage
returns-in-Looking-clause-stage g c = λ looks e.
    let same : c.in-Looking.looks ≡ looks = cc in
    c.put_judged.ensures looks (sym c.in-Looking.is ∙ e)
    ∙ ap (λ (chosen : BrickId). object_judged chosen c.args.job c.args.walk.now.object c.judged_by-verdict.result.0 looks.looked) c.reader_of.ensures
    ∙ over_judged (reader_of c.judged_by-verdict.result.1) c.args.walk.now.shape c.args.job c.args.walk.now.object looks c.judged_by-verdict.result.0 (c.requires.over looks e)
    (c.judged_by-verdict.ensures.verdict ∙ ap (λ (kind : Kind). verdict_of c.args.walk.now.shape c.in-Looking.looks.looked kind) c.kind_of-kind.ensures
    ∙ ap (λ (s : Looks). verdict_of c.args.walk.now.shape s.looked (kind_of c.args.job c.args.walk.now.object.what)) same)

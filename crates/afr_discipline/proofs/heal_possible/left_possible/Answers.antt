-- All that might be the source still may, where one of them allows the request and all are alike or one is left.
use Rattle.std.proofs.Common.{◌∙◌, sym}
use Rattle.afr_discipline.proofs.AllowedLemmas.{alike_left, one_left}
use Rattle.afr_discipline.proofs.heal_possible.left_possible.Goals as goal

pub returns-then-is_alike : goal.returns-then-is_alike
returns-then-is_alike c =
    c.all_possible.ensures ∙ alike_left c.args.register.now c.args.b.0 c.args.request.now (c.is_alike.ensures c.if-is_alike.true) (c.requires.allowed c.requires.inside c.if-register.false)

pub returns-then-count-eq1 : goal.returns-then-count-eq1
returns-then-count-eq1 c =
    c.all_possible-then-count-eq1.ensures ∙ one_left c.args.register.now c.args.b.0 c.args.request.now c.requires.few (sym c.count.ensures.tests ∙ c.if-count-eq1.true) (c.requires.allowed c.requires.inside c.if-register.false)

use Rattle.std.proofs.Common.{◌∙◌, sym}
use Rattle.afr_trace_check.proofs.ToldLemmas.{there_told, absent_told}
use Rattle.afr_trace_check.proofs.told.if_there.Goals as goal

pub returns-then-has_object : goal.returns-then-has_object
returns-then-has_object c = λ f h. there_told f c.args.told _ h (sym c.has_object.ensures ∙ c.if-has_object.true)

pub returns-else-has_object : goal.returns-else-has_object
returns-else-has_object c = λ f h. absent_told f _ (sym c.has_object.ensures ∙ c.if-has_object.false)

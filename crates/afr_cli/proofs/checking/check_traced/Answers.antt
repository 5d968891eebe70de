-- What was found, or that the check is past its limit, told to its end or cut off.
use Rattle.std.proofs.Common.{◌∙◌, ap, drop}
use Rattle.afr_cli.proofs.CheckLemmas.{has_few_actors, has_status, not_five, stops_at_limit, stops_found, tells_found, tells_limit, within}
use Rattle.afr_law_runnable.proofs.SpelledLemmas.{few_bricks}
use Rattle.afr_cli.proofs.checking.check_traced.Goals as goal

pub check-requires-clause-shape : goal.check-requires-clause-shape
check-requires-clause-shape g c = few_bricks _ c.requires.runnable

pub check-requires-clause-actors : goal.check-requires-clause-actors
check-requires-clause-actors g c = has_few_actors _ c.requires.runnable

pub returns-in-Ok-clause-told : goal.returns-in-Ok-clause-told
returns-in-Ok-clause-told g c = λ ended.
    let back = c.split_at.ensures.back ∙ ap (drop c.args.traced.now.plan_len) c.deref.ensures.value in
    let status = rw c.in-Ok.found-is at (has_status _ _ ended c.tell_finding.ensures.few) in
    tells_found _ _ _ _ c.in-Ok.found (λ past. within _ _ (c.in-Ok.ensures.limit.1 (rw back past))) (rw back at c.in-Ok.ensures.ok) _ status (rw c.in-Ok.found-is at (c.tell_finding.ensures.told (has_status _ _ ended c.tell_finding.ensures.few)))

pub returns-in-Ok-clause-write : goal.returns-in-Ok-clause-write
returns-in-Ok-clause-write g c = λ five.
    let back = c.split_at.ensures.back ∙ ap (drop c.args.traced.now.plan_len) c.deref.ensures.value in
    let cut = rw c.in-Ok.found-is at (c.tell_finding.ensures.write five) in
    (cut.0, stops_found _ _ _ _ c.in-Ok.found (λ past. within _ _ (c.in-Ok.ensures.limit.1 (rw back past))) (rw back at c.in-Ok.ensures.ok) cut.1)

pub returns-in-Err-Limit-clause-told : goal.returns-in-Err-Limit-clause-told
returns-in-Err-Limit-clause-told g c = λ ended.
    let back = c.split_at.ensures.back ∙ ap (drop c.args.traced.now.plan_len) c.deref.ensures.value in
    let told = c.answer.ensures.whole (not_five _ ended) in
    tells_limit _ _ _ _ (rw back at (c.in-Err-Limit.ensures.limit.0 cc)) _ told.0 told.1

pub returns-in-Err-Limit-clause-write : goal.returns-in-Err-Limit-clause-write
returns-in-Err-Limit-clause-write g c = λ five.
    let back = c.split_at.ensures.back ∙ ap (drop c.args.traced.now.plan_len) c.deref.ensures.value in
    let cut = c.answer.ensures.fault five in
    (cut.0, stops_at_limit _ _ _ _ (rw back at (c.in-Err-Limit.ensures.limit.0 cc)) cut.1)

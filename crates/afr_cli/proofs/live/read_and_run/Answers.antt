-- The plan is printed in few bytes; what was run is the plan that is spelled; a refusal and a text that were cut off.
use Rattle.std.proofs.Common.{inl, inr, refl}
use Rattle.afr_cli.proofs.LiveLemmas.{live_stops_at_refusal, printed_few}
use Rattle.afr_cli.proofs.RunLemmas.{few_all, own_run, refuses_crawl, spelled_run, stops_asked}
use Rattle.afr_cli.proofs.StatusLemmas.{refused, run_is_spelled}
use Rattle.afr_cli.proofs.live.read_and_run.Goals as goal

pub run_asked-requires-clause-printed : goal.run_asked-requires-clause-printed
run_asked-requires-clause-printed g c = λ κs within. printed_few _ _ _ c.in-Ok.ensures.ok c.a_printed_plan_is_read_again.ensures.short

pub returns-in-Ok-clause-ok : goal.returns-in-Ok-clause-ok
returns-in-Ok-clause-ok g c = λ e. let ran = c.run_asked.ensures.ok e in
    (run_is_spelled _ _ _ c.in-Ok.ensures.ok _ ran.0.plan_is, c.run_asked.ensures.text (inl e), own_run _ _ _ ran.0, ran.1)

pub returns-in-Ok-clause-unfinished : goal.returns-in-Ok-clause-unfinished
returns-in-Ok-clause-unfinished g c = λ e. let ran = c.run_asked.ensures.unfinished e in
    (run_is_spelled _ _ _ c.in-Ok.ensures.ok _ ran.0.plan_is, c.run_asked.ensures.text (inr e), own_run _ _ _ ran.0, ran.1, ran.2)

pub returns-in-Ok-clause-healers : goal.returns-in-Ok-clause-healers
returns-in-Ok-clause-healers g c = λ e. let told = c.run_asked.ensures.refused e in
    (λ words asked. refuses_crawl words _ _ _ _ _ _ asked told.0 c.in-Ok.ensures.ok told.1 told.2, told.3)

pub returns-in-Ok-clause-write : goal.returns-in-Ok-clause-write
returns-in-Ok-clause-write g c = λ e. let cut = c.run_asked.ensures.write e in (
  cut.0,
  λ words asked. stops_asked words _ _ _ _ _ _ asked c.in-Ok.ensures.ok _ _ cut.1,
)

pub returns-in-Ok-clause-plan : goal.returns-in-Ok-clause-plan
returns-in-Ok-clause-plan g c = spelled_run _ _ _ _ _ c.in-Ok.ensures.ok c.run_asked.ensures.none

pub returns-in-Ok-clause-few : goal.returns-in-Ok-clause-few
returns-in-Ok-clause-few g c = few_all _ c.run_asked.ensures.few

pub returns-in-Err-Refused-clause-refused : goal.returns-in-Err-Refused-clause-refused
returns-in-Err-Refused-clause-refused g c = λ e. let told = rw c.in-Err-Refused.fault-is at (c.refuse.ensures.refused e) in (refused _ _ c.in-Err-Refused.fault _ _ (c.in-Err-Refused.ensures.refused c.in-Err-Refused.fault cc) told, c.requires.fresh)

pub returns-in-Err-Refused-clause-write : goal.returns-in-Err-Refused-clause-write
returns-in-Err-Refused-clause-write g c = λ e. let cut = rw c.in-Err-Refused.fault-is at (c.refuse.ensures.write e) in (
  cut.0,
  λ words asked. live_stops_at_refusal words _ _ _ _ _ _ (c.args.form, asked) c.in-Err-Refused.fault (c.in-Err-Refused.ensures.refused c.in-Err-Refused.fault cc) c.requires.fresh cut.1,
)

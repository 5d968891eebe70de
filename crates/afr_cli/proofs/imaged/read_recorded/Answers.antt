-- An image, whose plan can be run, and why there is none.
use Rattle.std.proofs.Common.{◌≡◌}
use Rattle.afr_image.specs.Frame.{refusal}
use Rattle.afr_cli.proofs.ReplayLemmas.{is_faulty_image, is_given, is_long_image}
use Rattle.afr_cli.proofs.imaged.read_recorded.Goals as goal

pub returns-in-Ok-read_image_for-clause-ok : goal.returns-in-Ok-read_image_for-clause-ok
returns-in-Ok-read_image_for-clause-ok g c =
    is_given _ _ _ _ _ _ c.deref.ensures.value c.in-Ok.ensures.ok c.in-Ok.ensures.end c.in-Ok.ensures.len c.in-Ok-read_image_for.ensures.read

pub returns-in-Ok-read_image_for-clause-runnable : goal.returns-in-Ok-read_image_for-clause-runnable
returns-in-Ok-read_image_for-clause-runnable g c = c.every_spelled_plan_runs.ensures.runs _ _ c.in-Ok-read_image_for.ensures.read.image.plan

pub returns-in-Err-TooLong-clause-refused : goal.returns-in-Err-TooLong-clause-refused
returns-in-Err-TooLong-clause-refused g c = λ fault e. (let f : fault ≡ refusal 0 0 = cc in is_long_image _ _ _ fault (c.in-Err-TooLong.ensures.long cc) f)

pub returns-in-Err-Refused-clause-refused : goal.returns-in-Err-Refused-clause-refused
returns-in-Err-Refused-clause-refused g c = λ fault e.
    is_faulty_image _ _ _ _ _ fault c.deref.ensures.value c.in-Ok.ensures.ok c.in-Ok.ensures.end c.in-Ok.ensures.len (c.in-Err-Refused.ensures.refused fault cc)

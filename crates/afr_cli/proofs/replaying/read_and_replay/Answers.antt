-- What a replay made of the image that was read, and why it made nothing.
use Rattle.afr_cli.proofs.ReplayLemmas.{departs, has_room, image_plan_or_none, not_ended, repeats, stops_at_image_refusal, stops_at_replay}
use Rattle.afr_cli.proofs.replaying.read_and_replay.Goals as goal

pub replay_image-requires-clause-room : goal.replay_image-requires-clause-room
replay_image-requires-clause-room g c = has_room _ _ _ _ c.in-Ok.ensures.ok

pub returns-in-Ok-clause-plan : goal.returns-in-Ok-clause-plan
returns-in-Ok-clause-plan g c = image_plan_or_none _ _ _ _ c.in-Ok.ensures.ok _ c.replay_image.ensures.plan

pub returns-in-Ok-clause-repeats : goal.returns-in-Ok-clause-repeats
returns-in-Ok-clause-repeats g c = λ ended. let made = c.replay_image.ensures.repeats ended in
    repeats _ _ _ _ c.in-Ok.ensures.ok _ (c.replay_image.ensures.ran (λ six. not_ended _ six ended)) made.0 made.1

pub returns-in-Ok-clause-differs : goal.returns-in-Ok-clause-differs
returns-in-Ok-clause-differs g c = λ ten. let (line, differs, text) = c.replay_image.ensures.differs ten in
    record { line = line; cause = departs _ _ _ _ c.in-Ok.ensures.ok _ (c.replay_image.ensures.ran (λ six. cc)) line differs; text = text }

pub returns-in-Ok-clause-write : goal.returns-in-Ok-clause-write
returns-in-Ok-clause-write g c = λ five. let cut = c.replay_image.ensures.write five in
    (cut.0, λ words asked. stops_at_replay words _ _ _ _ _ _ _ asked _ c.in-Ok.ensures.ok (c.replay_image.ensures.ran (λ six. cc)) cut.1)

pub returns-in-Err-Refused-clause-refused : goal.returns-in-Err-Refused-clause-refused
returns-in-Err-Refused-clause-refused g c = λ nine. let told = rw c.in-Err-Refused.fault-is at (c.refuse_image.ensures.refused nine) in
    (record { fault = c.in-Err-Refused.fault; cause = c.in-Err-Refused.ensures.refused c.in-Err-Refused.fault cc; line = told }, c.requires.fresh)

pub returns-in-Err-Refused-clause-write : goal.returns-in-Err-Refused-clause-write
returns-in-Err-Refused-clause-write g c = λ five. let cut = rw c.in-Err-Refused.fault-is at (c.refuse_image.ensures.write five) in
    (cut.0, λ words asked. stops_at_image_refusal words _ _ _ _ _ _ _ asked c.in-Err-Refused.fault (c.in-Err-Refused.ensures.refused c.in-Err-Refused.fault cc) c.requires.fresh cut.1)

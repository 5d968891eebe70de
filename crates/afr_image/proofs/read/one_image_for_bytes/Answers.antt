use Rattle.afr_image.proofs.ReadLemmas.{never_both, one_fault, one_image}
use Rattle.afr_image.proofs.read.one_image_for_bytes.Goals as goal

pub returns-clause-same : goal.returns-clause-same
returns-clause-same c = one_image c.one_plan_for_a_text.ensures.same

pub returns-clause-once : goal.returns-clause-once
returns-clause-once c = one_fault c.one_plan_for_a_text.ensures.same

pub returns-clause-never : goal.returns-clause-never
returns-clause-never c = never_both c.one_plan_for_a_text.ensures.same

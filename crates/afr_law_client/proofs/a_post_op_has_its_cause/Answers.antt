use Rattle.afr_law_client.proofs.About.{blames_kept, excused_kept}
use Rattle.afr_law_client.proofs.Excused.{excused_first}
use Rattle.afr_law_client.proofs.a_post_op_has_its_cause.Goals as goal

pub returns-clause-first : goal.returns-clause-first
returns-clause-first c = excused_first

pub returns-clause-kept : goal.returns-clause-kept
returns-clause-kept c = excused_kept

pub returns-clause-blames : goal.returns-clause-blames
returns-clause-blames c = blames_kept

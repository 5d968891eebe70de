use Rattle.afr_plan_line.proofs.DataLemmas.{half}
use Rattle.afr_plan_line.proofs.parts.hex_len.Goals as goal

pub returns : goal.returns
returns c = half c.args.digits.now

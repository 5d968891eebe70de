use Rattle.std.proofs.Common.{sym}
use Rattle.afr_plan_line.proofs.DataLemmas.{paired-even}
use Rattle.afr_plan_line.proofs.parts.are_paired.Goals as goal

pub returns : goal.returns
returns c = sym (paired-even c.args.digits.now)

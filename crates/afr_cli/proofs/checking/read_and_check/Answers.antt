-- What is said of a trace, or why its plan part is refused, cut off.
use Rattle.afr_cli.proofs.CheckLemmas.{stops_at_finding, stops_at_part_refusal}
use Rattle.afr_cli.proofs.checking.read_and_check.Goals as goal

pub returns-in-Ok-clause-write : goal.returns-in-Ok-clause-write
returns-in-Ok-clause-write g c = λ five. let cut = c.check_traced.ensures.write five in
    (cut.0, λ words now asked none. stops_at_finding words _ _ _ _ _ now asked none _ _ c.in-Ok.ensures.ok cut.1)

pub returns-in-Err-Refused-clause-write : goal.returns-in-Err-Refused-clause-write
returns-in-Err-Refused-clause-write g c = λ five. let cut = rw c.in-Err-Refused.fault-is at (c.refuse.ensures.write five) in (
  cut.0,
  λ words now asked none. stops_at_part_refusal words _ _ _ _ _ now asked none c.in-Err-Refused.fault (c.in-Err-Refused.ensures.refused c.in-Err-Refused.fault cc) cut.1,
)

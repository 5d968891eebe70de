use Rattle.std.proofs.Common.{arith}
use Rattle.afr_report_trace.proofs.TextLemmas.{many}
use Rattle.afr_report_trace.proofs.texts.Texts.len.Goals as goal

pub returns : goal.returns
returns c = rw (← c.self.view_is) (omega (arith, many c.self.inside.bytes.items c.self.inside.cuts.items c.self.invariant, c.len.ensures, c.self.inside.cuts.ok.0))

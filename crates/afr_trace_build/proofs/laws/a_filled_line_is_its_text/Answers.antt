use Rattle.afr_trace_build.proofs.FilledLaws.{filled_so}
use Rattle.afr_trace_build.proofs.TextLaws.{text_again}
use Rattle.afr_trace_build.proofs.laws.a_filled_line_is_its_text.Goals as goal

pub returns : goal.returns
returns c = record { said = filled_so; printed = text_again }

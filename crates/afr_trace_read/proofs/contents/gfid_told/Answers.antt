use Rattle.afr_trace_read.proofs.ContentsLaws.{no_gfid}
use Rattle.afr_trace_read.proofs.contents.gfid_told.Goals as goal

pub returns-in_default : goal.returns-in_default
returns-in_default c = no_gfid c.args.word.now (λ bytes e. let h = c.in_default.ensures.ok.1 (bytes, e) in cc h)

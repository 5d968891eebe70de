use Rattle.afr_trace_read.proofs.ContentsLaws.{gfid_front, no_gfid_front}
use Rattle.afr_trace_read.proofs.contents.gfid.Goals as goal

pub returns : goal.returns
returns c = gfid_front c.args.bytes.now c.min-count.result c.in-Some.gfid c.min-count.ensures c.in-Some.ensures

pub returns-in_default : goal.returns-in_default
returns-in_default c = no_gfid_front c.args.bytes.now c.min-count.result c.min-count.ensures c.in_default.ensures

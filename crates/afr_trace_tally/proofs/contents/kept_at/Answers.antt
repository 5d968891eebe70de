use Rattle.std.proofs.Common.{ap, sym}
use Rattle.std.proofs.lemmas.Option.{slice_get-map}
use Rattle.afr_trace_tally.specs.Contents.{contents_seen, or_nothing}
use Rattle.afr_trace_tally.proofs.contents.kept_at.Goals as goal

pub returns : goal.returns
returns c = rw c.item_at.ensures (ap or_nothing (sym (slice_get-map contents_seen c.args.shown.now c.args.position)))

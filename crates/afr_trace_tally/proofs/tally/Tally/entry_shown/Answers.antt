use Rattle.std.proofs.Common.{◌∙◌, List, Option, ap, reverse, slice_get}
use Rattle.afr_object.specs.declared.entry.Entry.{Entry}
use Rattle.afr_trace_tally.specs.Entries.{or_no_entry}
use Rattle.afr_trace_tally.proofs.EntryLemmas.{entry_is}
use Rattle.afr_trace_tally.proofs.tally.Tally.entry_shown.Goals as goal

pub returns : goal.returns
returns c =
    c.entry_in.ensures ∙ ap (λ (w : List (Option Entry)). or_no_entry (slice_get w c.args.position)) c.as_slice.ensures.value
    ∙ entry_is c.args.plan.now (reverse c.args.log.now) c.args.self.now.entries.items c.requires.tally.entries c.args.position

use Rattle.std.proofs.Common.{◌∙◌, ℕ, ap, reverse}
use Rattle.afr_lines.specs.Work.{work}
use Rattle.afr_trace_follow.proofs.AskedLemmas.{due_name}
use Rattle.afr_trace_follow.proofs.KeepingLemmas.{as_well, both}
use Rattle.afr_trace_follow.specs.Renaming.{name_due}
use Rattle.afr_trace_follow.proofs.renamed.is_due_name.Goals as goal

pub returns : goal.returns
returns c =
    as_well c.both.result _ _
    (due_name c.args.plan.now c.args.from.now c.args.to.now c.args.g c.args.name (work c.args.a.0 (reverse c.args.log.now)) _ _
    (c.name_due.ensures ∙ ap (λ (n : ℕ). name_due c.args.from.now c.args.to.now n) c.asked_at-names.ensures.names) c.dir_due.ensures)
    (both c.both.result c.is_name-named.result c.is_dir-within.result _ _ c.both.ensures c.is_name-named.ensures c.is_dir-within.ensures)

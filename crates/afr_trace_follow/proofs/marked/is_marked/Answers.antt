use Rattle.std.proofs.Common.{reverse}
use Rattle.afr_base.specs.declared.ids.Kind.TheVariants.{Attrs, Bytes, Names}
use Rattle.afr_trace_follow.proofs.MarkedLemmas.{one_of_three}
use Rattle.afr_trace_follow.specs.Marked.{has_number}
use Rattle.afr_trace_follow.proofs.marked.is_marked.Goals as goal

pub returns : goal.returns
returns c =
    one_of_three c.either.result c.has_number-bytes.result c.has_number-attrs.result c.has_number-names.result (has_number c.args.plan.now (reverse c.args.log.now) c.args.b.0 c.args.g Bytes) (has_number c.args.plan.now (reverse c.args.log.now) c.args.b.0 c.args.g Attrs)
    (has_number c.args.plan.now (reverse c.args.log.now) c.args.b.0 c.args.g Names) c.either-other.result c.has_number-bytes.ensures c.has_number-attrs.ensures c.has_number-names.ensures c.either-other.ensures c.either.ensures

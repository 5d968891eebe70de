use Rattle.std.proofs.Common.{reverse}
use Rattle.std.proofs.lemmas.Result.{on_ok_weaker}
use Rattle.afr_trace_follow.proofs.MarkedLemmas.{listing_more, listing_same}
use Rattle.afr_trace_follow.proofs.marked.list_more.Goals as goal

pub returns-in-Some : goal.returns-in-Some
returns-in-Some c = record {
  ok =
      on_ok_weaker c.put.result
      (λ h. listing_more c.args.plan.now (reverse c.args.log.now) c.args.b.0 c.args.line.now c.in-Some.g c.kind_marked-kind.result c.args.index.now c.put.new.index c.in-Some.ensures c.kind_marked-kind.ensures h)
      c.put.ensures.ok;
}

pub returns-in-None : goal.returns-in-None
returns-in-None c = record { ok = listing_same c.args.plan.now (reverse c.args.log.now) c.args.b.0 c.args.line.now c.args.index.now c.in-None.ensures }

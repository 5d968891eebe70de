use Rattle.std.proofs.Common.{length-append, arith}
use Rattle.afr_servers.proofs.OpeningLemmas.{new_more}
use Rattle.afr_servers.proofs.servers.Servers.new.Goals as goal

pub loop-b-preserved : goal.loop-b-preserved
loop-b-preserved c = record {
  count = rw (c.in_ok-push.ensures.items, length-append) (omega (arith, c.loop-b.invariant.count));
  each = new_more c.args.plan.now c.loop-b.b c.loop-b.each.items c.push.new.self.items c.in_ok-server.server c.in_ok-push.ensures.items c.loop-b.invariant.count c.loop-b.invariant.each c.in_ok-server.ensures;
}

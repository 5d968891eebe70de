-- Each turn takes the first equal lock out, and at the end none is left.
use Rattle.std.proofs.Common.{refl, sym, ap, ◌∙◌, arith}
use Rattle.std.specs.Option.{is_some}
use Rattle.afr_range_locks.proofs.ReleaseLemmas.{all_from_0, all_taken, taken}
use Rattle.afr_range_locks.proofs.table.release.Goals as goal

pub loop-key-init : goal.loop-key-init
loop-key-init g c = record {
  left = refl;
  filed = c.requires;
  later = all_from_0 g.A.Lockable.same c.args.held.now c.args.locks.now.entries;
  within = omega arith;
}

pub loop-key-preserved : goal.loop-key-preserved
loop-key-preserved g c =
    let i = c.loop-key.invariant in
    let t = taken g.A.Lockable.same c.args.held.now g.A.Lockable.at c.args.next c.loop-key.from c.in-Some.ensures.place c.in-Some.key c.loop-key.locks.entries c.remove.new.self.entries i.filed i.later c.in-Some.ensures.order c.in-Some.ensures.first c.remove.ensures.entries in
    record {
      left = t.left ∙ i.left;
      filed = t.filed;
      later = t.later;
      within = omega (arith, t.low);
    }

pub loop-key-smaller : goal.loop-key-smaller
loop-key-smaller g c =
    let i = c.loop-key.invariant in
    let t = taken g.A.Lockable.same c.args.held.now g.A.Lockable.at c.args.next c.loop-key.from c.in-Some.ensures.place c.in-Some.key c.loop-key.locks.entries c.remove.new.self.entries i.filed i.later c.in-Some.ensures.order c.in-Some.ensures.first c.remove.ensures.entries in
    let some = ap is_some c.remove.ensures.value ∙ t.there in
    omega (arith, rw some at c.remove.ensures.len)

pub returns : goal.returns
returns g c =
    let i = c.loop-key.invariant in
    sym (all_taken g.A.Lockable.same c.args.held.now g.A.Lockable.at c.args.next c.loop-key.from c.in_default.ensures.place c.loop-key.locks.entries i.filed i.later c.in_default.ensures.first) ∙ i.left

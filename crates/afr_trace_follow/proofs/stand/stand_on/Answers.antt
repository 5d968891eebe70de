use Rattle.std.proofs.Common.{◌≤◌, ◌+◌, ◌++◌, arith, length, reverse, subst, sym, take}
use Rattle.std.proofs.lemmas.List.{length-reverse, length-take}
use Rattle.afr_lines.specs.Work.{Work}
use Rattle.afr_trace_follow.proofs.LogLemmas.{stands_at}
use Rattle.afr_trace_follow.proofs.PartLemmas.{none_from}
use Rattle.afr_trace_follow.proofs.StandLemmas.{few_weaker, lines_more, lines_upto}
use Rattle.afr_trace_follow.specs.Parts.{lines_from}
use Rattle.afr_trace_follow.specs.Stands.{IsAt}
use Rattle.afr_trace_follow.proofs.stand.stand_on.Goals as goal

pub loop-position-init : goal.loop-position-init
loop-position-init c =
    let short : length (reverse (take c.min-first.result c.args.log.now)) ≤ c.args.from = omega (arith, c.min-first.ensures, length-reverse (take c.min-first.result c.args.log.now), length-take c.min-first.result c.args.log.now) in
    record {
      at = λ w v.
          subst (λ (u : Work). IsAt c.args.plan.now c.args.names (u ++ w) c.args.start) (sym (none_from c.args.a.0 c.args.from (reverse (take c.min-first.result c.args.log.now)) short)) v;
      few = λ n f. few_weaker n _ c.args.start (omega arith) f;
    }

pub stand_more-stand-requires-clause-within : goal.stand_more-stand-requires-clause-within
stand_more-stand-requires-clause-within c = omega (arith, c.loop-position-test.true, c.requires.within)

pub stand_more-stand-requires-clause-here : goal.stand_more-stand-requires-clause-here
stand_more-stand-requires-clause-here c = stands_at c.args.log.now c.loop-position.position c.index-log-position.result (omega (arith, c.loop-position-test.true, c.requires.within)) c.index-log-position.is

pub stand_more-stand-requires-clause-names : goal.stand_more-stand-requires-clause-names
stand_more-stand-requires-clause-names c =
    few_weaker (2147483648 + c.loop-position.position) _ c.loop-position.stand (omega (arith, c.loop-position-test.true, c.requires.within, c.requires.few)) (c.loop-position.invariant.few 2147483648 c.requires.names)

pub loop-position-preserved : goal.loop-position-preserved
loop-position-preserved c = record {
  at = λ w v.
      lines_more (λ (u : Work). IsAt c.args.plan.now c.args.names u c.stand_more-stand.result) c.args.a.0 c.args.from c.args.log.now c.loop-position.position c.index-log-position.result w
      (omega (arith, c.loop-position-test.true, c.requires.within)) c.index-log-position.is
      (c.stand_more-stand.ensures.at (lines_from c.args.a.0 c.args.from (reverse (take c.loop-position.position c.args.log.now)) ++ w) (c.loop-position.invariant.at w v));
  few = λ n f. few_weaker ((n + c.loop-position.position) + 1) _ c.stand_more-stand.result (omega arith) (c.stand_more-stand.ensures.few (n + c.loop-position.position) (c.loop-position.invariant.few n f));
}

pub returns : goal.returns
returns c = record {
  at = λ w v.
      lines_upto (λ (u : Work). IsAt c.args.plan.now c.args.names u c.loop-position.stand) c.args.a.0 c.args.from c.args.log.now c.loop-position.position c.args.upto w
      (omega (arith, c.loop-position-test.false, c.loop-position.auto.position-end, c.min-first.ensures)) (c.loop-position.invariant.at w v);
  few = λ n f. few_weaker (n + c.loop-position.position) _ c.loop-position.stand (omega (arith, c.loop-position.auto.position-end, c.min-first.ensures)) (c.loop-position.invariant.few n f);
}

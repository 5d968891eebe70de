use Rattle.std.proofs.Common.{◌∙◌, ◌+◌, ◌∷◌, length, length-set, refl, reverse, arith}
use Rattle.std.proofs.lemmas.Option.{slice_get_read}
use Rattle.afr_trace_follow.specs.Lists.{IsGivenTo}
use Rattle.afr_trace_tally.proofs.PlaceLemmas.{all_done, none_done, one_done}
use Rattle.afr_trace_follow.proofs.lists.give_all.Goals as goal

pub loop-i-init : goal.loop-i-init
loop-i-init c = record {
  three = c.requires.was.three;
  between = none_done (IsGivenTo c.args.plan.now (c.args.line.now ∷ reverse c.args.older.now)) (IsGivenTo c.args.plan.now (reverse c.args.older.now)) c.args.given.now.items c.requires.was.each;
}

pub give-requires-clause-was : goal.give-requires-clause-was
give-requires-clause-was c =
    c.loop-i.invariant.between.left c.loop-i.i c.index_mut.result.now (omega arith)
    (slice_get_read c.loop-i.given.items (length c.loop-i.given.items) c.loop-i.i c.index_mut.result.now refl (omega (arith, c.loop-i.given.ok.0, c.args.given.now.ok.0)) c.index_mut.ensures.value)

pub loop-i-preserved : goal.loop-i-preserved
loop-i-preserved c = record {
  three = length-set c.loop-i.given.items c.loop-i.i c.give.new.list ∙ c.loop-i.invariant.three;
  between =
      one_done (IsGivenTo c.args.plan.now (c.args.line.now ∷ reverse c.args.older.now)) (IsGivenTo c.args.plan.now (reverse c.args.older.now)) c.loop-i.i (c.loop-i.i + 1) c.loop-i.given.items _ c.give.new.list refl
      (omega (arith, c.loop-i.given.ok.0, c.args.given.now.ok.0)) refl c.in_ok-give.ensures.ok c.loop-i.invariant.between;
}

pub returns : goal.returns
returns c = record {
  ok = record {
    three = c.loop-i.invariant.three;
    each =
        all_done (IsGivenTo c.args.plan.now (c.args.line.now ∷ reverse c.args.older.now)) (IsGivenTo c.args.plan.now (reverse c.args.older.now)) c.loop-i.i c.loop-i.given.items
        (omega (arith, c.loop-i.given.ok.0, c.args.given.now.ok.0)) c.loop-i.invariant.between;
  };
}

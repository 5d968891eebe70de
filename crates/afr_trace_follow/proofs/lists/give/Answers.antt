use Rattle.std.proofs.Common.{◌∙◌, reverse, sym}
use Rattle.std.proofs.lemmas.Result.{on_ok_weaker}
use Rattle.afr_trace_follow.proofs.ListLemmas.{given_ended, given_index, given_other, given_passed, known_index}
use Rattle.afr_trace_follow.proofs.lists.give.Goals as goal

pub returns-then-not-is_of : goal.returns-then-not-is_of
returns-then-not-is_of c = record { ok = given_passed c.args.plan.now c.args.i c.args.line.now (reverse c.args.older.now) _ (sym c.is_of.ensures ∙ c.if-not-is_of.true) c.requires.was }

pub returns-then-is_end : goal.returns-then-is_end
returns-then-is_end c = record {
  ok = given_ended c.args.plan.now c.args.i c.args.line.now (reverse c.args.older.now) _ (sym c.is_of.ensures ∙ c.if-not-is_of.false) (sym c.is_end.ensures ∙ c.if-is_end.true) c.new.ensures;
}

pub give_index-requires-clause-brick : goal.give_index-requires-clause-brick
give_index-requires-clause-brick c = known_index c.args.line.now c.in-Some.b c.requires.known c.in-Some.ensures

pub returns-in-Some : goal.returns-in-Some
returns-in-Some c = record {
  ok =
      on_ok_weaker c.give_index.result
      (given_index c.args.plan.now c.args.i c.args.line.now (reverse c.args.older.now) c.give_index.new.list c.in-Some.b (sym c.is_of.ensures ∙ c.if-not-is_of.false) (sym c.is_end.ensures ∙ c.if-is_end.false) c.in-Some.ensures)
      c.give_index.ensures.ok;
}

pub returns-in-None : goal.returns-in-None
returns-in-None c = record {
  ok =
      given_other c.args.plan.now c.args.i c.args.line.now (reverse c.args.older.now) _ (sym c.is_of.ensures ∙ c.if-not-is_of.false) (sym c.is_end.ensures ∙ c.if-is_end.false) c.in-None.ensures c.requires.was;
}

-- The actors of a row are those of the run; each is settled after its turn, and stays so where no line is added.
use Rattle.std.proofs.Common.{◌≡◌, ◌∙◌, true, Ok, ap, arith}
use Rattle.std.proofs.lemmas.Grind.{common_steps}
use Rattle.afr_live.specs.Noted.{IsSettled}
use Rattle.afr_volume.proofs.DoneLemmas.{row_each}
use Rattle.afr_volume.proofs.GoingLemmas.{goes_then}
use Rattle.afr_live.proofs.rest.take_row.Goals as goal

pub ask-requires-clause-actor : goal.ask-requires-clause-actor
ask-requires-clause-actor g c = c.requires.actors c.loop-i.i c.loop-i-test.true

pub ask-requires-clause-backed : goal.ask-requires-clause-backed
ask-requires-clause-backed g c = omega (arith, c.loop-i.invariant.parts, c.requires.backed)

pub loop-i-preserved : goal.loop-i-preserved
loop-i-preserved g c =
    let on : c.in_ok-ask.field-0 ≡ true = grind (arith, common_steps) in
    record {
      goes = goes_then c.args.state.now.volume c.loop-i.state.volume c.ask.new.state.volume c.loop-i.invariant.goes c.ask.ensures.goes;
      settled = row_each IsSettled c.args.state.now.volume c.loop-i.state.volume c.ask.new.state.volume c.args.first c.loop-i.i c.loop-i.invariant.goes c.ask.ensures.goes c.loop-i.invariant.settled (c.in_ok-ask.ensures.settled (ap Ok on));
      parts = c.ask.ensures.parts ∙ c.loop-i.invariant.parts;
    }

-- A pass that added no line was the last one.
use Rattle.std.proofs.Common.{◌≡◌, ◌≤◌, Ok, true, ap, arith, length}
use Rattle.std.proofs.lemmas.Grind.{common_steps}
use Rattle.afr_volume.proofs.DoneLemmas.{complete}
use Rattle.afr_volume.proofs.PlainLemmas.{plain_settled}
use Rattle.afr_live.proofs.rest.take_rest.Goals as goal

pub returns-then-len-before-clause-ok : goal.returns-then-len-before-clause-ok
returns-then-len-before-clause-ok g c =
    let on : c.in_ok-take_pass.field-0 ≡ true = grind (arith, common_steps) in
    let still : length c.take_pass.new.state.volume.log ≤ length c.loop.state.volume.log = omega (arith, c.len.ensures, c.len-before.ensures, c.if-len-before.true) in
    complete c.take_pass.new.state.volume c.every_line.ensures.room (c.in_ok-take_pass.ensures.idle (ap Ok on) still) (plain_settled c.take_pass.new.state.volume c.take_pass.new.state.plain c.every_line.ensures.settled)

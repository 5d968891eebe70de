-- The line at the last place is the newest one.
use Rattle.std.proofs.Common.{◌≡◌, ◌-◌, Some, length, sym, ◌∙◌, ap, arith}
use Rattle.std.specs.Prelude.{slice_get}
use Rattle.std.proofs.lemmas.List.{length-reverse}
use Rattle.afr_volume.proofs.PlainLemmas.{plain_right}
use Rattle.afr_order.proofs.Replays.LineLemmas.{newest_line, other_step, same_step, short_actors}
use Rattle.afr_order.proofs.remaking.steps.has_step.Goals as goal

pub step_at-requires : goal.step_at-requires
step_at-requires c = record {
  there = omega (arith, c.len-newest.ensures, c.requires.some, length-reverse c.lines.result.now.items, ap length c.lines.ensures);
  short = short_actors c.args.volume.now.plan c.args.volume.now.log c.lines.result.now.items c.every_line.ensures.few c.every_line.ensures.clients c.every_line.ensures.healers (plain_right c.args.volume.now c.requires.plain c.every_line.ensures.right).follows (plain_right c.args.volume.now c.requires.plain c.every_line.ensures.right).lawful c.lines.ensures;
}

pub returns-clause-yes : goal.returns-clause-yes
returns-clause-yes c = λ line older e yes.
    let at : length older ≡ c.len-newest.result - 1 = omega (arith, c.len-newest.ensures, ap length e) in
    let there : slice_get c.lines.result.now.items (c.len-newest.result - 1) ≡ Some line = ap (slice_get c.lines.result.now.items) (sym at) ∙ newest_line c.lines.result.now.items older line (c.lines.ensures ∙ e) in
    sym (c.step_at.ensures line there) ∙ same_step c.step_at.result c.args.step (sym c.are_same.ensures ∙ yes)

pub returns-clause-no : goal.returns-clause-no
returns-clause-no c = λ line older e no same.
    let at : length older ≡ c.len-newest.result - 1 = omega (arith, c.len-newest.ensures, ap length e) in
    let there : slice_get c.lines.result.now.items (c.len-newest.result - 1) ≡ Some line = ap (slice_get c.lines.result.now.items) (sym at) ∙ newest_line c.lines.result.now.items older line (c.lines.ensures ∙ e) in
    other_step c.step_at.result c.args.step (sym c.are_same.ensures ∙ no) (c.step_at.ensures line there ∙ same)

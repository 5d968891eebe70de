use Rattle.std.proofs.Common.{◌≡◌, ap, sym, ◌∙◌}
use Rattle.afr_log.specs.Log.{shown_line}
use Rattle.afr_image.specs.Steps.{step_of}
use Rattle.afr_image.proofs.LogLemmas.{is_there}
use Rattle.afr_image.proofs.recorded.shown_step.Goals as goal

pub step_of-requires : goal.step_of-requires
step_of-requires c = rw c.as_line.ensures (c.requires.short.each c.args.at (shown_line c.in-Some.shown) (sym c.in-Some.ensures))

pub unreachable-requires : goal.unreachable-requires
unreachable-requires c = is_there c.args.log.now.items c.args.at c.requires.there c.in-None.ensures

pub returns : goal.returns
returns c = λ line e.
    let same : shown_line c.in-Some.shown ≡ line = cc (c.in-Some.ensures ∙ e) in
    c.step_of.ensures ∙ ap step_of (c.as_line.ensures ∙ same)

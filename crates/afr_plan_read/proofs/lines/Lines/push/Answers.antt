use Rattle.std.proofs.Common.{List, map, reverse}
use Rattle.afr_plan.specs.Said.{Said}
use Rattle.afr_plan_line.specs.Seen.{seen}
use Rattle.afr_plan_read.proofs.CountsLemmas.{counts-kept, places-kept, pushed}
use Rattle.afr_plan_read.proofs.RulesLemmas.{fitting_ok}
use Rattle.afr_plan_read.proofs.lines.Lines.push.Goals as goal

pub invariant_of-self-2 : goal.invariant_of-self-2
invariant_of-self-2 c =
    let s = seen c.args.spoken in
    let before : List Said = reverse (map seen c.self.inside.spoken.items) in
    let f = fitting_ok before s s (rw (← c.self.view_is) at c.requires.fits) in
    rw (c.in-Ok.ensures.items, c.in_ok-try_reserve.ensures.items, pushed, c.counted-self-inside.ensures, c.in_ok-placed.ensures.ok)
    (counts-kept before s _ (rw (← c.self.view_is) at c.requires.place) c.self.invariant.0 f.limits f.order f.totals, places-kept before s _ c.self.invariant.1)

use Rattle.std.proofs.Common.{◌≡◌, ◌↔◌, List, reverse, subst, true}
use Rattle.afr_base.specs.declared.ids.Gfid.{Gfid}
use Rattle.afr_base.specs.declared.ids.What.{What}
use Rattle.afr_lines.specs.Work.{work}
use Rattle.afr_trace_follow.specs.Turns.{KeepsToList}
use Rattle.afr_trace_follow.proofs.following.goes_some.Goals as goal

pub returns-in-Some : goal.returns-in-Some
returns-in-Some c =
    rw c.in-Some.is
    (subst (λ (l : List (Gfid × What)). (c.keeps_to_list.result ≡ true) ↔ KeepsToList c.in-Some.b l c.args.line.now (work c.args.a.0 (reverse c.args.log.now))) c.list.ensures c.keeps_to_list.ensures)

-- A page is there if it keeps a byte, and else each of its bytes is 0.
use Rattle.std.proofs.Common.{sym, ◌∙◌}
use Rattle.afr_content.specs.Kept.{kept}
use Rattle.afr_content.proofs.Calls.{zeros_where_absent}
use Rattle.afr_content.proofs.Numbers.{contains-numbers}
use Rattle.afr_content.proofs.content.Content.has_page.Goals as goal

pub returns-clause-value : goal.returns-clause-value
returns-clause-value c = rw (← c.self.view_is) (c.has.ensures ∙ sym (contains-numbers c.self.inside.len (kept c.self.inside.pages.entries) c.self.invariant c.args.number))

pub returns-clause-zeros : goal.returns-clause-zeros
returns-clause-zeros c = λ absent. rw (← c.self.view_is) (zeros_where_absent c.self.inside.len (kept c.self.inside.pages.entries) c.self.invariant c.args.number (sym c.has.ensures ∙ absent))

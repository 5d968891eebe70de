use Rattle.std.proofs.Common.{◌≡◌, ap, sym, subst, ◌∙◌, true, false}
use Rattle.afr_lines.specs.declared.line.Next.TheVariants as next
use Rattle.afr_discipline.specs.Free.{is_ask}
use Rattle.afr_client_entry.specs.Entry.{Entering, is_over, next_at, next_of, reads_name}
use Rattle.afr_client_entry.specs.declared.stage.EntryStage.{EntryStage}
use Rattle.afr_client_entry.proofs.NextLemmas.{same_under}
use Rattle.afr_client_entry.proofs.machine.EntryMachine.change.Goals as goal

pub returns-in-Changing-clause-some : goal.returns-in-Changing-clause-some
returns-in-Changing-clause-some c = λ change e.
    subst (λ (m : Entering). next_of c.args.at m ≡ next.Begin change) c.self.view_is
    (subst (λ (stage : EntryStage). next_at c.args.at stage c.self.inside.job c.self.inside.walk ≡ next.Begin change) (sym c.in-Changing.is)
    (sym (same_under c.in-Changing.found c.self.inside.job c.self.inside.walk c.in-Changing.transaction c.args.at) ∙ c.begins_under.ensures.some change e (reads_name c.self.inside.job c.self.inside.walk)))

pub returns-in-Changing-clause-none : goal.returns-in-Changing-clause-none
returns-in-Changing-clause-none c = λ none.
    subst (λ (m : Entering). is_ask (next_of c.args.at m) ≡ false → is_over m.stage ≡ true) c.self.view_is
    (subst (λ (stage : EntryStage). is_ask (next_at c.args.at stage c.self.inside.job c.self.inside.walk) ≡ false → is_over stage ≡ true) (sym c.in-Changing.is)
    (λ asked. c.begins_under.ensures.none none (reads_name c.self.inside.job c.self.inside.walk)
    (ap is_ask (same_under c.in-Changing.found c.self.inside.job c.self.inside.walk c.in-Changing.transaction c.args.at) ∙ asked)))

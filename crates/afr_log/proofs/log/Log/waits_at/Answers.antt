use Rattle.std.proofs.Common.{ap, sym, ◌∙◌}
use Rattle.std.proofs.lemmas.Option.{none-some, same_Some, slice_get_past}
use Rattle.afr_log.specs.Log.{Logged, waits_for}
use Rattle.afr_log.proofs.Entries.{entry_line, entry_there, no_entry}
use Rattle.afr_log.proofs.log.Log.waits_at.Goals as goal

pub entry_waits-requires : goal.entry_waits-requires
entry_waits-requires c = entry_there c.self.inside.kept.items _ c.self.inside.packed.items _ c.args.at _ c.as_slice-in-Some.ensures.value c.as_slice.ensures.value c.in-Some.ensures c.self.invariant

pub returns-in-Some-clause-line : goal.returns-in-Some-clause-line
returns-in-Some-clause-line c line is = c.entry_waits.ensures ∙ ap waits_for (same_Some _ _ (entry_line c.self.inside.kept.items _ c.self.inside.packed.items _ c.args.self.now.items c.args.at _ c.as_slice-in-Some.ensures.value c.as_slice.ensures.value (ap (λ (l : Logged). l.items) c.self.view_is) c.in-Some.ensures ∙ is))

pub returns-in-Some-clause-past : goal.returns-in-Some-clause-past
returns-in-Some-clause-past c past = absurd (none-some _ (sym (slice_get_past c.args.self.now.items c.args.at past) ∙ sym (entry_line c.self.inside.kept.items _ c.self.inside.packed.items _ c.args.self.now.items c.args.at _ c.as_slice-in-Some.ensures.value c.as_slice.ensures.value (ap (λ (l : Logged). l.items) c.self.view_is) c.in-Some.ensures)))

pub returns-in-None-clause-line : goal.returns-in-None-clause-line
returns-in-None-clause-line c line is = absurd (none-some _ (no_entry c.self.inside.kept.items c.self.inside.packed.items _ c.args.self.now.items c.args.at c.as_slice.ensures.value (ap (λ (l : Logged). l.items) c.self.view_is) c.in-None.ensures ∙ is))

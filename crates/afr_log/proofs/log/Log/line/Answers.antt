use Rattle.std.specs.Prelude.{Some}
use Rattle.std.proofs.Common.{ap, ◌∙◌}
use Rattle.afr_log.specs.Log.{Logged}
use Rattle.afr_log.proofs.Entries.{entry_line, entry_there, no_entry}
use Rattle.afr_log.proofs.log.Log.line.Goals as goal

pub show-requires : goal.show-requires
show-requires c = entry_there c.self.inside.kept.items _ c.self.inside.packed.items _ c.args.at _ c.as_slice-in-Some.ensures.value c.as_slice.ensures.value c.in-Some.ensures c.self.invariant

pub returns-in-Some : goal.returns-in-Some
returns-in-Some c = ap Some c.show.ensures ∙ entry_line c.self.inside.kept.items _ c.self.inside.packed.items _ c.args.self.now.items c.args.at _ c.as_slice-in-Some.ensures.value c.as_slice.ensures.value (ap (λ (l : Logged). l.items) c.self.view_is) c.in-Some.ensures

pub returns-in-None : goal.returns-in-None
returns-in-None c = no_entry c.self.inside.kept.items c.self.inside.packed.items _ c.args.self.now.items c.args.at c.as_slice.ensures.value (ap (λ (l : Logged). l.items) c.self.view_is) c.in-None.ensures

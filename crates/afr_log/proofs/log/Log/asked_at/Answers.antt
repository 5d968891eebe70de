use Rattle.std.specs.Prelude.{Some}
use Rattle.std.proofs.Common.{ap, ◌∙◌, refl, sym}
use Rattle.afr_log.specs.Log.{Logged}
use Rattle.afr_log.proofs.Entries.{entry_line}
use Rattle.afr_log.proofs.log.Log.asked_at.Goals as goal

pub returns-in-Some : goal.returns-in-Some
returns-in-Some c by is = sym (entry_line c.self.inside.kept.items c.self.inside.kept.items c.self.inside.packed.items _ c.args.self.now.items c.args.at _ refl c.as_slice.ensures.value (ap (λ (l : Logged). l.items) c.self.view_is) c.in-Some.ensures) ∙ ap Some (c.unpack.ensures by is c.self.inside.kept.items)

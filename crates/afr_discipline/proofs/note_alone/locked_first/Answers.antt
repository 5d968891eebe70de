use Rattle.std.proofs.Common.{Bool, if◌then◌else◌, List, ℕ, [], false, refl, sym, ap, subst, ◌∙◌}
use Rattle.afr_base.specs.Bricks.{added_if}
use Rattle.afr_choice.specs.Looks.{no_looks}
use Rattle.afr_lines.specs.declared.lock.Domain.TheVariants.{Work}
use Rattle.afr_lines.specs.declared.request.Request.TheVariants.{Lock}
use Rattle.afr_model_moves.specs.Note.{is_granted}
use Rattle.afr_discipline.specs.Notes.{anew, is_working, stayed}
use Rattle.afr_discipline.specs.declared.register.Register.{Register}
use Rattle.afr_discipline.specs.declared.register.Step.TheVariants.{Open}
use Rattle.afr_discipline.proofs.Alone.{IsCalm, locks_first, noted_calm}
use Rattle.afr_discipline.proofs.note_alone.locked_first.Goals as goal

pub returns : goal.returns
returns c =
    noted_calm c.args.register.now c.opened.new.register (record c.anew.new.register { held = c.with_if-register.result }) c.dropped.new.register c.args.at c.args.b.0 (Lock Work c.args.area) c.args.told.now c.is_gone.result c.requires.outside
    (c.opened.ensures ∙ ap (λ (works : Bool). if works then stayed c.args.register.now else record c.args.register.now { step = Open; asked = []; unlocked = false; looked = no_looks }) (sym c.requires.idle))
    (ap (λ (x : Register). record x { held = c.with_if-register.result }) c.anew.ensures
    ∙ ap (λ (s : List ℕ). record (anew c.opened.new.register c.args.area) { held = s }) (c.with_if-register.ensures ∙ ap (λ (granted : Bool). added_if granted c.args.b.0 c.none.result) c.is_granted.ensures ∙ ap (λ (s : List ℕ). added_if (is_granted c.args.told.now) c.args.b.0 s) c.none.ensures)
    ∙ locks_first c.opened.new.register c.args.area c.args.b.0 c.args.told.now (ap is_working c.opened.ensures ∙ c.requires.idle))
    c.is_gone.ensures c.dropped.ensures
    (subst IsCalm (sym (ap (λ (works : Bool). (if works then stayed c.args.register.now else record c.args.register.now { step = Open; asked = []; unlocked = false; looked = no_looks }).step) c.requires.idle)) (λ n keeps r. refl))

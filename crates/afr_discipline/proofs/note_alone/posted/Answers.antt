use Rattle.std.proofs.Common.{refl, ap, ◌∙◌, Bool, List, ℕ}
use Rattle.afr_base.specs.Bricks.{added_if}
use Rattle.afr_lines.specs.declared.request.Request.TheVariants.{Post}
use Rattle.afr_discipline.proofs.Alone.{noted_calm}
use Rattle.afr_discipline.proofs.note_alone.posted.Goals as goal

pub returns : goal.returns
returns c =
    noted_calm c.args.register.now c.entered.new.register (record c.entered.new.register { post = c.with_if-register.result }) c.dropped.new.register c.args.at c.args.b.0 (Post c.args.attempt c.args.g c.args.kind c.args.missed) c.args.told.now c.is_gone.result c.requires.outside c.entered.ensures
    (ap (λ (s : List ℕ). record c.entered.new.register { post = s }) (c.with_if-register.ensures ∙ ap (λ (done : Bool). added_if done c.args.b.0 c.entered.new.register.post) c.is_done.ensures)) c.is_gone.ensures c.dropped.ensures (λ n keeps r. refl)

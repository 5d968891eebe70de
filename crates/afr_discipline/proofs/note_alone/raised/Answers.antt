use Rattle.std.proofs.Common.{refl, ap, ◌∙◌, Bool, List, ℕ}
use Rattle.afr_base.specs.Bricks.{added_if}
use Rattle.afr_lines.specs.declared.request.Request.TheVariants.{Pre}
use Rattle.afr_discipline.proofs.Alone.{noted_calm}
use Rattle.afr_discipline.proofs.note_alone.raised.Goals as goal

pub returns : goal.returns
returns c =
    noted_calm c.args.register.now c.entered.new.register (record c.entered.new.register { pre = c.with_if-register.result }) c.dropped.new.register c.args.at c.args.b.0 (Pre c.args.g c.args.kind) c.args.told.now c.is_gone.result c.requires.outside c.entered.ensures
    (ap (λ (s : List ℕ). record c.entered.new.register { pre = s }) (c.with_if-register.ensures ∙ ap (λ (done : Bool). added_if done c.args.b.0 c.entered.new.register.pre) c.is_done.ensures)) c.is_gone.ensures c.dropped.ensures (λ n keeps r. refl)

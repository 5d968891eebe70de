use Rattle.std.proofs.Common.{◌≤◌, refl, sym, subst}
use Rattle.afr_base.specs.declared.ids.Shape.{Shape}
use Rattle.afr_lines.specs.declared.request.Request.TheVariants.{Look}
use Rattle.afr_discipline.proofs.Alone.{alone_shape, noted_ended}
use Rattle.afr_discipline.proofs.note_alone.looked.Goals as goal

pub stopped-requires : goal.stopped-requires
stopped-requires c = subst (λ (s : Shape). s.n ≤ 5) (sym (alone_shape c.args.register.now c.noted_look.new.register c.noted_look.new.register c.dropped.new.register c.args.at c.args.b.0 (Look c.args.g) c.args.told.now c.is_gone.result c.requires.outside c.noted_look.ensures refl c.is_gone.ensures c.dropped.ensures)) c.requires.few

pub returns : goal.returns
returns c = noted_ended c.args.register.now c.noted_look.new.register c.noted_look.new.register c.dropped.new.register c.args.at c.args.b.0 (Look c.args.g) c.args.told.now c.is_gone.result c.requires.outside c.noted_look.ensures refl c.is_gone.ensures c.dropped.ensures c.stopped.new.register c.stopped.ensures

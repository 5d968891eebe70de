use Rattle.std.proofs.Common.{◌≤◌, sym, subst}
use Rattle.afr_base.specs.declared.ids.Shape.{Shape}
use Rattle.afr_lines.specs.declared.lock.Domain.TheVariants.{Work}
use Rattle.afr_lines.specs.declared.request.Request.TheVariants.{Unlock}
use Rattle.afr_discipline.proofs.Alone.{alone_shape, noted_ended}
use Rattle.afr_discipline.proofs.note_alone.unlocked.Goals as goal

pub stopped-requires : goal.stopped-requires
stopped-requires c = subst (λ (s : Shape). s.n ≤ 5) (sym (alone_shape c.args.register.now c.noted_unlock.new.register c.noted_unlock-2.new.register c.dropped.new.register c.args.at c.args.b.0 (Unlock Work c.args.area) c.args.told.now c.is_gone.result c.requires.outside c.noted_unlock.ensures c.noted_unlock-2.ensures c.is_gone.ensures c.dropped.ensures)) c.requires.few

pub returns : goal.returns
returns c = noted_ended c.args.register.now c.noted_unlock.new.register c.noted_unlock-2.new.register c.dropped.new.register c.args.at c.args.b.0 (Unlock Work c.args.area) c.args.told.now c.is_gone.result c.requires.outside c.noted_unlock.ensures c.noted_unlock-2.ensures c.is_gone.ensures c.dropped.ensures c.stopped.new.register c.stopped.ensures

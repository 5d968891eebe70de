use Rattle.std.proofs.Common.{◌≤◌, sym, subst}
use Rattle.afr_base.specs.declared.ids.Shape.{Shape}
use Rattle.afr_lines.specs.declared.lock.Domain.TheVariants.{Work}
use Rattle.afr_lines.specs.declared.request.Request.TheVariants.{Lock}
use Rattle.afr_discipline.proofs.Alone.{alone_shape, locks_more, noted_ended, works_more}
use Rattle.afr_discipline.proofs.note_alone.locked_more.Goals as goal

pub stopped-requires : goal.stopped-requires
stopped-requires c = subst (λ (s : Shape). s.n ≤ 5) (sym (alone_shape c.args.register.now c.stayed.new.register c.locked_by.new.register c.dropped.new.register c.args.at c.args.b.0 (Lock Work c.args.area) c.args.told.now c.is_gone.result c.requires.outside
    (works_more c.args.register.now c.stayed.new.register c.args.area c.args.b.0 c.args.told.now c.stayed.ensures c.requires.busy)
    (locks_more c.args.register.now c.stayed.new.register c.locked_by.new.register c.args.area c.args.b.0 c.args.told.now c.is_granted.result c.stayed.ensures c.requires.busy c.is_granted.ensures c.locked_by.ensures) c.is_gone.ensures c.dropped.ensures)) c.requires.few

pub returns : goal.returns
returns c = noted_ended c.args.register.now c.stayed.new.register c.locked_by.new.register c.dropped.new.register c.args.at c.args.b.0 (Lock Work c.args.area) c.args.told.now c.is_gone.result c.requires.outside
    (works_more c.args.register.now c.stayed.new.register c.args.area c.args.b.0 c.args.told.now c.stayed.ensures c.requires.busy)
    (locks_more c.args.register.now c.stayed.new.register c.locked_by.new.register c.args.area c.args.b.0 c.args.told.now c.is_granted.result c.stayed.ensures c.requires.busy c.is_granted.ensures c.locked_by.ensures) c.is_gone.ensures c.dropped.ensures c.stopped.new.register c.stopped.ensures

-- Bytes begin as an image does, or not.
use Rattle.std.proofs.Common.{sym, ◌∙◌}
use Rattle.afr_image.specs.Frame.{magic}
use Rattle.afr_image.proofs.FrameLemmas.{other_start}
use Rattle.afr_image.proofs.frame.frame_of.Goals as goal

pub returns-then-not-starts_with-clause-err : goal.returns-then-not-starts_with-clause-err
unfolding magic
returns-then-not-starts_with-clause-err c = other_start c.args.bytes.now (sym c.starts_with.ensures.value ∙ c.if-not-starts_with.true)

pub cut-requires-clause-magic : goal.cut-requires-clause-magic
unfolding magic
cut-requires-clause-magic c = sym c.starts_with.ensures.value ∙ c.if-not-starts_with.false

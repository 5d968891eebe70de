-- What the pages kept before they took memory, they kept when the bytes were written.
use Rattle.std.proofs.Common.{◌∙◌}
use Rattle.afr_content.specs.Kept.{overlaid}
use Rattle.afr_content.proofs.pages.write_anew.Goals as goal

pub returns-clause-ok : goal.returns-clause-ok
returns-clause-ok c = λ q. c.write.ensures q ∙ (λ i. overlaid c.args.at c.args.bytes.now (λ p. c.in_ok-take_room.ensures.bytes p i) q)

-- A new file has no pages.
use Rattle.std.proofs.Common.{refl}
use Rattle.afr_content.specs.Kept.{kept}
use Rattle.afr_content.proofs.Numbers.{numbers_below-none}
use Rattle.afr_content.proofs.WholeFile.{no_file}
use Rattle.afr_content.proofs.content.Content.new.Goals as goal

pub invariant_of-result : goal.invariant_of-result
invariant_of-result c = no_file c.new.result.entries c.new.ensures.empty

pub returns-clause-pages : goal.returns-clause-pages
returns-clause-pages c = numbers_below-none 256 (kept c.new.result.entries) (λ q. rw c.new.ensures.empty refl)

-- The lowest brick of the set that is below the number.
use Rattle.std.proofs.Common.{◌∙◌, List, ℕ, ap, refl, sym}
use Rattle.afr_base.specs.Bricks.{common}
use Rattle.afr_discipline.specs.Turns.{brick_of}
use Rattle.afr_discipline.proofs.FirstLemmas.{found_lowest, found_none}
use Rattle.afr_discipline.proofs.heal_turns.first_of.Goals as goal

pub returns-then-is_empty : goal.returns-then-is_empty
returns-then-is_empty c = ap brick_of (sym (found_none c.args.n c.args.set c.common-few.result c.requires (c.common-few.ensures ∙ ap (λ (t : List ℕ). common c.args.set t) c.all.ensures) (sym c.is_empty.ensures ∙ c.if-is_empty.true)))

pub returns : goal.returns
returns c = rw (found_lowest c.args.n c.args.set c.common-few.result c.requires (c.common-few.ensures ∙ ap (λ (t : List ℕ). common c.args.set t) c.all.ensures) c.lowest.result.0 c.lowest.ensures.within c.lowest.ensures.least) refl

-- Some word is dashed exactly where the search stops at one.
use Rattle.std.proofs.Common.{rules, tests}
use Rattle.std.proofs.lemmas.Iterator.{cases_from_any, YieldsList-from_slice}
use Rattle.afr_words.specs.Forms.{IsDashed}
use Rattle.afr_words.proofs.RefusedLemmas.{Any-from_cases}
use Rattle.afr_words.proofs.refused.is_any_dashed.Goals as goal

pub returns : goal.returns
returns c =
    let words = c.args.words.now in
    Any-from_cases IsDashed _ words (cases_from_any _ _ _ IsDashed (λ w. IsDashed w → ⊥) c.any.ensures.ran (YieldsList-from_slice words cc) (λ x q k. search (rules, tests)) (λ x q k. search (rules, tests)))

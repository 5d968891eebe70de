-- An answered index leaves the round at its brick.
use Rattle.std.proofs.Common.{◌≡◌, ℕ, ◌+◌, ◌<◌, Bool, true, false, sym, subst, refl, if◌then◌else◌, is_some}
use Rattle.afr_base.specs.declared.ids.BrickId.{BrickId}
use Rattle.afr_heal_round.specs.List.Round.{RoundProgress, next_due, with_list}
use Rattle.afr_heal_round.specs.Rounding.{round_given, round_indexed}
use Rattle.afr_lines.specs.declared.answer.Answer.{Answer}
use Rattle.afr_lines.specs.declared.answer.Answer.TheVariants as answer_of

next_brick : (more : Bool) (r : RoundProgress) → (if more then record r { given = r.given + 1 } else r).brick ≡ r.brick
next_brick true r = refl
next_brick false r = refl

given_brick : (heals : Bool) (r : RoundProgress) → (round_given heals r).brick ≡ r.brick
given_brick true r = next_brick (is_some (next_due r)) r
given_brick false r = refl

indexed_brick : (heals : Bool) (answer : Answer) (r : RoundProgress) → (round_indexed heals answer r).brick ≡ r.brick
indexed_brick heals (answer_of.Index list) r = given_brick heals (with_list list r)
indexed_brick heals answer r = refl

pub indexed_within : (heals : Bool) (answer : Answer) (n : ℕ) (old new : RoundProgress) → new ≡ round_indexed heals answer old → old.brick.0 < n → new.brick.0 < n
indexed_within heals answer n old new is low = rw is (subst (λ (b : BrickId). b.0 < n) (sym (indexed_brick heals answer old)) low)

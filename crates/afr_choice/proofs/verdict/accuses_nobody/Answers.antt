use Rattle.std.proofs.Common.{◌≡◌, inl, inr, arith}
use Rattle.std.proofs.lemmas.Bool.{cases_lt}
use Rattle.afr_choice.specs.Verdict.{accuses_at}
use Rattle.afr_choice.proofs.Agreement.{none_of_five}
use Rattle.afr_choice.proofs.Unaccused.{and_no}
use Rattle.afr_choice.proofs.verdict.accuses_nobody.Goals as goal

pub loop-x-preserved : goal.loop-x-preserved
loop-x-preserved c = λ k b h l. elim (cases_lt k c.loop-x.x) [
  | inl low ↦ c.loop-x.invariant k b low l
  | inr high ↦ (let here : k ≡ c.loop-x.x = omega arith in rw here (and_no _ _ (c.accuses_some.ensures c.if-accuses_some.false b l)))
]

pub returns : goal.returns
returns c = λ yes b l. none_of_five (λ x. accuses_at c.args.kind x b c.args.looked.now) (λ x h. c.loop-x.invariant x b (omega arith) l)

-- Each page of the span gets its memory.
use Rattle.std.proofs.Common.{◌≡◌, ◌∙◌, inl, inr, arith}
use Rattle.std.proofs.lemmas.Bool.{cases_lt}
use Rattle.afr_content.proofs.pages.take_room.Goals as goal

pub loop-number-preserved : goal.loop-number-preserved
loop-number-preserved c = record {
  bytes = λ q. c.in_ok-reserve.ensures.bytes q ∙ c.in_ok-add.ensures.bytes q ∙ c.loop-number.invariant.bytes q;
  room = λ q h k. elim (cases_lt q c.loop-number.number) [
    | inl l ↦ omega (arith, c.loop-number.invariant.room q h l, c.in_ok-add.ensures.room q, c.in_ok-reserve.ensures.room q)
    | inr l ↦ (let here : q ≡ c.loop-number.number = omega arith in rw here (omega (arith, c.in_ok-reserve.ensures.ok)))
  ];
}

pub returns-clause-ok : goal.returns-clause-ok
returns-clause-ok c = λ q h. elim (cases_lt q c.loop-number.number) [ inl l ↦ c.loop-number.invariant.room q h l | inr l ↦ omega arith ]

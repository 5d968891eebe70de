-- Each page gets its part of the zeros.
use Rattle.std.proofs.Common.{◌≡◌, refl, sym, ◌∙◌, inl, inr, arith}
use Rattle.std.proofs.lemmas.Bool.{cases_lt}
use Rattle.afr_content.specs.Kept.{kept}
use Rattle.afr_content.proofs.Places.{cleared_none}
use Rattle.afr_content.proofs.pages.zero.Goals as goal

pub loop-number-init : goal.loop-number-init
loop-number-init c = record {
  done = λ q h. sym (cleared_none c.args.from c.args.to (kept c.args.pages.now.entries) q (c.requires.short q) (inl (omega arith)));
  left = λ q h. refl;
}

pub loop-number-preserved : goal.loop-number-preserved
loop-number-preserved c = record {
  done = λ q h. elim (cases_lt q c.loop-number.number) [
    | inl l ↦ c.zero_in.ensures.others q (λ e. omega arith) ∙ c.loop-number.invariant.done q l
    | inr l ↦ (let here : q ≡ c.loop-number.number = omega arith in rw (here, c.zero_in.ensures.bytes, c.loop-number.invariant.left c.loop-number.number (omega arith), c.saturating_sub.ensures) refl)
  ];
  left = λ q h. c.zero_in.ensures.others q (λ e. omega arith) ∙ c.loop-number.invariant.left q (omega arith);
}

pub returns : goal.returns
returns c = λ q. elim (cases_lt q c.loop-number.number) [
  | inl l ↦ c.loop-number.invariant.done q l
  | inr l ↦ c.loop-number.invariant.left q l ∙ sym (cleared_none c.args.from c.args.to (kept c.args.pages.now.entries) q (c.requires.short q) (inr (omega arith)))
]

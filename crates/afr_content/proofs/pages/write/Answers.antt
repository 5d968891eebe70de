-- Each page gets its part of the bytes.
use Rattle.std.proofs.Common.{◌≡◌, ℕ, refl, sym, ◌∙◌, inl, inr, arith}
use Rattle.std.proofs.lemmas.Bool.{cases_lt}
use Rattle.std.proofs.lemmas.List.{length-take, length-drop}
use Rattle.afr_content.specs.Kept.{kept}
use Rattle.afr_content.proofs.Places.{overlaid_none}
use Rattle.afr_content.proofs.pages.write.Goals as goal

pub loop-number-init : goal.loop-number-init
loop-number-init c = record {
  done = λ q h. sym (overlaid_none c.args.at c.args.bytes.now (kept c.args.pages.now.entries) q (omega arith));
  left = λ q h. refl;
  room = c.requires.room;
}

pub write_in-requires : goal.write_in-requires
write_in-requires c =
    let room = c.loop-number.invariant.room c.loop-number.number (omega arith) in
    omega (arith, length-take {A = ℕ}, length-drop {A = ℕ}, c.max-from.ensures, c.min-to.ensures, room)

pub loop-number-preserved : goal.loop-number-preserved
loop-number-preserved c = record {
  done = λ q h. elim (cases_lt q c.loop-number.number) [
    | inl l ↦ c.write_in.ensures.others q (λ e. omega arith) ∙ c.loop-number.invariant.done q l
    | inr l ↦ (let here : q ≡ c.loop-number.number = omega arith in rw (here, c.write_in.ensures.bytes, c.loop-number.invariant.left c.loop-number.number (omega arith), c.max-from.ensures, c.min-to.ensures) refl)
  ];
  left = λ q h. c.write_in.ensures.others q (λ e. omega arith) ∙ c.loop-number.invariant.left q (omega arith);
  room = λ q h. omega (arith, c.loop-number.invariant.room q h, c.write_in.ensures.room q);
}

pub returns : goal.returns
returns c = λ q. elim (cases_lt q c.loop-number.number) [
  | inl l ↦ c.loop-number.invariant.done q l
  | inr l ↦ c.loop-number.invariant.left q l ∙ sym (overlaid_none c.args.at c.args.bytes.now (kept c.args.pages.now.entries) q (omega arith))
]

-- Who was told so is passed over; whoever else is asked may ask.
use Rattle.std.proofs.Common.{◌∙◌, sym, inl, inr}
use Rattle.afr_live.proofs.rest.ask.Goals as goal

pub take_turn-requires-clause-free : goal.take_turn-requires-clause-free
take_turn-requires-clause-free g c = inl (sym (c.is_held.ensures c.requires.actor) ∙ c.if-is_held.false)

pub returns-then-is_held-clause-settled : goal.returns-then-is_held-clause-settled
returns-then-is_held-clause-settled g c = λ on same. inr (sym (c.is_held.ensures c.requires.actor) ∙ c.if-is_held.true)

use Rattle.std.proofs.Common.{◌∙◌, inl, inr, sym}
use Rattle.afr_workers.proofs.putting.is_over.Goals as goal

pub is_done-requires : goal.is_done-requires
is_done-requires c = record { actor = c.requires }

pub returns-then-is_done : goal.returns-then-is_done
returns-then-is_done c = λ over. inl (sym c.is_done.ensures ∙ c.if-is_done.true)

pub returns : goal.returns
returns c = λ over. inr (c.is_full.ensures.full over)

use Rattle.std.proofs.Common.{◌∙◌, inl, sym}
use Rattle.afr_workers.proofs.taking.can_go_on.Goals as goal

pub is_done-requires : goal.is_done-requires
is_done-requires c = record { actor = c.requires }

pub returns-then-is_done : goal.returns-then-is_done
returns-then-is_done c = λ off. inl (sym c.is_done.ensures ∙ c.if-is_done.true)

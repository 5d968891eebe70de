use Rattle.std.proofs.Common.{◌∙◌, ◌==◌, not, slice_index}
use Rattle.afr_base.proofs.OfFive.{member_picked}
use Rattle.afr_base.specs.Bricks.{member}
use Rattle.afr_discipline.proofs.FirstLemmas.{any_same}
use Rattle.afr_discipline.proofs.heals.accuses_some.Goals as goal

pub returns : goal.returns
returns c =
    c.has_some.ensures
    ∙ any_same 5 (member c.of_five-accused.result) (λ x. not (slice_index c.args.marks.now.pending x == 0))
    (λ x l. rw (c.of_five-accused.ensures, c.is_pending.ensures, c.is_pending-2.ensures, c.is_pending-3.ensures, c.is_pending-4.ensures, c.is_pending-5.ensures) (member_picked (λ y. not (slice_index c.args.marks.now.pending y == 0)) x l))

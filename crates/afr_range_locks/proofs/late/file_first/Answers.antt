-- The first of the row is in nobody's way.
use Rattle.std.proofs.Common.{◌≡◌, ◌∙◌, ap, sym, None, Ok, Some, slice_get}
use Rattle.std.proofs.lemmas.Option.{none-some}
use Rattle.afr_lines.specs.Locks.{first_conflict}
use Rattle.afr_range_locks.proofs.LateLemmas.{first_free}
use Rattle.afr_range_locks.proofs.late.file_first.Goals as goal

pub unreachable-requires : goal.unreachable-requires
unreachable-requires g c =
    let is : slice_get c.args.late.now.items 0 ≡ Some c.in-Some.first.now = rw (← c.deref.ensures.value) (sym c.in-Some.ensures.value) in
    let free : first_conflict g.A.Lockable.overlap c.in-Some.first.now c.args.filed.now ≡ None = first_free g.A.Lockable.overlap c.args.filed.now c.args.late.now.items c.in-Some.first.now is c.requires in
    none-some _ (sym free ∙ (c.lock.ensures.held c.in-Held.field-0 (c.in_ok-lock.was ∙ ap (λ got. Ok got) c.in-Held.is)).0)

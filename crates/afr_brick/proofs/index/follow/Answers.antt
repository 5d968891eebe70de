use Rattle.std.proofs.Common.{◌≡◌, Some, sym}
use Rattle.afr_object.specs.Tables.{copy_at}
use Rattle.afr_brick.proofs.index.follow.Goals as goal

pub returns : goal.returns
returns c =
    let there : copy_at c.args.g c.args.store.now.objects ≡ Some c.in-Some.object.now = sym c.in-Some.ensures.value in
    rw there (rw c.take.ensures.value at c.relist.ensures)

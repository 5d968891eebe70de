use Rattle.std.proofs.Common.{ap}
use Rattle.afr_object.specs.Tables.{copy_at}
use Rattle.afr_brick.proofs.Found.{present}
use Rattle.afr_brick.proofs.Made.{copies}
use Rattle.afr_brick.proofs.Mended.{renamed_same}
use Rattle.afr_brick.proofs.store.Store.put_names.Goals as goal

pub returns-then-has-clause-ok : goal.returns-then-has-clause-ok
returns-then-has-clause-ok c =
    let there = present (copy_at c.args.g c.args.self.now.objects) (λ e. let h = c.in_ok-has.ensures.absent.1 e in absurd (cc)) in
    let names = rw there.1 at (c.in_ok-has.ensures.has c.if-has.true) in
    rw c.in_ok-make_all.ensures.ok (ap (copies c.args.self.now.keeps) (renamed_same c.args.names.now c.args.g there.0 c.args.self.now.objects there.1 names))

use Rattle.std.proofs.Common.{ap}
use Rattle.afr_object.specs.Tables.{copy_at}
use Rattle.afr_brick.proofs.Found.{present}
use Rattle.afr_brick.proofs.Made.{copies}
use Rattle.afr_brick.proofs.Mended.{renamed_last}
use Rattle.afr_brick.proofs.store.Store.replace_names.Goals as goal

pub returns-clause-ok : goal.returns-clause-ok
returns-clause-ok c =
    let there = present (copy_at c.args.g c.args.self.now.objects) (λ e. let h = c.in_ok-find.ensures.absent.1 e in absurd (cc)) in
    rw (c.rename.ensures, c.in_ok-make_all.ensures.ok, c.in_ok-map.ensures)
    (ap (copies c.args.self.now.keeps) (renamed_last c.args.names.now c.args.g there.0 c.args.self.now.objects there.1))

use Rattle.std.proofs.Common.{◌≡◌, sym, true}
use Rattle.std.specs.Prelude.{is_some}
use Rattle.afr_object.specs.Tables.{copy_at}
use Rattle.afr_brick.proofs.Found.{found}
use Rattle.afr_brick.proofs.Made.{some_of}
use Rattle.afr_brick.proofs.store.Store.find.Goals as goal

pub returns-then-has-clause-absent : goal.returns-then-has-clause-absent
returns-then-has-clause-absent c =
    let test : is_some (copy_at c.args.g c.args.self.now.objects) ≡ true = sym c.if-has.ensures in
    let there = some_of (copy_at c.args.g c.args.self.now.objects) test in
    found _ _ there.0 there.1 (λ h. cc)

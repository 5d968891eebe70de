use Rattle.std.proofs.Common.{◌≡◌, sym, true}
use Rattle.std.specs.Prelude.{is_some}
use Rattle.afr_object.specs.Tables.{copy_at}
use Rattle.afr_brick.proofs.Found.{found}
use Rattle.afr_brick.proofs.Made.{some_of, name_alone}
use Rattle.afr_brick.proofs.store.Store.make.Goals as goal

pub returns-then-has-clause-ok : goal.returns-then-has-clause-ok
returns-then-has-clause-ok c =
    let dir : is_some (copy_at c.args.dir c.args.self.now.objects) ≡ true = sym c.if-not-has.ensures in
    let object : is_some (copy_at c.args.gfid c.args.self.now.objects) ≡ true = sym c.if-has.ensures in
    let there = some_of (copy_at c.args.dir c.args.self.now.objects) dir in
    let has = some_of (copy_at c.args.gfid c.args.self.now.objects) object in
    rw (name_alone c.args.dir c.args.name c.args.gfid c.args.what there.0 has.0 c.args.self.now.objects there.1 has.1) c.add_name.ensures.ok

pub returns-clause-absent : goal.returns-clause-absent
returns-clause-absent c =
    let dir : is_some (copy_at c.args.dir c.args.self.now.objects) ≡ true = sym c.if-not-has.ensures in
    let there = some_of (copy_at c.args.dir c.args.self.now.objects) dir in
    found c.make_new.result (copy_at c.args.dir c.args.self.now.objects) there.0 there.1 c.make_new.ensures.found

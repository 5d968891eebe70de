use Rattle.std.proofs.Common.{refl}
use Rattle.afr_server.proofs.carry_out.carry_out.Goals as goal

pub returns-in-Pre-clause-ok : goal.returns-in-Pre-clause-ok
returns-in-Pre-clause-ok c =
    let served = c.pre.ensures c.args.load in
    rw c.in-Pre.is (record { copies = served.copies; answered = served.answered; ranges = refl; names = refl })

pub returns-in-Post-clause-ok : goal.returns-in-Post-clause-ok
returns-in-Post-clause-ok c =
    let served = c.post.ensures c.args.load in
    rw c.in-Post.is (record { copies = served.copies; answered = served.answered; ranges = refl; names = refl })

pub returns-in-Settle-clause-ok : goal.returns-in-Settle-clause-ok
returns-in-Settle-clause-ok c =
    let served = c.settle.ensures c.args.load in
    rw c.in-Settle.is (record { copies = served.copies; answered = served.answered; ranges = refl; names = refl })

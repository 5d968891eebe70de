use Rattle.std.proofs.Common.{◌≡◌, Ok, Some}
use Rattle.afr_volume.proofs.Written.{ends_so}
use Rattle.afr_volume.proofs.actor.writes.Goals as goal

pub returns-in-Some-clause-ok : goal.returns-in-Some-clause-ok
returns-in-Some-clause-ok c =
    let said : c.end.result ≡ Ok (Some c.in-Some.reply) = cc in
    ends_so c.args.a c.args.position c.in-Some.reply c.args.actor.now _ c.args.servers.now _ _ _ (c.end.ensures.some c.in-Some.reply said c.args.position) c.ends.ensures

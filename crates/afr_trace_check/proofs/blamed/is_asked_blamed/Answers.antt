use Rattle.std.proofs.Common.{reverse}
use Rattle.afr_lines.specs.Work.{work}
use Rattle.afr_trace_check.proofs.BlamingLemmas.{grounds_are}
use Rattle.afr_trace_check.proofs.blamed.is_asked_blamed.Goals as goal

pub returns-in-Post : goal.returns-in-Post
returns-in-Post c = λ told took.
    rw (c.in-Post.is, c.has_grounds.ensures) (grounds_are c.args.plan.now c.in-Post.attempt c.in-Post.gfid c.in-Post.kind c.in-Post.missed c.args.b.0 (work c.args.a.0 (reverse c.args.log.now)) (reverse c.args.log.now))

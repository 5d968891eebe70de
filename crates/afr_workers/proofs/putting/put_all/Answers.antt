use Rattle.std.proofs.Common.{◌∙◌, refl}
use Rattle.afr_workers.proofs.WorkshopLemmas.{kept_here, kept_then}
use Rattle.afr_workers.proofs.putting.put_all.Goals as goal

pub loop-init : goal.loop-init
loop-init c = record { kept = kept_here c.args.x.now c.requires; volume = refl }

pub put_next-requires : goal.put_next-requires
put_next-requires c = c.loop.invariant.kept.shop

pub loop-preserved : goal.loop-preserved
loop-preserved c = record { kept = kept_then c.args.x.now c.loop.x c.put_next.new.x c.loop.invariant.kept c.put_next.ensures.kept; volume = c.put_next.ensures.volume ∙ c.loop.invariant.volume }

pub returns-then-not-put_next-clause-kept : goal.returns-then-not-put_next-clause-kept
returns-then-not-put_next-clause-kept c = kept_then c.args.x.now c.loop.x c.put_next.new.x c.loop.invariant.kept c.put_next.ensures.kept

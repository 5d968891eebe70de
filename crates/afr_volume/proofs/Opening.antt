-- What a volume keeps before its first line.
use Rattle.std.proofs.Common.{◌≡◌, ℕ, ◌+◌, List, [], refl, arith, length, sym, ◌∙◌, Bool, false}
use Rattle.afr_lines.specs.declared.line.Line.{Line}
use Rattle.afr_plan.specs.declared.plan.Plan.{Plan}
use Rattle.afr_server.specs.Serving.{Serving}
use Rattle.afr_servers.specs.NextLine.{NewAreServed}
use Rattle.afr_servers.specs.Opening.{AreNew}
use Rattle.afr_healer.specs.Acting.{IsNewHealer}
use Rattle.afr_healer.specs.Keeping.{IsHealer}
use Rattle.afr_healer.specs.declared.healer.Healer.{Healer}
use Rattle.afr_volume.specs.Keeping.{CanRun, IsActing, IsVolume, IsWhole}
use Rattle.afr_volume.specs.Laws.{PaceLaws}
use Rattle.afr_volume.specs.Starting.{AreNewActors, AreNewHealers, IsNewActor}
use Rattle.afr_volume.specs.declared.actor.Actor.{Actor}
use Rattle.afr_volume.proofs.PaceEvents.{fresh_paced}

-- an actor that has begun nothing stands for no line
opens_idle : (p : Plan) (servers : List Serving) (a : ℕ) (x : Actor) → IsNewActor x → IsActing p [] a servers x
opens_idle p servers a x k = record {
  ended_is = k.ended;
  killed_is = k.killed;
  carries = rw k.idle (record { unmet = k.met; fresh = refl; none = refl });
  unpicked = λ none. k.unpicked;
  reads = record {
    keeps = λ command is. rw k.idle tt;
    fresh = λ e. refl;
    within = λ e. absurd (cc (sym e ∙ k.met));
  };
}

pub fresh_volume : {crawl : Bool} (laws : NewAreServed) (p : Plan) (log : List Line) (servers : List Serving) (actors : List Actor) → CanRun p → log ≡ [] → AreNew p servers → AreNewActors (length p.clients) actors → IsVolume crawl p log servers actors 0
fresh_volume laws p log servers actors run none opened idle = rw none (record {
  runnable = run;
  room = omega arith;
  served = laws p servers run.few opened;
  same = idle.many;
  each = λ i x h. opens_idle p servers (i + 1) x (idle.each i x h);
  made_is = refl;
  follows = tt;
  honest = tt;
  lawful = tt;
  replied = tt;
  blamed = tt;
  names = tt;
})

-- a healer that has begun nothing stands for no line
opens_resting : {crawl : Bool} (p : Plan) (servers : List Serving) (a : ℕ) (x : Healer) → IsNewHealer x → IsHealer crawl p [] a servers x
opens_resting p servers a x k = record {
  ended_is = k.ended;
  killed_is = k.killed;
  carries = rw k.idle (record { unmet = k.met; fresh = refl; none = refl });
}

pub fresh_whole : (paces : PaceLaws) (laws : NewAreServed) (p : Plan) (log : List Line) (servers : List Serving) (actors : List Actor) (healers : List Healer) → CanRun p → log ≡ [] → AreNew p servers → AreNewActors (length p.clients) actors → AreNewHealers (length p.healers) healers
    → IsWhole false p log servers actors healers 0
fresh_whole paces laws p log servers actors healers run none opened idle resting = record {
  kept = fresh_volume laws p log servers actors run none opened idle;
  healing = rw none (record { same = resting.many; each = λ i x h. opens_resting p servers (17 + i) x (resting.each i x h) });
  pacing = rw none (fresh_paced paces p actors healers idle resting);
  crawling = λ crawls. absurd (cc crawls);
}

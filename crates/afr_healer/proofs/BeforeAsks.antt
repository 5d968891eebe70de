-- What is known of a request of any actor before and after it is asked.
use Rattle.std.proofs.Common.{◌≡◌, ◌∙◌, ◌<◌, ◌≤◌, Bool, true, not, List, ◌∷◌, refl, sym, arith, subst, length, None, Some, slice_get}
use Rattle.afr_base.specs.declared.ids.ActorId.{ActorId}
use Rattle.afr_base.specs.declared.ids.BrickId.{BrickId}
use Rattle.afr_discipline.specs.Notes.{noted_ask}
use Rattle.afr_discipline.specs.Stands.{HasFive}
use Rattle.afr_discipline.specs.declared.register.Register.{Register}
use Rattle.afr_faults.specs.Planned.{next_fault}
use Rattle.afr_law.specs.Exactly.{IsLawfulExactly}
use Rattle.afr_law.specs.ModelCovered as law
use Rattle.afr_law.specs.ModelNext.{MayAskNext, asking}
use Rattle.afr_law.specs.ModelNext as law_next
use Rattle.afr_lines.specs.Places.{opens, place_of}
use Rattle.afr_lines.specs.Told.{told_by}
use Rattle.afr_lines.specs.declared.answer.Told.{Told}
use Rattle.afr_lines.specs.declared.answer.Told.TheVariants as as_told
use Rattle.afr_lines.specs.declared.line.Line.{Line}
use Rattle.afr_lines.specs.declared.line.Line.TheVariants.{Ask}
use Rattle.afr_lines.specs.declared.request.Request.{Request}
use Rattle.afr_lines.specs.declared.request.Request.TheVariants as request
use Rattle.afr_model.specs.Honest.{Honest, answer_by}
use Rattle.afr_model.specs.Locks.{locks_held}
use Rattle.afr_model.specs.Tables.{held_before, holds}
use Rattle.afr_model_moves.specs.Covering.{HasItsLocks}
use Rattle.afr_model_moves.specs.Ranges.{RequestInRange}
use Rattle.afr_law_next.specs.Asked.{AllowedMayBeAsked, AnsweredIsLawful, AskedIsNoted}
use Rattle.afr_law_next.specs.Ready.{IsReady, NextIsReady}
use Rattle.afr_law_next.specs.Standing.{AllStand}
use Rattle.afr_object.specs.declared.change.Load.{Load}
use Rattle.afr_plan.specs.declared.plan.Plan.{Plan}
use Rattle.afr_server.specs.Carried.{Brings, CanLock}
use Rattle.afr_server.specs.NextLine.{told_line}
use Rattle.afr_server.specs.Outcome.{is_carried_out}
use Rattle.afr_server.specs.Serving.{Serving}
use Rattle.afr_server.specs.declared.server.Served.{Served}
use Rattle.afr_servers.specs.Log.{AreServed}
use Rattle.afr_servers.specs.Needs.{AnswersAreRead, NeedsAreMet}
use Rattle.afr_servers.specs.Needs as needs
use Rattle.afr_servers.specs.NextLine.{AskedAreServed, GoOnHonestly}
use Rattle.afr_servers.specs.Visiting.{AreInSession, CanAsk, ServesNext, has_live}
use Rattle.afr_servers.specs.declared.epochs.Epochs.{Epochs}
use Rattle.afr_law_next.specs.Turn.{InForce}
use Rattle.afr_discipline.specs.Free.{AllowsAsk}
use Rattle.afr_healer.proofs.AsksGiven.{given_is}

-- the laws of the crates below that a request rests on
pub record AskLaws : Type 0 where
  pub asks : AllowedMayBeAsked
  pub noted : AskedIsNoted
  pub lawful : AnsweredIsLawful
  pub ready : NextIsReady
  pub needs : NeedsAreMet
  pub asked : AskedAreServed
  pub answers : AnswersAreRead

-- what holds before any line of an actor
pub record IsBeforeAsk (p : Plan) (a : ActorId) (log : List Line) (servers : List Serving) : Type 0 where
  pub few : p.shape.n ≤ 5
  pub known : a.0 < 20
  pub short : length log < 4000000
  pub served : AreServed p log servers
  pub honest : Honest p log
  pub lawful : IsLawfulExactly p log

-- the register in force allows the request, it goes over the sessions that the log has, and what goes with it is what the log gives it
pub record AsksNext (p : Plan) (a : ActorId) (log : List Line) (met : Bool) (epochs : Epochs) (servers : List Serving) (Carries : Load → Type 0) (b : BrickId) (asked : Request) (register : Register) : Type 0 where
  pub five : HasFive register
  pub opened : (told : Told) (took : Bool) → opens (place_of a.0 log) (Ask a b asked told took) ≡ not met
  pub in_force : InForce p.shape a.0 log (asking a b asked) register
  pub allows : AllowsAsk register b asked
  pub low : b.0 < 5
  pub sessions : AreInSession met a.0 epochs servers
  pub brings : (load : Load) → Carries load → Brings asked load log (held_before p log)

-- what holds of a line that was asked so: it is honest and lawful, and the servers are those of the log with it; what was given is what the log has for it; and the register that notes the answer stands, as all others do
pub record IsAskedSo (p : Plan) (a : ActorId) (log : List Line) (servers new : List Serving) (after : Epochs) (b : BrickId) (asked : Request) (register : Register) (given : Served) : Type 0 where
  pub may : MayAskNext p a b asked log
  pub go_on : GoOnHonestly p log a (told_line a b asked given) after servers new
  pub lawful : IsLawfulExactly p (told_line a b asked given ∷ log)
  pub full : told_by given.answer ≡ as_told.Given → given.answer ≡ answer_by None asked (holds p log b.0) log
  pub stand : AllStand p.shape a (told_line a b asked given) log (noted_ask register (length log) b.0 asked (told_by given.answer))

module _ (laws : AskLaws) (p : Plan) (a : ActorId) (log : List Line) (servers : List Serving) (before : IsBeforeAsk p a log servers)
    (met : Bool) (epochs : Epochs) (Carries : Load → Type 0) (b : BrickId) (asked : Request) (register : Register) (n : AsksNext p a log met epochs servers Carries b asked register) (fits : RequestInRange asked) where
  -- ---- what is asked
  pub may : MayAskNext p a b asked log
  may = laws.asks p log a b asked register before.few n.five n.in_force n.allows n.low (omega (arith, before.known), omega (arith, n.low), fits, tt)

  ready : IsReady p a b asked log
  ready = laws.ready p log a b asked before.few before.short before.honest before.lawful may

  can_lock : (of : Request) → asked ≡ of → CanLock of
  can_lock (request.Lock domain area) is = laws.needs.lock domain area (ready.locks domain area is)
  can_lock (request.Unlock domain area) is = tt
  can_lock (request.Look g) is = tt
  can_lock (request.ReadBytes g at len) is = tt
  can_lock (request.ReadName g name) is = tt
  can_lock (request.List g) is = tt
  can_lock (request.ReadAttr g key) is = tt
  can_lock (request.ReadAttrs g) is = tt
  can_lock request.Index is = tt
  can_lock (request.Pre g kind) is = tt
  can_lock (request.Apply attempt) is = tt
  can_lock (request.Post attempt g kind missed) is = tt
  can_lock (request.Mend repair) is = tt
  can_lock (request.Settle g kind less) is = tt

  change_same : (of : Request) → law.change_for of log ≡ needs.change_for of log
  change_same (request.Lock domain area) = refl
  change_same (request.Unlock domain area) = refl
  change_same (request.Look g) = refl
  change_same (request.ReadBytes g at len) = refl
  change_same (request.ReadName g name) = refl
  change_same (request.List g) = refl
  change_same (request.ReadAttr g key) = refl
  change_same (request.ReadAttrs g) = refl
  change_same request.Index = refl
  change_same (request.Pre g kind) = refl
  change_same (request.Apply attempt) = refl
  change_same (request.Post attempt g kind missed) = refl
  change_same (request.Mend repair) = refl
  change_same (request.Settle g kind less) = refl

  locked : law_next.is_carried_out p a b asked log ≡ true → HasItsLocks (locks_held b.0 log) a asked (needs.change_for asked log)
  locked k = subst (HasItsLocks (locks_held b.0 log) a asked) (change_same asked) (ready.covered k)

  -- where its server would carry the request out, so would the log
  taken : (s : Serving) → slice_get servers b.0 ≡ Some s → is_carried_out (has_live met a epochs b.0 s) (next_fault s.faults) ≡ true → law_next.is_carried_out p a b asked log ≡ true
  taken s is took = sym (laws.needs.carries p log a met epochs b asked servers before.known before.served n.sessions (n.opened _ _) s is) ∙ took

  -- what the bricks need for it is there
  pub can_ask : (load : Load) → Carries load → CanAsk a (record { met = met; epochs = epochs }) b asked load servers
  can_ask load carries = record {
    there = omega (arith, may.1.0, before.served.few);
    count = λ s is. (laws.needs.room p log b.0 servers before.served before.short s is).0;
    lock = can_lock asked refl;
    can = λ s is took. laws.needs.can p log b asked load servers before.served (ready.carries (taken s is took)) (n.brings load carries) s is;
    covered = λ s is took. laws.needs.covered p log a b asked load servers before.served (locked (taken s is took)) (n.brings load carries) s is;
  }

  -- ---- what was asked
  module _ (load : Load) (new : List Serving) (after : Epochs) (given : Served) (carries : Carries load) (serves : ServesNext met a b asked load epochs servers new after given) where
    go_on : GoOnHonestly p log a (told_line a b asked given) after servers new
    go_on = laws.asked p log a met epochs after b asked load servers new given before.few before.known before.served n.sessions (n.opened (told_by given.answer) given.took) (λ s is carried. n.brings load carries) serves

    pub asked_so : IsAskedSo p a log servers new after b asked register given
    asked_so = record {
      may = may;
      go_on = go_on;
      lawful = laws.lawful p log a b asked (told_by given.answer) given.took before.few before.short before.honest before.lawful may go_on.0;
      full = given_is p a b asked given log go_on.0 (laws.answers p log a met epochs after b asked load servers new given before.served serves);
      stand = laws.noted p log a b asked register (told_by given.answer) given.took before.few n.five n.in_force n.allows n.low;
    }

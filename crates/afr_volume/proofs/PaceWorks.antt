-- One line of a client: it is within the cost of its command, and its lock is asked in order.
use Rattle.std.proofs.Common.{◌≡◌, ◌∙◌, ℕ, ◌+◌, ◌≤◌, Bool, true, false, List, [], ◌∷◌, refl, sym, ap, arith, subst, length, None, Some, inl, inr, map, slice_get, nat_lt}
use Rattle.std.specs.Prelude.{option_map}
use Rattle.std.proofs.lemmas.Bool.Decides.{nat_tests}
use Rattle.std.proofs.lemmas.Option.{slice_get-map}
use Rattle.afr_base.specs.declared.ids.ActorId.{ActorId}
use Rattle.afr_base.specs.declared.ids.BrickId.{BrickId}
use Rattle.afr_law_bound.specs.Ends.Cost.{IsWithinCost, cost_of, costs_of, counted}
use Rattle.afr_law_names.specs.Descent.Descent.{IsOfPlan}
use Rattle.afr_discipline.specs.declared.register.Register.{Register}
use Rattle.afr_lines.specs.Work.{ended, is_end, is_of, work}
use Rattle.afr_lines.specs.Told.{told_by}
use Rattle.afr_lines.specs.declared.answer.Told.{Told}
use Rattle.afr_lines.specs.declared.line.Heard.{Heard}
use Rattle.afr_lines.specs.declared.line.Heard.TheVariants as heard_of
use Rattle.afr_lines.specs.declared.line.Line.{Line}
use Rattle.afr_lines.specs.declared.line.Line.TheVariants.{Ask, Begin, End}
use Rattle.afr_lines.specs.declared.line.Next.{Next}
use Rattle.afr_lines.specs.declared.line.Next.TheVariants as next
use Rattle.afr_lines.specs.declared.reply.Reply.{Reply}
use Rattle.afr_lines.specs.declared.request.Request.{Request}
use Rattle.afr_lines.specs.declared.request.Request.TheVariants as request
use Rattle.afr_model.specs.Actors.{script_of}
use Rattle.afr_model.specs.Honest.{IsHonest}
use Rattle.afr_object.specs.declared.change.Change.{Change}
use Rattle.afr_plan.specs.declared.command.Command.{Command}
use Rattle.afr_plan.specs.declared.plan.Plan.{Plan}
use Rattle.afr_lines.specs.declared.lock.Domain.TheVariants.{Heal, Work as WorkDomain}
use Rattle.afr_server.specs.Serving.{Serving}
use Rattle.afr_law_bound.specs.Standstill.Order.{IsRisingLine}
use Rattle.afr_client_walk.specs.Choosing.{IsAmong, reader_of}
use Rattle.afr_law_order.specs.Work.Logs.{IsNotedAt}
use Rattle.afr_law_pace.specs.Work.Left.{work_left}
use Rattle.afr_client.specs.Work.{IsBusy, choices_of, heard_by, next_of, register_of}
use Rattle.afr_client.specs.declared.work.WorkMachine.{WorkMachine}
use Rattle.afr_client.specs.declared.work.WorkMachine.TheVariants.{Entry, Idle, Lookup, Rename, Write}
use Rattle.afr_volume.specs.Acting.{HearsAny, IsAsked, IsBegun, IsEnded, Stepped, SteppedBy}
use Rattle.afr_volume.specs.Keeping.{CarriesOutCommand, IsActing, IsNoted}
use Rattle.afr_volume.specs.Laws.{PaceLaws}
use Rattle.afr_volume.specs.Pacing.{HasLeft, IsPaced}
use Rattle.afr_volume.specs.Turning.{Readies}
use Rattle.afr_volume.specs.declared.actor.Actor.{Actor}
use Rattle.afr_volume.proofs.LineKeeps.{self}
use Rattle.afr_volume.proofs.PaceLines.{has_left, is_within, unlock_fits}
use Rattle.afr_volume.proofs.TurnKeeps.{between}
use Rattle.afr_law_picks.proofs.Kept.{one_among}

-- what a client's line keeps of its pace
pub record LinePaced (p : Plan) (a : ℕ) (log : List Line) (line : Line) (after : WorkMachine) : Type 0 where
  pub rising : IsRisingLine p line log
  pub within : IsWithinCost p line log
  pub paced : IsPaced p a (line ∷ log) after

still_busy : (chosen : BrickId) (of : Heard) (w : WorkMachine) → IsBusy w → IsBusy (heard_by chosen of w)
still_busy chosen of Idle busy = busy
still_busy chosen of (Lookup m) busy = busy
still_busy chosen of (Write m) busy = busy
still_busy chosen of (Entry m) busy = busy
still_busy chosen of (Rename m) busy = busy

-- the register of a work stands for its lines, or there are none yet
noted_at : (met : Bool) (p : Plan) (a : ℕ) (log : List Line) (r : Register) → IsNoted met p.shape a log r → IsNotedAt p a log r
noted_at true p a log r k = inl k
noted_at false p a log r k = inr k

module _ (paces : PaceLaws) (p : Plan) (a : ActorId) (log : List Line) (servers new : List Serving) (x y : Actor) (written : Line) (of : IsOfPlan p log) (client : a.0 ≤ 16) (c : CarriesOutCommand p a.0 log x.visit.met x.visit.epochs servers x.work) (busy : IsBusy x.work) (k : IsPaced p a.0 log x.work) where
  -- a line that isn't the last leaves so many lines less
  goes_on : (line : Line) (after : WorkMachine) → is_of a.0 line ≡ true → is_end line ≡ false → IsBusy after → work_left after + counted line ≤ work_left x.work → IsWithinCost p line log × HasLeft p a.0 (line ∷ log) (work_left after)
  goes_on line after own more still nearer = (
    is_within p a.0 line log (work_left x.work) own k.within (rw more (let some = paces.ends after still in omega (arith, some, nearer))),
    has_left p a.0 line log (work_left x.work) own k.within more (work_left after) nearer,
  )

  -- ---- a request
  module _ (b : BrickId) (asked : Request) (e : next_of (length log) x.work ≡ next.Ask b asked) (s : IsAsked HearsAny a (length log) b asked x y servers new written) where
    abbrev line : Line
    line = Ask a b asked (told_by s.given.answer) s.given.took

    abbrev chosen : BrickId
    chosen = reader_of s.heard.picked

    abbrev after : WorkMachine
    after = heard_by chosen (heard_of.Answer s.given.answer (length log)) x.work

    among : IsAmong (choices_of s.given.answer (length log) x.work) chosen
    among = one_among (choices_of s.given.answer (length log) x.work) s.heard.picked s.heard.hears.among

    rises : (asked : Request) → next_of (length log) x.work ≡ next.Ask b asked → (told : Told) (took : Bool) → IsRisingLine p (Ask a b asked told took) log
    rises (request.Lock WorkDomain area) e told took = paces.rises p log c.command x.work a b area (length log) of client c.present c.sound c.tells (noted_at x.visit.met p a.0 log (register_of x.work) c.noted) k.queued e told took
    rises (request.Lock Heal area) e told took = tt
    rises (request.Unlock domain area) e told took = tt
    rises (request.Look g) e told took = tt
    rises (request.ReadBytes g at len) e told took = tt
    rises (request.ReadName g name) e told took = tt
    rises (request.List g) e told took = tt
    rises (request.ReadAttr g key) e told took = tt
    rises (request.ReadAttrs g) e told took = tt
    rises request.Index e told took = tt
    rises (request.Pre g kind) e told took = tt
    rises (request.Apply attempt) e told took = tt
    rises (request.Post attempt g kind missed) e told took = tt
    rises (request.Mend repair) e told took = tt
    rises (request.Settle g kind less) e told took = tt

    nearer : IsHonest p line log → work_left after + counted line ≤ work_left x.work
    nearer honest = paces.asked x.work c.sound (length log) b asked e chosen s.given.answer among (unlock_fits p a b asked (told_by s.given.answer) s.given.took log honest) a s.given.took

    becomes : y.work ≡ after
    becomes = ap (λ (z : Actor). z.work) s.heard.becomes ∙ s.heard.hears.value

    ask_paced : IsHonest p line log → LinePaced p a.0 log line after
    ask_paced honest = let on = goes_on line after (self a.0) refl (still_busy chosen (heard_of.Answer s.given.answer (length log)) x.work busy) (nearer honest) in record {
      rising = rises asked e (told_by s.given.answer) s.given.took;
      within = on.0;
      paced = record { within = on.1; queued = paces.stays x.work c.sound k.queued (length log) b asked e chosen s.given.answer among };
    }

    asked_paced : IsHonest p written log → LinePaced p a.0 log written y.work
    asked_paced honest = rw (s.is_line, becomes) (ask_paced (subst (λ (l : Line). IsHonest p l log) s.is_line honest))

  -- ---- an attempt begins
  module _ (change : Change) (e : next_of (length log) x.work ≡ next.Begin change) (s : IsBegun a (length log) change x y servers new written) where
    abbrev begun : WorkMachine
    begun = heard_by (reader_of None) (heard_of.Begun (length log)) x.work

    begin_paced : LinePaced p a.0 log (Begin a change) begun
    begin_paced =
        let on = goes_on (Begin a change) begun (self a.0) refl (still_busy (reader_of None) (heard_of.Begun (length log)) x.work busy) (paces.begun x.work (length log) change e (reader_of None) a) in record {
          rising = tt;
          within = on.0;
          paced = record { within = on.1; queued = paces.begun_queued x.work c.sound k.queued (length log) change e (reader_of None) };
        }

    begun_paced : LinePaced p a.0 log written y.work
    begun_paced = rw (s.is_line, ap (λ (z : Actor). z.work) s.becomes) begin_paced

  -- ---- a work ends
  module _ (said : Reply) (s : IsEnded a said x y servers new written) where
    end_paced : LinePaced p a.0 log (End a said) Idle
    end_paced = record {
      rising = tt;
      within = is_within p a.0 (End a said) log (work_left x.work) (self a.0) k.within (let some = paces.ends x.work busy in omega (arith, some));
      paced = record { within = λ cost is. rw (self a.0) (omega arith); queued = tt };
    }

    ended_paced : LinePaced p a.0 log written y.work
    ended_paced = rw (s.is_line, ap (λ (z : Actor). z.work) s.becomes) end_paced

  pub line_paced : IsHonest p written log → Stepped HearsAny a (length log) x y servers new written → LinePaced p a.0 log written y.work
  line_paced honest s = by_next (next_of (length log) x.work) refl s
    where
      by_next : (n : Next) → next_of (length log) x.work ≡ n → SteppedBy HearsAny a (length log) x y servers new written n → LinePaced p a.0 log written y.work
      by_next (next.Ask b asked) e s = asked_paced b asked e s honest
      by_next (next.Begin change) e s = begun_paced change e s
      by_next (next.End said) e s = ended_paced said s
      by_next (next.HealBegin g kind) e s = absurd s
      by_next (next.HealEnd g kind said) e s = absurd s

-- ---- a command begins
-- what a client's command may cost
cost_is : (p : Plan) (a k cost : ℕ) (command : Command) → a ≤ 16 → slice_get (script_of p a) k ≡ Some command → slice_get (costs_of p a) k ≡ Some cost → cost_of p.shape.n command ≡ cost
cost_is p a k cost command client is costs =
    let few : nat_lt 16 a ≡ false = grind (arith, nat_tests, client) in
    let of_script : slice_get (map (cost_of p.shape.n) (script_of p a)) k ≡ Some cost = rw few at costs in
    let mine : option_map (cost_of p.shape.n) (slice_get (script_of p a) k) ≡ Some cost = sym (slice_get-map (cost_of p.shape.n) (script_of p a) k) ∙ of_script in
    let some : Some (cost_of p.shape.n command) ≡ Some cost = rw is at mine in
    cc some

pub begins_paced : (paces : PaceLaws) (p : Plan) (a : ℕ) (log : List Line) (servers : List Serving) (x z : Actor) → a ≤ 16 → IsActing p log a servers x → Readies p a x z → IsPaced p a log x.work → IsPaced p a log z.work
begins_paced paces p a log servers x z client k (inl same) paced = subst (λ (z : Actor). IsPaced p a log z.work) (sym same) paced
begins_paced paces p a log servers x z client k (inr r) paced = subst (λ (z : Actor). IsPaced p a log z.work) (sym r.3) (record {
  within = λ cost is.
      let none : work a log ≡ [] = (between p log a servers x k r.0).none in
      let same = cost_is p a (ended a log) cost r.1 client (rw k.ended_is at r.2) is in
      let few = paces.start p.shape r.1 in
      rw none (omega (arith, same, few));
  queued = paces.queues p.shape r.1;
})

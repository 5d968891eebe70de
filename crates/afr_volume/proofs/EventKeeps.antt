-- An event keeps what a volume keeps.
use Rattle.std.proofs.Common.{◌≡◌, ◌∙◌, ℕ, ◌+◌, ◌<◌, ◌≤◌, ◌||◌, Bool, true, false, List, [], ◌∷◌, ◌++◌, reverse, refl, sym, ap, arith, subst, length, Option, Some, None, slice_get, get_or, if◌then◌else◌, nat_lt, nat_le}
use Rattle.std.proofs.lemmas.Bool.Decides.{nat_tests}
use Rattle.std.proofs.lemmas.Option.{slice_get-get_or, slice_get_within}
use Rattle.afr_base.specs.Bricks.{IsWithin}
use Rattle.afr_base.specs.SetLemmas.{within_added_if, within_below, within_removed_if}
use Rattle.afr_lines.specs.Work.{events_made, is_event, kills}
use Rattle.afr_lines.specs.declared.line.Event.{Event}
use Rattle.afr_lines.specs.declared.line.Event.TheVariants.{Cut, Join, Kill, Start, Stop}
use Rattle.afr_lines.specs.declared.line.Line.{Line}
use Rattle.afr_lines.specs.declared.line.Line.TheVariants as line_of
use Rattle.afr_model.specs.Following.{Follows}
use Rattle.afr_model.specs.Report.{started_after, started_bricks}
use Rattle.afr_model_moves.specs.Ranges.{InRange}
use Rattle.afr_law_next.specs.Happened.{EventKeepsAll}
use Rattle.afr_plan.specs.declared.plan.Plan.{Plan}
use Rattle.afr_plan.specs.declared.schedule.PlannedEvent.{PlannedEvent}
use Rattle.afr_server.specs.Serving.{Serving}
use Rattle.afr_servers.specs.Calls.{MeetsEach}
use Rattle.afr_servers.specs.Log.{AreFound, AreServed}
use Rattle.afr_servers.specs.NextLine.{EventAreServed}
use Rattle.afr_servers.specs.declared.epochs.Epochs.{Epochs}
use Rattle.afr_healer.specs.declared.healer.Healer.{Healer}
use Rattle.afr_volume.specs.Keeping.{CanRun, IsActing, IsEventOf, IsVolume, IsWhole}
use Rattle.afr_volume.specs.Turning.{HasHealer, HasVictim, KillsHealersIn, KillsIn, due_at, if_due}
use Rattle.afr_volume.specs.declared.actor.Actor.{Actor}
use Rattle.afr_volume.specs.Laws.{EventLaws, PaceLaws, RoundLaws}
use Rattle.afr_volume.proofs.Before.{client_is, healer_is}
use Rattle.afr_volume.proofs.HealersKeep.{healers_happen}
use Rattle.afr_volume.proofs.LineKeeps.{stays}
use Rattle.afr_volume.proofs.ReadingLemmas.{reading_stays}
use Rattle.afr_volume.proofs.LogLemmas.{reverse_push}
use Rattle.afr_volume.proofs.PaceEvents.{event_paced}
use Rattle.afr_volume.proofs.TaskLemmas.{killed_crawl}
use Rattle.afr_volume.proofs.HealerTurn.{above}

-- ---- the event that is due
pub record IsDueNow (p : Plan) (log : List Line) (event : Event) : Type 0 where
  pub room : length log < p.turns
  pub planned : PlannedEvent
  pub next : slice_get p.events (events_made log) ≡ Some planned
  pub same : planned.event ≡ event
  pub come : planned.at ≤ length log

due_in : (p : Plan) (log : List Line) (event : Event) (next : Option PlannedEvent) → length log < p.turns → slice_get p.events (events_made log) ≡ next → if_due (length log) next ≡ Some event → IsDueNow p log event
due_in p log event None room e k = absurd (cc k)
due_in p log event (Some planned) room e k = by_time (nat_le planned.at (length log)) refl k
  where
    by_time : (time : Bool) → nat_le planned.at (length log) ≡ time → (if time then Some planned.event else None) ≡ Some event → IsDueNow p log event
    by_time false f k = absurd (cc k)
    by_time true f k = record { room = room; planned = planned; next = e; same = cc k; come = grind (arith, nat_tests, f) }

pub due_gives : (p : Plan) (log : List Line) (event : Event) → due_at p log ≡ Some event → IsDueNow p log event
due_gives p log event k = by_room (nat_lt (length log) p.turns) refl k
  where
    by_room : (room : Bool) → nat_lt (length log) p.turns ≡ room → (if room then if_due (length log) (slice_get p.events (events_made log)) else None) ≡ Some event → IsDueNow p log event
    by_room false f k = absurd (cc k)
    by_room true f k = due_in p log event (slice_get p.events (events_made log)) (grind (arith, nat_tests, f)) refl k

pub few_events : (log : List Line) → events_made log ≤ length log
few_events [] = omega arith
few_events (line ∷ older) = by_event (is_event line) (few_events older)
  where
    by_event : (flag : Bool) → events_made older ≤ length older → (if flag then events_made older + 1 else events_made older) ≤ length (line ∷ older)
    by_event true h = omega (arith, h)
    by_event false h = omega (arith, h)

-- ---- the actors
module _ (p : Plan) (c : ℕ) (event : Event) (log : List Line) (old new : List Serving) (laws : EventKeepsAll) (fits : InRange (line_of.Event event)) (found : (epochs : Epochs) → AreFound c epochs old → AreFound c epochs new) where
  pub still_acting : (x y : Actor) → y ≡ record x { killed = kills c (line_of.Event event) || x.killed } → IsActing p log c old x → IsActing p (line_of.Event event ∷ log) c new y
  still_acting x y e k = subst (λ (z : Actor). IsActing p (line_of.Event event ∷ log) c new z) (sym e) (record {
    ended_is = k.ended_is;
    killed_is = ap (λ (dead : Bool). kills c (line_of.Event event) || dead) k.killed_is;
    carries = stays p c (line_of.Event event) log old new refl refl refl ((laws p log event fits).stand c) found x.visit.met x.visit.epochs x.work k.carries;
    unpicked = λ none. absurd (cc none);
    reads = reading_stays p c (line_of.Event event) log x.visit.met x.picked x.work refl refl refl k.reads;
  })

-- ---- the whole volume
pub kept_event : {crawl : Bool} (happened : EventKeepsAll) (comes : EventAreServed) (p : Plan) (log : List Line) (servers new : List Serving) (actors after : List Actor) (made : ℕ) (event : Event)
    → IsVolume crawl p log servers actors made → InRange (line_of.Event event) → IsDueNow p log event → MeetsEach event servers new → KillsIn event actors after → IsVolume crawl p (line_of.Event event ∷ log) new after (made + 1)
kept_event happened comes p log servers new actors after made event v fits due meets kills = record {
  runnable = v.runnable;
  room = due.room;
  served = served.0;
  same = kills.count ∙ v.same;
  each = each;
  made_is = ap (λ (n : ℕ). n + 1) v.made_is;
  follows = ((due.room, record { planned = due.planned; next = due.next; same = due.same; due = due.come }), v.follows);
  honest = (tt, v.honest);
  lawful = (happened p log event fits).lawful v.lawful;
  replied = (tt, v.replied);
  blamed = (tt, v.blamed);
  names = (tt, v.names);
}
  where
    served : AreServed p (line_of.Event event ∷ log) new × ((c : ℕ) (its : Epochs) → AreFound c its servers → AreFound c its new)
    served = comes p log event servers new v.runnable.few v.served meets

    each : (i : ℕ) (y : Actor) → slice_get after i ≡ Some y → IsActing p (line_of.Event event ∷ log) (i + 1) new y
    each i y h =
        let there = slice_get-get_or actors i y (omega (arith, slice_get_within after i y h, kills.count)) in
        still_acting p (i + 1) event log servers new happened fits (served.1 (i + 1)) (get_or actors i y) y (kills.each i (get_or actors i y) y there h) (v.each i (get_or actors i y) there)

-- the same of the log as the code keeps it
pub happened : {crawl : Bool} (laws : EventLaws) (p : Plan) (items added : List Line) (servers new : List Serving) (actors after : List Actor) (made : ℕ) (event : Event)
    → IsVolume crawl p (reverse items) servers actors made → InRange (line_of.Event event) → due_at p (reverse items) ≡ Some event → MeetsEach event servers new → KillsIn event actors after → added ≡ items ++ line_of.Event event ∷ []
    → IsVolume crawl p (reverse added) new after (made + 1)
happened laws p items added servers new actors after made event v fits due meets kills grown =
    rw (grown, reverse_push items (line_of.Event event))
    (kept_event laws.happened laws.comes p (reverse items) servers new actors after made event v fits (due_gives p (reverse items) event due) meets kills)

-- and so of the healers
pub whole_happened : {crawl : Bool} (paces : PaceLaws) (rounds : RoundLaws) (laws : EventLaws) (p : Plan) (items added : List Line) (servers new : List Serving) (actors after : List Actor) (healers healers_after : List Healer) (made : ℕ) (event : Event)
    → IsWhole crawl p (reverse items) servers actors healers made → InRange (line_of.Event event) → due_at p (reverse items) ≡ Some event → MeetsEach event servers new → KillsIn event actors after → KillsHealersIn event healers healers_after
    → added ≡ items ++ line_of.Event event ∷ [] → IsWhole crawl p (reverse added) new after healers_after (made + 1)
whole_happened paces rounds laws p items added servers new actors after healers healers_after made event w fits due meets kills healers_killed grown = record {
  kept = happened laws p items added servers new actors after made event w.kept fits due meets kills grown;
  healing =
      rw (grown, reverse_push items (line_of.Event event))
      (healers_happen rounds laws p event (reverse items) servers new healers healers_after fits (laws.comes p (reverse items) event servers new w.kept.runnable.few w.kept.served meets).1 healers_killed w.healing);
  pacing = rw (grown, reverse_push items (line_of.Event event)) (event_paced paces p event (reverse items) actors after healers healers_after kills healers_killed w.pacing);
  crawling = λ crawls. rw (grown, reverse_push items (line_of.Event event)) (killed_crawl p event (reverse items) healers healers_after healers_killed (w.crawling crawls));
}

-- ---- whom it kills is there
event_is : (p : Plan) (log : List Line) (event : Event) → CanRun p → due_at p log ≡ Some event → IsEventOf p event
event_is p log event run due = (let d = due_gives p log event due in subst (IsEventOf p) d.same (run.events (events_made log) d.planned d.next))

pub victim_there : (p : Plan) (log : List Line) (event : Event) (actors : List Actor) → CanRun p → length actors ≡ length p.clients → due_at p log ≡ Some event → HasVictim event actors
victim_there p log event actors run same due = by event (event_is p log event run due)
  where
    by : (event : Event) → IsEventOf p event → HasVictim event actors
    by (Stop b) k = tt
    by (Start b) k = tt
    by (Cut a b) k = tt
    by (Join a b) k = tt
    by (Kill a) k = λ low. let c = client_is p a.0 run low k in let most = c.1 in (c.0, omega (arith, most, same))

pub healer_there : (p : Plan) (log : List Line) (event : Event) (healers : List Healer) → CanRun p → length healers ≡ length p.healers → due_at p log ≡ Some event → HasHealer event healers
healer_there p log event healers run same due = by event (event_is p log event run due)
  where
    by : (event : Event) → IsEventOf p event → HasHealer event healers
    by (Stop b) k = tt
    by (Start b) k = tt
    by (Cut a b) k = tt
    by (Join a b) k = tt
    by (Kill a) k = λ low. let most = (healer_is p a.0 run (above a.0 low) k).1 in omega (arith, most, same)

-- ---- the started bricks
start_within : (p : Plan) (event : Event) (s : List ℕ) → IsEventOf p event → IsWithin p.shape.n s → IsWithin p.shape.n (started_after event s)
start_within p (Stop b) s k h = within_removed_if p.shape.n b.0 s true h
start_within p (Start b) s k h = within_added_if p.shape.n b.0 s true k h
start_within p (Cut a b) s k h = h
start_within p (Join a b) s k h = h
start_within p (Kill a) s k h = h

pub started_within : (crawl : Bool) (p : Plan) (log : List Line) → CanRun p → Follows crawl p log → IsWithin p.shape.n (started_bricks p.shape.n log)
started_within crawl p [] run f = within_below p.shape.n
started_within crawl p (line_of.Ask a b asked told took ∷ older) run f = started_within crawl p older run f.1
started_within crawl p (line_of.Begin a change ∷ older) run f = started_within crawl p older run f.1
started_within crawl p (line_of.HealBegin a g kind ∷ older) run f = started_within crawl p older run f.1
started_within crawl p (line_of.End a said ∷ older) run f = started_within crawl p older run f.1
started_within crawl p (line_of.HealEnd a g kind said ∷ older) run f = started_within crawl p older run f.1
started_within crawl p (line_of.Event event ∷ older) run f = start_within p event (started_bricks p.shape.n older) (subst (IsEventOf p) f.0.1.same (run.events (events_made older) f.0.1.planned f.0.1.next)) (started_within crawl p older run f.1)

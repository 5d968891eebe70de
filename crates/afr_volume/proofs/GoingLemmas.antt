-- Turns after turns, and what one turn does to the log.
use Rattle.std.proofs.Common.{◌≡◌, ℕ, zero, suc, ◌+◌, ◌≤◌, Bool, true, false, Option, Some, None, List, [], ◌∷◌, ◌++◌, length, replicate, refl, sym, ◌∙◌, ap, arith, append_assoc}
use Rattle.std.proofs.lemmas.List.{append-nil}
use Rattle.afr_base.specs.declared.ids.ActorId.{ActorId}
use Rattle.afr_lines.specs.declared.line.Line.{Line}
use Rattle.afr_plan.specs.declared.plan.Plan.{Plan}
use Rattle.afr_model.specs.Chosen.{Picks}
use Rattle.afr_volume.proofs.ChosenLemmas.{event_chosen}
use Rattle.afr_volume.specs.State.{IsChosen, State}
use Rattle.afr_model.specs.Actors.{is_done}
use Rattle.afr_model.specs.Ordered.Writes.{Moves, PassesOver, Happens}
use Rattle.afr_volume.specs.Turning.{Turns, Comes, AddsLine}
use Rattle.afr_volume.specs.declared.turned.Turned.{Turned}
use Rattle.afr_volume.specs.declared.turned.Turned.TheVariants.{Moved, Waits, Ended, Full}
use Rattle.afr_law_bound.proofs.Ends.Runs.{done_more}
use Rattle.afr_volume.specs.Going.{ClientsAreDone, Goes, IsHappening, Later, Still, Takes, TakesFront, Ends, goes_on_after}
use Rattle.afr_volume.proofs.TaskDone.{done_by_plan}

pub goes_nowhere : (s : State) → Goes s s
goes_nowhere s = record { plan = refl; crawl = refl; grows = omega arith; same = λ h. refl; stays = λ a d. d }

pub goes_then : (a b c : State) → Goes a b → Goes b c → Goes a c
goes_then a b c f g = record {
  plan = g.plan ∙ f.plan;
  crawl = g.crawl ∙ f.crawl;
  grows = omega (arith, f.grows, g.grows);
  same = λ h. g.same (omega (arith, f.grows, h)) ∙ f.same (omega (arith, g.grows, h));
  stays = λ a d. g.stays a (f.stays a d);
}

-- the clients that are done stay done
pub done_then : (a b : State) (count : ℕ) → Goes a b → ClientsAreDone count a → ClientsAreDone count b
done_then a b count g d = record { within = rw g.plan d.within; done = λ k l. g.stays (1 + k) (d.done k l) }

pub takes_none : (p : Plan) (log : List Line) → Takes p [] log log
takes_none p log = record { written = λ before w. rw append-nil w }

pub takes_then : (a b c : State) (xs ys : List ℕ) → Goes a b → Takes a.plan xs a.log b.log → Takes b.plan ys b.log c.log → Takes a.plan (xs ++ ys) a.log c.log
takes_then a b c xs ys g f s =
    let k : Takes a.plan ys b.log c.log = rw g.plan at s in
    record { written = λ before w. rw (← append_assoc before xs ys) (k.written (before ++ xs) (f.written before w)) }

-- an actor that is done is passed over, as often as its turn comes
pub takes_passes : (p : Plan) (log : List Line) (a n : ℕ) → is_done p a log ≡ true → Takes p (replicate n a) log log
takes_passes p log a zero d = takes_none p log
takes_passes p log a (suc n) d = record { written = λ before w. rw (append_assoc before (a ∷ []) (replicate n a)) at ((takes_passes p log a n d).written (before ++ a ∷ []) (PassesOver before log a w d)) }

pub front_of : (p : Plan) (old new : List Line) (xs ys : List ℕ) → Takes p xs old new → TakesFront p (xs ++ ys) old new
front_of p old new xs ys t = record { front = xs; later = ys; whole = refl; taken = t }

pub front_whole : (p : Plan) (old new : List Line) (xs : List ℕ) → Takes p xs old new → TakesFront p xs old new
front_whole p old new xs t = record { front = xs; later = []; whole = append-nil xs; taken = t }

pub front_more : (p : Plan) (old new : List Line) (xs ys : List ℕ) → TakesFront p xs old new → TakesFront p (xs ++ ys) old new
front_more p old new xs ys t = record {
  front = t.front;
  later = t.later ++ ys;
  whole = sym (append_assoc t.front t.later ys) ∙ ap (λ l. l ++ ys) t.whole;
  taken = t.taken;
}

pub front_then : (a b c : State) (xs ys : List ℕ) → Goes a b → Takes a.plan xs a.log b.log → TakesFront b.plan ys b.log c.log → TakesFront a.plan (xs ++ ys) a.log c.log
front_then a b c xs ys g f t = record {
  front = xs ++ t.front;
  later = t.later;
  whole = append_assoc xs t.front t.later ∙ ap (λ l. xs ++ l) t.whole;
  taken = takes_then a b c xs t.front g f t.taken;
}

pub ends_then : (a b c : State) (xs ys : List ℕ) (on : Bool) → Goes a b → Takes a.plan xs a.log b.log → Ends ys b on c → Ends (xs ++ ys) a on c
ends_then a b c xs ys true g f t = takes_then a b c xs ys g f t
ends_then a b c xs ys false g f t = t

adds_goes : (old new : State) (line : Line) → new.plan ≡ old.plan → new.crawl ≡ old.crawl → new.log ≡ line ∷ old.log → Goes old new
adds_goes old new line same goes added = record {
  plan = same;
  crawl = goes;
  grows = omega (arith, ap length added);
  same = λ h. absurd (omega (arith, h, ap length added));
  stays = λ a d. rw (same, added) (done_more old.plan a line old.log d);
}

pub event_goes : (old new : State) → Comes old new → Goes old new
event_goes old new h = adds_goes old new _ (ap (λ (s : State). s.plan) h.added) (ap (λ (s : State). s.crawl) h.added) (ap (λ (s : State). s.log) h.added)

pub event_takes : (old new : State) → Comes old new → Takes old.plan [] old.log new.log
event_takes old new h = rw h.added (record { written = λ before w. rw append-nil (Happens before old.log _ w refl) })

turn_moves : (a : ActorId) (old new : State) (waits : Option ActorId) → AddsLine a old waits new → Takes old.plan (a.0 ∷ []) old.log new.log
turn_moves a old new waits h = rw h.added (record { written = λ before w. Moves before old.log a.0 h.line w h.own })

pub turn_goes : (a : ActorId) (old new : State) (turned : Turned) → Turns a old turned new → Goes old new
turn_goes a old new Moved h = adds_goes old new h.line h.plan h.crawl h.added
turn_goes a old new (Waits owner) h = adds_goes old new h.line h.plan h.crawl h.added
turn_goes a old new Ended h = rw h.1 (goes_nowhere old)
turn_goes a old new Full h = rw h.2 (goes_nowhere old)

pub turn_ends : (a : ActorId) (old new : State) (turned : Turned) → Turns a old turned new → Ends (a.0 ∷ []) old (goes_on_after turned) new
turn_ends a old new Moved h = turn_moves a old new None h
turn_ends a old new (Waits owner) h = turn_moves a old new (Some owner) h
turn_ends a old new Ended h = rw h.1 (record { written = λ before w. PassesOver before old.log a.0 w (done_by_plan a.0 old h.0) })
turn_ends a old new Full h = rw h.2 h.0

pub turn_front : (a : ActorId) (old new : State) (turned : Turned) → Turns a old turned new → TakesFront old.plan (a.0 ∷ []) old.log new.log
turn_front a old new Full h = rw h.2 (front_of old.plan old.log old.log [] (a.0 ∷ []) (takes_none old.plan old.log))
turn_front a old new Moved h = front_whole old.plan old.log new.log (a.0 ∷ []) (turn_ends a old new Moved h)
turn_front a old new (Waits owner) h = front_whole old.plan old.log new.log (a.0 ∷ []) (turn_ends a old new (Waits owner) h)
turn_front a old new Ended h = front_whole old.plan old.log new.log (a.0 ∷ []) (turn_ends a old new Ended h)

pub turn_done : (a : ActorId) (old new : State) (turned : Turned) → Turns a old turned new → goes_on_after turned ≡ true → length new.log ≤ length old.log → is_done new.plan a.0 new.log ≡ true
turn_done a old new Moved h t l = absurd (omega (arith, l, ap length h.added))
turn_done a old new (Waits owner) h t l = absurd (omega (arith, l, ap length h.added))
turn_done a old new Ended h t l = rw h.1 (done_by_plan a.0 old h.0)
turn_done a old new Full h t l = cc

pub ends_true : (a b : State) (xs : List ℕ) (on : Bool) → on ≡ true → Ends xs a on b → Takes a.plan xs a.log b.log
ends_true a b xs on e h = rw e at h

-- events keep what the rules have picked
pub happens_chosen : (reads heals : Picks) (old new : State) → IsHappening old new → IsChosen reads heals old → IsChosen reads heals new
happens_chosen reads heals old new Still k = k
happens_chosen reads heals old new (Later mid _ h comes) k = event_chosen reads heals mid new comes (happens_chosen reads heals old mid h k)

-- A server of a log that serves a request is the server of the log with that line, and the line is honest.
use Rattle.std.proofs.Common.{◌≡◌, ℕ, suc, ◌+◌, ◌<◌, Bool, true, false, List, ◌∷◌, refl, sym, ap, ◌∙◌, arith, if◌then◌else◌, ◌==◌, ◌&&◌, ◌||◌, Option, Some, None}
use Rattle.std.proofs.lemmas.Bool.Decides.{nat_tests}
use Rattle.afr_base.specs.Bricks.{member}
use Rattle.afr_base.specs.declared.ids.ActorId.{ActorId}
use Rattle.afr_base.specs.declared.ids.BrickId.{BrickId}
use Rattle.afr_object.specs.State.{Copies}
use Rattle.afr_faults.specs.Planned.{next_fault}
use Rattle.afr_lines.specs.declared.fault.Fault.{Fault}
use Rattle.afr_lines.specs.declared.fault.Fault.TheVariants.{Fail, Lost}
use Rattle.afr_lines.specs.Told.{told_by}
use Rattle.afr_lines.specs.declared.answer.Told.{Told}
use Rattle.afr_lines.specs.declared.line.Line.{Line}
use Rattle.afr_lines.specs.declared.line.Line.TheVariants.{Ask}
use Rattle.afr_lines.specs.declared.request.Area.TheVariants.{Range, Name}
use Rattle.afr_lines.specs.declared.request.Request.{Request}
use Rattle.afr_lines.specs.declared.request.Area.{Area}
use Rattle.afr_lines.specs.declared.request.Request.TheVariants.{Lock}
use Rattle.afr_lines.specs.declared.lock.Domain.{Domain}
use Rattle.afr_server.proofs.RequestLemmas.{by_locks}
use Rattle.afr_model.specs.Honest.{IsHonest, RequestOutcome, answer_by, fault_in, in_the_way, is_live, over_session, requests_to, tells}
use Rattle.afr_model.specs.Locks.{locks_held}
use Rattle.afr_model.specs.Report.{started_bricks}
use Rattle.afr_lines.specs.Places.{opens, place_of}
use Rattle.afr_model.specs.Sessions.{ends_session, is_joined, is_linked}
use Rattle.afr_model.specs.Tables.{Past, asked, held_before, holds, keeps_bytes}
use Rattle.afr_object.specs.Tables.{Table}
use Rattle.afr_object.specs.declared.change.Load.{Load}
use Rattle.afr_plan.specs.declared.plan.Plan.{Plan}
use Rattle.afr_name_locks.specs.declared.names.DirName.{DirName}
use Rattle.afr_lines.specs.declared.lock.HeldLock.{HeldLock}
use Rattle.afr_range_locks.specs.declared.ranges.ObjectRange.{ObjectRange}
use Rattle.afr_session.specs.Links.{is_reached, link_of}
use Rattle.afr_server.specs.declared.server.Served.{Served}
use Rattle.afr_server.specs.Carried.{Brings, names_after, ranges_after}
use Rattle.afr_server.proofs.LinkLemmas.{joined_reached, link_line}
use Rattle.afr_server.proofs.LockLemmas.{answers_heard, ends_heard, is_unheard, names-conflict, names_served, ranges-conflict, ranges_served}
use Rattle.afr_server.proofs.ListLemmas.{never}
use Rattle.afr_server.specs.Log.{Finds, IsServed}
use Rattle.afr_server.specs.Outcome.{Serves, is_carried_out, is_lost, locks_served}
use Rattle.afr_server.specs.Serving.{Serving, in_way, is_epoch}
use Rattle.afr_model_moves.proofs.Tests.{same_self}

-- ---- what the server goes by is what the log says
same_lock : (p : Plan) (log : List Line) (b : ℕ) (s : Serving) (a : ActorId) (domain : Domain) (area : Area) → IsServed p log b s → in_the_way a (Lock domain area) b log ≡ in_way a (Lock domain area) s
same_lock p log b s a domain (Range g from to) v = rw v.ranges (ranges-conflict a domain g from to (locks_held b log))
same_lock p log b s a domain (Name g name) v = rw v.names (names-conflict a domain g name (locks_held b log))

same_way : (p : Plan) (log : List Line) (b : ℕ) (s : Serving) (a : ActorId) (r : Request) → IsServed p log b s → in_the_way a r b log ≡ in_way a r s
same_way p log b s a r v = by_locks (λ r. in_the_way a r b log ≡ in_way a r s) (λ d area. same_lock p log b s a d area v) (λ d area. refl) (λ r plain. plain.unseen a b log ∙ sym (plain.free a s.ranges s.names)) r

same_fault : (p : Plan) (log : List Line) (b : ℕ) (s : Serving) → IsServed p log b s → fault_in p.faults b (suc (requests_to b log)) ≡ next_fault s.faults
same_fault p log b s v = rw (← v.requests) (ap (fault_in p.faults b) (one_more s.faults.requests) ∙ sym (v.planned (s.faults.requests + 1)))
  where
    one_more : (n : ℕ) → suc n ≡ n + 1
    one_more n = omega arith

-- what `outcome_of` gives is what the server gives by its session, its fault, who is in the way and its tables
pub same_outcome : (p : Plan) (log : List Line) (a : ActorId) (b : BrickId) (r : Request) (line : Line) (live : Bool) (s : Serving) → IsServed p log b.0 s → is_live p a b.0 line log ≡ live
    → over_session (is_live p a b.0 line log) (fault_in p.faults b.0 (suc (requests_to b.0 log))) (tells a r b.0 (holds p log b.0) log)
    ≡ over_session live (next_fault s.faults) (told_by (answer_by (in_way a r s) r s.copies.objects log))
same_outcome p log a b r line live s v e = rw (e, same_fault p log b.0 s v, same_way p log b.0 s a r v, ← v.objects) refl

-- ---- what the line leaves
ends_line : (x y : ℕ) (a : ActorId) (b : BrickId) (r : Request) (live : Bool) (fault : Option Fault) (said : Told) → is_unheard said ≡ false
    → ends_session x y (Ask a b r (over_session live fault said).told (over_session live fault said).took) ≡ ((a.0 == x) && (b.0 == y) && is_lost live fault)
ends_line x y a b r false fault said h = refl
ends_line x y a b r true (Some Fail) said h = sym (never (a.0 == x) (b.0 == y))
ends_line x y a b r true (Some Lost) said h = refl
ends_line x y a b r true None said h = ends_heard x y a b r said true h ∙ sym (never (a.0 == x) (b.0 == y))

ends_here : (x : ℕ) (a : ActorId) (b : BrickId) (r : Request) (live : Bool) (fault : Option Fault) (said : Told) → is_unheard said ≡ false
    → ends_session x b.0 (Ask a b r (over_session live fault said).told (over_session live fault said).took) ≡ ((a.0 == x) && is_lost live fault)
ends_here x a b r live fault said h = ends_line x b.0 a b r live fault said h ∙ ap (λ (u : Bool). (a.0 == x) && u && is_lost live fault) (same_self b.0) ∙ dropped (a.0 == x) (is_lost live fault)
  where
    dropped : (u v : Bool) → (u && true && v) ≡ (u && v)
    dropped true v = refl
    dropped false v = refl

-- the tables after the line
tables_line : (keeps k : Bool) (b : ℕ) (took : Bool) (r : Request) (log : List Line) (past : Past) (old new : Copies) (t : Table) → old.keeps ≡ k → old.objects ≡ t
    → new ≡ (if took then record { keeps = old.keeps; objects = asked old.keeps r log past old.objects } else old)
    → new.objects ≡ (if took then (if b == b then asked k r log past t else t) else t)
tables_line keeps k b true r log past old new t ek et e = rw (same_self b, ← ek, ← et) (ap (λ (c : Copies). c.objects) e)
tables_line keeps k b false r log past old new t ek et e = ap (λ (c : Copies). c.objects) e ∙ et

keeps_line : (took : Bool) (o : Table) (old new : Copies) → new ≡ (if took then record { keeps = old.keeps; objects = o } else old) → new.keeps ≡ old.keeps
keeps_line true o old new e = ap (λ (c : Copies). c.keeps) e
keeps_line false o old new e = ap (λ (c : Copies). c.keeps) e

-- the server after the line, told by the outcome
after_line : (p : Plan) (log : List Line) (a : ActorId) (b : BrickId) (r : Request) (load : Load) (first live : Bool) (s s' : Serving) (given : Served) (o : RequestOutcome)
    → IsServed p log b.0 s
    → o ≡ over_session live (next_fault s.faults) (told_by (answer_by (in_way a r s) r s.copies.objects log))
    → given.took ≡ o.took
    → opens (place_of a.0 log) (Ask a b r o.told o.took) ≡ first
    → (is_carried_out live (next_fault s.faults) ≡ true → Brings r load log (held_before p log))
    → Serves first live (next_fault s.faults) a r load s s' given
    → IsServed p (Ask a b r o.told o.took ∷ log) b.0 s'
after_line p log a b r load first live s s' given o v is took opened brings c =
    record {
      keeps = keeps_line given.took _ s.copies s'.copies (c.copies log (held_before p log) brings) ∙ v.keeps;
      objects = tables_line s.copies.keeps (keeps_bytes p b.0) b.0 o.took r log (held_before p log) s.copies s'.copies (holds p log b.0) v.keeps v.objects (rw (← took) (c.copies log (held_before p log) brings));
      ranges = c.ranges ∙ ap (λ (held : List (HeldLock ObjectRange)). locks_served (is_carried_out live (next_fault s.faults)) (is_lost live (next_fault s.faults)) a (ranges_after a r (in_way a r s) held) held) v.ranges ∙ rw is (sym (ranges_served live (next_fault s.faults) a b r (in_way a r s) s.copies.objects log (locks_held b.0 log)));
      names = c.names ∙ ap (λ (held : List (HeldLock DirName)). locks_served (is_carried_out live (next_fault s.faults)) (is_lost live (next_fault s.faults)) a (names_after a r (in_way a r s) held) held) v.names ∙ rw is (sym (names_served live (next_fault s.faults) a b r (in_way a r s) s.copies.objects log (locks_held b.0 log)));
      started = c.started ∙ v.started;
      links = λ x small. rw (c.links x) (link_line p log (Ask a b r o.told o.took) a.0 b.0 x first (is_lost live (next_fault s.faults)) s.links.started (link_of x s.links) (λ x. refl) opened
          (λ x. rw is (ends_here x a b r live (next_fault s.faults) (told_by (answer_by (in_way a r s) r s.copies.objects log)) (answers_heard (in_way a r s) r s.copies.objects log))) (λ x. refl) v.started (v.links x small));
      requests = rw (c.faults, same_self b.0) (ap (λ (n : ℕ). n + 1) v.requests);
      planned = λ k. rw c.faults (v.planned k);
    }

-- a request over a session that is live as the log says: its line is honest, and the server is that of the log with the line
pub served : (p : Plan) (log : List Line) (a : ActorId) (b : BrickId) (r : Request) (load : Load) (first live : Bool) (s s' : Serving) (given : Served)
    → IsServed p log b.0 s
    → is_live p a b.0 (Ask a b r (told_by given.answer) given.took) log ≡ live
    → opens (place_of a.0 log) (Ask a b r (told_by given.answer) given.took) ≡ first
    → (is_carried_out live (next_fault s.faults) ≡ true → Brings r load log (held_before p log))
    → Serves first live (next_fault s.faults) a r load s s' given
    → IsHonest p (Ask a b r (told_by given.answer) given.took) log × IsServed p (Ask a b r (told_by given.answer) given.took ∷ log) b.0 s'
served p log a b r load first live s s' given v joined opened brings c =
    (is ∙ sym (same_outcome p log a b r (Ask a b r (told_by given.answer) given.took) live s v joined), after_line p log a b r load first live s s' given (record { told = told_by given.answer; took = given.took }) v is refl opened brings c)
  where
    is : (record { told = told_by given.answer; took = given.took }) ≡ over_session live (next_fault s.faults) (told_by (answer_by (in_way a r s) r s.copies.objects log))
    is = c.outcome log (held_before p log) brings

-- ---- whether the session is live
epoch_live : (epoch : Option ℕ) (up live : Bool) (opened : ℕ) → Finds epoch (record { up = up; live = live; opened = opened }) → is_epoch epoch (record { up = up; live = live; opened = opened }) ≡ live
epoch_live None up true opened found = let e = found refl in absurd (cc)
epoch_live None up false opened found = refl
epoch_live (Some epoch) up true opened found = let e = found refl in grind (arith, nat_tests, e)
epoch_live (Some epoch) up false opened found = refl

opens_none : (j m l : Bool) (f : Bool) → (j || (f && false && m && l)) ≡ j
opens_none true m l f = refl
opens_none false m l true = refl
opens_none false m l false = refl

pub opens_now : (j m l : Bool) → (j ≡ true → (m && l) ≡ true) → (j || (true && true && m && l)) ≡ (m && l)
opens_now true m l h = sym (h refl)
opens_now false m l h = refl

-- a line within a work, over the epoch that the actor found
pub served_within : (p : Plan) (log : List Line) (a : ActorId) (b : BrickId) (epoch : Option ℕ) (r : Request) (load : Load) (s s' : Serving) (given : Served)
    → a.0 < 20 → IsServed p log b.0 s → Finds epoch (link_of a.0 s.links)
    → opens (place_of a.0 log) (Ask a b r (told_by given.answer) given.took) ≡ false
    → (is_carried_out (is_epoch epoch (link_of a.0 s.links)) (next_fault s.faults) ≡ true → Brings r load log (held_before p log))
    → Serves false (is_epoch epoch (link_of a.0 s.links)) (next_fault s.faults) a r load s s' given
    → IsHonest p (Ask a b r (told_by given.answer) given.took) log × IsServed p (Ask a b r (told_by given.answer) given.took ∷ log) b.0 s'
served_within p log a b epoch r load s s' given small v found opened brings c = served p log a b r load false (is_epoch epoch (link_of a.0 s.links)) s s' given v live opened brings c
  where
    live : is_live p a b.0 (Ask a b r (told_by given.answer) given.took) log ≡ is_epoch epoch (link_of a.0 s.links)
    live = rw opened (opens_none (is_joined p a.0 b.0 log) (member (started_bricks p.shape.n log) b.0) (is_linked a.0 b.0 log) (a.0 == a.0))
        ∙ sym (epoch_live epoch (link_of a.0 s.links).up (link_of a.0 s.links).live (link_of a.0 s.links).opened found ∙ (v.links a.0 small).live)

-- the first line of a work or of a heal, which meets the brick
pub served_first : (p : Plan) (log : List Line) (a : ActorId) (b : BrickId) (r : Request) (load : Load) (s s' : Serving) (given : Served)
    → a.0 < 20 → IsServed p log b.0 s
    → opens (place_of a.0 log) (Ask a b r (told_by given.answer) given.took) ≡ true
    → (is_carried_out (is_reached s.links.started (link_of a.0 s.links)) (next_fault s.faults) ≡ true → Brings r load log (held_before p log))
    → Serves true (is_reached s.links.started (link_of a.0 s.links)) (next_fault s.faults) a r load s s' given
    → IsHonest p (Ask a b r (told_by given.answer) given.took) log × IsServed p (Ask a b r (told_by given.answer) given.took ∷ log) b.0 s'
served_first p log a b r load s s' given small v opened brings c = served p log a b r load true (is_reached s.links.started (link_of a.0 s.links)) s s' given v live opened brings c
  where
    live : is_live p a b.0 (Ask a b r (told_by given.answer) given.took) log ≡ is_reached s.links.started (link_of a.0 s.links)
    live = rw (opened, same_self a.0, v.started, (v.links a.0 small).up) (opens_now (is_joined p a.0 b.0 log) (member (started_bricks p.shape.n log) b.0) (is_linked a.0 b.0 log) (joined_reached p a.0 b.0 log))

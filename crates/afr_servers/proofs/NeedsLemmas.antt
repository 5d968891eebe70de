-- What a request needs of its server follows from what the log says of it, and what a read is given is what the log has.
use Rattle.std.proofs.Common.{◌≡◌, ℕ, suc, ◌+◌, ◌<◌, ◌≤◌, ◌==◌, ◌&&◌, ◌||◌, Bool, true, false, List, [], ◌∷◌, length, refl, sym, ap, ◌∙◌, arith, Option, Some, None, if◌then◌else◌}
use Rattle.std.proofs.lemmas.Bool.Decides.{nat_tests}
use Rattle.afr_base.specs.Bricks.{member}
use Rattle.afr_base.specs.declared.ids.ActorId.{ActorId}
use Rattle.afr_base.specs.declared.ids.BrickId.{BrickId}
use Rattle.afr_faults.specs.Planned.{next_fault}
use Rattle.afr_lines.specs.declared.fault.Fault.{Fault}
use Rattle.afr_lines.specs.declared.fault.Fault.TheVariants.{Fail, Lost}
use Rattle.afr_lines.specs.Told.{told_by}
use Rattle.afr_lines.specs.declared.answer.Told.{Told}
use Rattle.afr_lines.specs.declared.answer.Told.TheVariants.{Given}
use Rattle.afr_lines.specs.declared.line.Line.{Line}
use Rattle.afr_lines.specs.declared.line.Line.TheVariants.{Ask, Begin, HealBegin, End, HealEnd}
use Rattle.afr_lines.specs.declared.line.Line.TheVariants as line_of
use Rattle.afr_lines.specs.declared.request.Area.TheVariants.{Range, Name}
use Rattle.afr_lines.specs.declared.request.Request.{Request}
use Rattle.afr_lines.specs.declared.request.Request.TheVariants.{Lock, Unlock, Look, ReadBytes, ReadName, ReadAttr, ReadAttrs, Index, Pre, Apply, Post, Mend, Settle}
use Rattle.afr_lines.specs.declared.request.Request.TheVariants as request
use Rattle.afr_model.specs.Honest.{RequestOutcome, is_live, one_more, over_session, requests_to, asking}
use Rattle.afr_model.specs.Report.{started_bricks}
use Rattle.afr_model.specs.Sessions.{is_joined, is_linked}
use Rattle.afr_model.specs.Tables.{Past, held_before}
use Rattle.afr_model_moves.proofs.Tests.{same_self}
use Rattle.afr_object.specs.declared.change.Load.{Load}
use Rattle.afr_plan.specs.declared.plan.Plan.{Plan}
use Rattle.afr_server.proofs.CoveredLemmas.{same_change, under_locks}
use Rattle.afr_server.proofs.LinkLemmas.{joined_reached}
use Rattle.afr_server.proofs.OpeningLemmas.{can_serve, carried_took}
use Rattle.afr_server.proofs.ServedLemmas.{same_outcome, opens_now}
use Rattle.afr_server.specs.declared.server.Served.{Served}
use Rattle.afr_server.specs.Carried.{Brings}
use Rattle.afr_server.specs.Covered.{change_with}
use Rattle.afr_server.specs.Log.{Finds, IsServed}
use Rattle.afr_server.specs.Outcome.{Serves, is_carried_out}
use Rattle.afr_server.specs.Serving.{HasEpoch, Serving, has_session, in_way, is_epoch, is_met}
use Rattle.afr_session.specs.Links.{is_reached, link_of}
use Rattle.afr_servers.proofs.PlaceLemmas.{stands}
use Rattle.afr_servers.specs.Found.{epoch_at}
use Rattle.afr_servers.specs.Needs.{CanCount, CanServe, CarriesByTheLog, HasRoom, IsCoveredThere, IsReadOfTables, NeedsAreMet, RangesCanBeLocked, AnswersAreRead, change_for, is_read, would_carry}

-- ---- whether a request is carried out
carried_by : (p : Plan) (log : List Line) (a : ActorId) (b : BrickId) (r : Request) (live : Bool) (s : Serving) → IsServed p log b.0 s → is_live p a b.0 (asking a b r) log ≡ live → is_carried_out live (next_fault s.faults) ≡ would_carry p a b r log
carried_by p log a b r live s v e = carried_took live (next_fault s.faults) _ ∙ ap (λ (o : RequestOutcome). o.took) (sym (same_outcome p log a b r (asking a b r) live s v e))

epoch_live : (epoch : Option ℕ) (up live : Bool) (opened : ℕ) → Finds epoch (record { up = up; live = live; opened = opened }) → is_epoch epoch (record { up = up; live = live; opened = opened }) ≡ live
epoch_live None up true opened found = let e = found refl in absurd (cc)
epoch_live None up false opened found = refl
epoch_live (Some epoch) up true opened found = let e = found refl in grind (arith, nat_tests, e)
epoch_live (Some epoch) up false opened found = refl

opens_none : (j m l f : Bool) → (j || (f && false && m && l)) ≡ j
opens_none true m l f = refl
opens_none false m l true = refl
opens_none false m l false = refl

carries : CarriesByTheLog
carries p log a true epochs b r servers small v found opened s h = carried_by p log a b r (has_session (epoch_at b.0 epochs) a s) s one live
  where
    one : IsServed p log b.0 s
    one = v.each b.0 s h

    live : is_live p a b.0 (asking a b r) log ≡ is_epoch (epoch_at b.0 epochs) (link_of a.0 s.links)
    live = rw opened (opens_none (is_joined p a.0 b.0 log) (member (started_bricks p.shape.n log) b.0) (is_linked a.0 b.0 log) (a.0 == a.0))
        ∙ sym (epoch_live (epoch_at b.0 epochs) (link_of a.0 s.links).up (link_of a.0 s.links).live (link_of a.0 s.links).opened (found b.0 s h) ∙ (one.links a.0 small).live)
carries p log a false epochs b r servers small v found opened s h = carried_by p log a b r (is_met a s) s one live
  where
    one : IsServed p log b.0 s
    one = v.each b.0 s h

    live : is_live p a b.0 (asking a b r) log ≡ is_reached s.links.started (link_of a.0 s.links)
    live = rw (opened, same_self a.0, one.started, (one.links a.0 small).up) (opens_now (is_joined p a.0 b.0 log) (member (started_bricks p.shape.n log) b.0) (is_linked a.0 b.0 log) (joined_reached p a.0 b.0 log))

-- ---- what it can, and its locks
can : CanServe
can p log b r load servers v able brings s h = can_serve p log b.0 r load s (v.each b.0 s h) able brings

change_same : (r : Request) (load : Load) (log : List Line) (past : Past) → Brings r load log past → change_for r log ≡ change_with r load
change_same (Apply n) load log past brings = same_change n load log past brings
change_same (Lock d area) load log past brings = refl
change_same (Unlock d area) load log past brings = refl
change_same (Look g) load log past brings = refl
change_same (ReadBytes g at len) load log past brings = refl
change_same (ReadName g n) load log past brings = refl
change_same (request.List g) load log past brings = refl
change_same (ReadAttr g k) load log past brings = refl
change_same (ReadAttrs g) load log past brings = refl
change_same Index load log past brings = refl
change_same (Pre g k) load log past brings = refl
change_same (Post n g k m) load log past brings = refl
change_same (Mend rep) load log past brings = refl
change_same (Settle g k less) load log past brings = refl

covered : IsCoveredThere
covered p log a b r load servers v law brings s h = under_locks p log b.0 a r (change_for r log) load s (v.each b.0 s h) (change_same r load log (held_before p log) brings) law

-- ---- room for one more request and one more session
pub counts_one : (b : ℕ) (line : Line) (n : ℕ) → one_more b line n ≤ suc n
counts_one b (Ask a y r told took) n = by_brick (y.0 == b)
  where
    by_brick : (c : Bool) → (if c then n + 1 else n) ≤ suc n
    by_brick true = omega arith
    by_brick false = omega arith
counts_one b (Begin a change) n = omega arith
counts_one b (HealBegin a g kind) n = omega arith
counts_one b (End a reply) n = omega arith
counts_one b (HealEnd a g kind reply) n = omega arith
counts_one b (line_of.Event event) n = omega arith

pub few_requests : (b : ℕ) (log : List Line) → requests_to b log ≤ length log
few_requests b [] = omega arith
few_requests b (line ∷ older) = omega (arith, counts_one b line (requests_to b older), few_requests b older)

room : HasRoom
room p log b servers v short s h = (count, λ a small. epoch a small)
  where
    one : IsServed p log b s
    one = v.each b s h

    count : CanCount s
    count = omega (arith, one.requests, few_requests b log, short)

    epoch : (a : ActorId) → a.0 < 20 → HasEpoch a s
    epoch a small opened = omega (arith, (one.links a.0 small).opened, short)

lock : RangesCanBeLocked
lock d (Range g from to) h = h
lock d (Name g name) h = tt

pub needs_met : NeedsAreMet
needs_met = record { carries = carries; can = can; covered = covered; room = room; lock = lock }

-- ---- what a read is given
given_live : (live : Bool) (fault : Option Fault) (said told : Told) (took : Bool) → (record { told = told; took = took }) ≡ over_session live fault said → told ≡ Given → (live ≡ true) × (fault ≡ None)
given_live false fault said told took e h = let t = ap (λ (o : RequestOutcome). o.told) e in absurd (cc)
given_live true (Some Fail) said told took e h = let t = ap (λ (o : RequestOutcome). o.told) e in absurd (cc)
given_live true (Some Lost) said told took e h = let t = ap (λ (o : RequestOutcome). o.told) e in absurd (cc)
given_live true None said told took e h = (refl, refl)

-- nobody is in the way of a read, and it brings nothing
pub record IsPlain (r : Request) : Type 0 where
  pub free : (a : ActorId) (s : Serving) → in_way a r s ≡ None
  pub brings : (load : Load) (log : List Line) (past : Past) → Brings r load log past

plain : (r : Request) → is_read r ≡ true → IsPlain r
plain (ReadBytes g at len) h = record { free = λ a s. refl; brings = λ load log past. tt }
plain (ReadName g n) h = record { free = λ a s. refl; brings = λ load log past. tt }
plain (request.List g) h = record { free = λ a s. refl; brings = λ load log past. tt }
plain (ReadAttr g k) h = record { free = λ a s. refl; brings = λ load log past. tt }
plain (ReadAttrs g) h = record { free = λ a s. refl; brings = λ load log past. tt }
plain Index h = record { free = λ a s. refl; brings = λ load log past. tt }
plain (Lock d area) h = absurd (cc)
plain (Unlock d area) h = absurd (cc)
plain (Look g) h = absurd (cc)
plain (Pre g k) h = absurd (cc)
plain (Apply n) h = absurd (cc)
plain (Post n g k m) h = absurd (cc)
plain (Mend rep) h = absurd (cc)
plain (Settle g k less) h = absurd (cc)

read_by : (p : Plan) (log : List Line) (a : ActorId) (b : BrickId) (r : Request) (load : Load) (first live : Bool) (s s' : Serving) (given : Served) → IsServed p log b.0 s
    → Serves first live (next_fault s.faults) a r load s s' given → IsReadOfTables p log b r given
read_by p log a b r load first live s s' given v c reads told = c.full log (held_before p log) fine.0 fine.1 (one.brings load log (held_before p log)) ∙ rw (one.free a s, v.objects) refl
  where
    one : IsPlain r
    one = plain r reads

    fine : (live ≡ true) × (next_fault s.faults ≡ None)
    fine = given_live live (next_fault s.faults) _ (told_by given.answer) given.took (c.outcome log (held_before p log) (λ _. one.brings load log (held_before p log))) told

pub answers_read : AnswersAreRead
answers_read p log a true epochs after b r load old new given v c = read_by p log a b r load false _ c.1.was c.1.now given (v.each b.0 c.1.was c.1.there) c.1.serves
answers_read p log a false epochs after b r load old new given v c =
    let s = stands old b.0 c.there in
    let s' = stands new b.0 (omega (arith, c.there, c.count)) in
    read_by p log a b r load true _ s.0 s'.0 given (v.each b.0 s.0 s.1) (c.serves s.0 s'.0 s.1 s'.1)

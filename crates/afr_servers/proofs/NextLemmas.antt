-- Servers of a log are, after one more line, the servers of the log with that line.
use Rattle.std.proofs.Common.{◌≡◌, ◌≢◌, ℕ, ◌<◌, ◌≤◌, true, false, List, ◌∷◌, length, refl, sym, ◌∙◌, arith, Some, slice_get, inl, inr, length-set, subst}
use Rattle.std.proofs.lemmas.Bool.Decides.{eqb_tells}
use Rattle.std.proofs.lemmas.Option.{slice_get_within}
use Rattle.afr_base.specs.declared.ids.ActorId.{ActorId}
use Rattle.afr_base.specs.declared.ids.BrickId.{BrickId}
use Rattle.afr_faults.specs.Planned.{next_fault}
use Rattle.afr_lines.specs.Places.{opens, place_of}
use Rattle.afr_lines.specs.declared.line.Line.{Line}
use Rattle.afr_lines.specs.declared.line.Line.TheVariants as line_of
use Rattle.afr_lines.specs.declared.request.Request.{Request}
use Rattle.afr_model.specs.Tables.{held_before}
use Rattle.afr_object.specs.declared.change.Load.{Load}
use Rattle.afr_plan.specs.declared.plan.Plan.{Plan}
use Rattle.afr_server.specs.declared.server.Served.{Served}
use Rattle.afr_server.specs.Carried.{Brings}
use Rattle.afr_server.proofs.ElsewhereLemmas.{served_elsewhere, served_met}
use Rattle.afr_server.proofs.EventLemmas.{served_event}
use Rattle.afr_server.proofs.FindsLemmas.{kept_event}
use Rattle.afr_server.proofs.OpeningLemmas.{served_new}
use Rattle.afr_server.proofs.ServedLemmas.{served_first, served_within}
use Rattle.afr_server.specs.Log.{Finds, IsServed}
use Rattle.afr_server.specs.NextLine.{IsServedLine, told_line}
use Rattle.afr_server.specs.Outcome.{is_carried_out}
use Rattle.afr_server.specs.Serving.{Serving, has_session, is_met}
use Rattle.afr_session.specs.Links.{link_of}
use Rattle.afr_servers.proofs.FoundLemmas.{finds_first, finds_met, finds_other, finds_within}
use Rattle.afr_servers.proofs.PlaceLemmas.{apart_not, each_set, stands, stood}
use Rattle.afr_servers.specs.Calls.{AsksFirst, AsksOne, At, IsMet}
use Rattle.afr_servers.specs.Found.{epoch_at}
use Rattle.afr_servers.specs.Log.{AreFound, AreServed}
use Rattle.afr_servers.specs.NextLine.{AskedAreServed, EventAreServed, GoOnHonestly, MetAreServed, NewAreServed, WrittenAreServed}
use Rattle.afr_servers.specs.declared.epochs.Epochs.{Epochs}

pub new_served : NewAreServed
new_served p servers few n = record { few = n.few; each = λ b s h. let one = n.each b s h in served_new p b s few (omega (arith, n.few, slice_get_within servers b s h)) one.keeps one.objects one.ranges one.names one.started one.links one.requests one.planned }

-- ---- a request within a work
abbrev AskedWithin : Type 0
AskedWithin =
    (p : Plan) (log : List Line) (a : ActorId) (epochs : Epochs) (b : BrickId) (request : Request) (load : Load) (old new : List Serving) (given : Served)
    → p.shape.n ≤ 5 → a.0 < 20 → AreServed p log old → AreFound a.0 epochs old
    → opens (place_of a.0 log) (told_line a b request given) ≡ false
    → At b.0 old (λ s. is_carried_out (has_session (epoch_at b.0 epochs) a s) (next_fault s.faults) ≡ true → Brings request load log (held_before p log))
    → AsksOne a epochs b.0 request load old new given
    → GoOnHonestly p log a (told_line a b request given) epochs old new

served_again : AskedWithin
served_again p log a epochs b r load old new given few small v found opened brings c = (line.0, record { served = served; found = finds; others = others })
  where
    there : b.0 < length old
    there = slice_get_within old b.0 c.was c.there

    line : IsServedLine p log b.0 (told_line a b r given) c.now
    line = served_within p log a b (epoch_at b.0 epochs) r load c.was c.now given small (v.each b.0 c.was c.there) (found b.0 c.was c.there) opened (brings c.was c.there) c.serves

    served : AreServed p (told_line a b r given ∷ log) new
    served = record {
      few = rw (c.servers, length-set old b.0 c.now) v.few;
      each = each_set (λ (y : ℕ) (s : Serving). IsServed p (told_line a b r given ∷ log) y s) old new b.0 c.now there c.servers line.1
          (λ y s apart h. served_elsewhere p log (told_line a b r given) y a.0 s (v.each y s h) (apart_not b.0 y apart) (λ x. refl) opened);
    }

    finds : AreFound a.0 epochs new
    finds = each_set (λ (y : ℕ) (s : Serving). Finds (epoch_at y epochs) (link_of a.0 s.links)) old new b.0 c.now there c.servers
        (finds_within a (epoch_at b.0 epochs) _ c.was c.now c.serves.links (found b.0 c.was c.there)) (λ y s apart h. found y s h)

    others : (x : ℕ) (its : Epochs) → x ≢ a.0 → AreFound x its old → AreFound x its new
    others x its other found = each_set (λ (y : ℕ) (s : Serving). Finds (epoch_at y its) (link_of x s.links)) old new b.0 c.now there c.servers
        (finds_other a x (epoch_at b.0 its) false _ c.was c.now other c.serves.links (found b.0 c.was c.there)) (λ y s apart h. found y s h)

-- ---- one that is the first line of a work or of a heal: one brick serves it, the others are met
abbrev AskedFirst : Type 0
AskedFirst =
    (p : Plan) (log : List Line) (a : ActorId) (epochs : Epochs) (b : BrickId) (request : Request) (load : Load) (old new : List Serving) (given : Served)
    → p.shape.n ≤ 5 → a.0 < 20 → AreServed p log old
    → opens (place_of a.0 log) (told_line a b request given) ≡ true
    → At b.0 old (λ s. is_carried_out (is_met a s) (next_fault s.faults) ≡ true → Brings request load log (held_before p log))
    → AsksFirst a b.0 request load old new epochs given
    → GoOnHonestly p log a (told_line a b request given) epochs old new

served_at_first : AskedFirst
served_at_first p log a epochs b r load old new given few small v opened brings c = ((line was.0 now.0 was.1 now.1).0, record { served = served; found = finds; others = others })
  where
    was : (s : Serving) × (slice_get old b.0 ≡ Some s)
    was = stands old b.0 c.there

    now : (s : Serving) × (slice_get new b.0 ≡ Some s)
    now = stands new b.0 (omega (arith, c.there, c.count))

    line : (s s' : Serving) → slice_get old b.0 ≡ Some s → slice_get new b.0 ≡ Some s' → IsServedLine p log b.0 (told_line a b r given) s'
    line s s' h h' = served_first p log a b r load s s' given small (v.each b.0 s h) opened (brings s h) (c.serves s s' h h')

    each : (P : ℕ → Serving → Serving → Type 0) → ((s s' : Serving) → slice_get old b.0 ≡ Some s → slice_get new b.0 ≡ Some s' → P b.0 s s')
        → ((y : ℕ) (s s' : Serving) → y ≢ b.0 → slice_get old y ≡ Some s → IsMet a s s' → P y s s') → (y : ℕ) (s s' : Serving) → slice_get old y ≡ Some s → slice_get new y ≡ Some s' → P y s s'
    each P here other y s s' h h' =
        elim (eqb_tells y b.0) [
          | inl e ↦ subst (λ (n : ℕ). P n s s') (sym e.1) (here s s' (rw e.1 at h) (rw e.1 at h'))
          | inr e ↦ other y s s' e.1 h (c.meets y s s' e.1 h h')
        ]

    from : (y : ℕ) (s' : Serving) → slice_get new y ≡ Some s' → (s : Serving) × (slice_get old y ≡ Some s)
    from y s' h = stood old new c.count y s' h

    served : AreServed p (told_line a b r given ∷ log) new
    served = record {
      few = c.count ∙ v.few;
      each = λ y s' h'. let s = from y s' h' in
          each (λ (y : ℕ) (s s' : Serving). IsServed p (told_line a b r given ∷ log) y s') (λ s s' h h'. (line s s' h h').1)
          (λ y s s' apart h m. served_met p log (told_line a b r given) y a.0 s s' (v.each y s h) (apart_not b.0 y apart) (λ x. refl) opened m.does m.same)
          y s.0 s' s.1 h';
    }

    finds : AreFound a.0 epochs new
    finds y s' h' = let s = from y s' h' in
        each (λ (y : ℕ) (s s' : Serving). Finds (epoch_at y epochs) (link_of a.0 s'.links))
        (λ s s' h h'. finds_first p log b.0 a (epoch_at b.0 epochs) _ s s' small (v.each b.0 s h) (c.serves s s' h h').links (c.found b.0 s h))
        (λ y s s' apart h m. finds_met p log y a (epoch_at y epochs) s s' small (v.each y s h) m (c.found y s h))
        y s.0 s' s.1 h'

    others : (x : ℕ) (its : Epochs) → x ≢ a.0 → AreFound x its old → AreFound x its new
    others x its other found y s' h' = let s = from y s' h' in
        each (λ (y : ℕ) (s s' : Serving). Finds (epoch_at y its) (link_of x s'.links))
        (λ s s' h h'. finds_other a x (epoch_at b.0 its) true _ s s' other (c.serves s s' h h').links (found b.0 s h))
        (λ y s s' apart h m. finds_other a x (epoch_at y its) true false s s' other m.does.links (found y s h))
        y s.0 s' s.1 h'

-- ---- a request of a visit is one of the two
pub asked_served : AskedAreServed
asked_served p log a true epochs after b r load old new given few small v found opened brings k =
    subst (λ (epochs : Epochs). GoOnHonestly p log a (told_line a b r given) epochs old new) (sym k.0) (served_again p log a epochs b r load old new given few small v found opened brings k.1)
asked_served p log a false epochs after b r load old new given few small v found opened brings k = served_at_first p log a after b r load old new given few small v opened brings k

-- ---- a line that is no request and opens no session
pub written_served : WrittenAreServed
written_served p log line a servers few v there by opened = record { few = v.few; each = λ b s h. served_elsewhere p log line b a s (v.each b s h) (there b) by opened }

-- one that opens sessions
pub met_served : MetAreServed
met_served p log line a epochs old new few small v there by opened c = record { served = served; found = finds; others = others }
  where
    from : (y : ℕ) (s' : Serving) → slice_get new y ≡ Some s' → (s : Serving) × (slice_get old y ≡ Some s)
    from y s' h = stood old new c.count y s' h

    served : AreServed p (line ∷ log) new
    served = record {
      few = c.count ∙ v.few;
      each = λ y s' h'. let s = from y s' h' in let m = c.meets y s.0 s' s.1 h' in served_met p log line y a.0 s.0 s' (v.each y s.0 s.1) (there y) by opened m.does m.same;
    }

    finds : AreFound a.0 epochs new
    finds y s' h' = let s = from y s' h' in finds_met p log y a (epoch_at y epochs) s.0 s' small (v.each y s.0 s.1) (c.meets y s.0 s' s.1 h') (c.found y s.0 s.1)

    others : (x : ℕ) (its : Epochs) → x ≢ a.0 → AreFound x its old → AreFound x its new
    others x its other found y s' h' = let s = from y s' h' in finds_other a x (epoch_at y its) true false s.0 s' other (c.meets y s.0 s' s.1 h').does.links (found y s.0 s.1)

-- an event
pub event_served : EventAreServed
event_served p log event old new few v c = (served, finds)
  where
    from : (y : ℕ) (s' : Serving) → slice_get new y ≡ Some s' → (s : Serving) × (slice_get old y ≡ Some s)
    from y s' h = stood old new c.count y s' h

    served : AreServed p (line_of.Event event ∷ log) new
    served = record {
      few = c.count ∙ v.few;
      each = λ y s' h'. let s = from y s' h' in served_event p log event y s.0 s' (v.each y s.0 s.1) (c.each y s.0 s' s.1 h').meets;
    }

    finds : (x : ℕ) (its : Epochs) → AreFound x its old → AreFound x its new
    finds x its found y s' h' = let s = from y s' h' in rw ((c.each y s.0 s' s.1 h').meets.links x) (kept_event (epoch_at y its) event y x (link_of x s.0.links) (found y s.0 s.1))

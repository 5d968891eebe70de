-- A client's line by a rule: what it reads the rule picked, and what is picked beside it the rule answered.
use Rattle.std.proofs.Common.{◌≡◌, ◌≢◌, ◌∙◌, ◌⊎◌, ℕ, ◌+◌, ◌-◌, ◌<◌, ◌==◌, Bool, true, false, List, [], ◌∷◌, ◌++◌, Option, Some, refl, sym, ap, arith, subst, length, slice_get, slice_set, reverse, inl, inr}
use Rattle.std.proofs.lemmas.Bool.Decides.{eqb_tells}
use Rattle.std.proofs.lemmas.List.{length-reverse}
use Rattle.afr_base.specs.declared.ids.ActorId.{ActorId}
use Rattle.afr_base.specs.declared.ids.BrickId.{BrickId}
use Rattle.afr_lines.specs.Told.{told_by}
use Rattle.afr_lines.specs.Work.{is_of, work}
use Rattle.afr_lines.specs.declared.line.Heard.TheVariants as heard_of
use Rattle.afr_lines.specs.declared.line.Line.{Line}
use Rattle.afr_lines.specs.declared.line.Line.TheVariants.{Ask, Begin, End}
use Rattle.afr_lines.specs.declared.line.Next.{Next}
use Rattle.afr_lines.specs.declared.line.Next.TheVariants as next
use Rattle.afr_lines.specs.declared.reply.Reply.{Reply}
use Rattle.afr_lines.specs.declared.request.Request.{Request}
use Rattle.afr_model.specs.Chosen.{Picks, ReadsPicked}
use Rattle.afr_object.specs.declared.change.Change.{Change}
use Rattle.afr_plan.specs.declared.plan.Plan.{Plan}
use Rattle.afr_law_picks.proofs.Asked.{asked_before, is_look_line}
use Rattle.afr_law_picks.specs.Laws.{number_in}
use Rattle.afr_law_picks.specs.Readings.{PickAnswers, asked_for_command, asked_of}
use Rattle.afr_rule.specs.Choosing.{Calls}
use Rattle.afr_server.specs.Serving.{Serving}
use Rattle.afr_law_picks.specs.Sources.Sources.{picks_of}
use Rattle.afr_law_picks.proofs.Kept.{none_asked}
use Rattle.afr_client.specs.Work as works
use Rattle.afr_client.specs.Work.{IsBusy, choices_heard, next_of}
use Rattle.afr_volume.specs.Acting.{HearsAny, HearsBy, IsAsked, IsBegun, IsEnded, Stepped, SteppedBy, picked_after, picked_by, picked_of, still_picked}
use Rattle.afr_volume.specs.Keeping.{CarriesOutCommand, IsActing}
use Rattle.afr_volume.specs.Laws.{Laws, RuleLaws}
use Rattle.afr_volume.specs.State.{AreRead}
use Rattle.afr_volume.specs.Turning.{ReadiedAt, StepsAt}
use Rattle.afr_volume.specs.declared.actor.Actor.{Actor}
use Rattle.afr_volume.proofs.AskKeeps.{kept_picked, hears_next}
use Rattle.afr_volume.proofs.Before.{IsBefore}
use Rattle.afr_volume.proofs.LineKeeps.{self}
use Rattle.afr_volume.proofs.LogLemmas.{reverse_push}
use Rattle.afr_volume.proofs.PickedLemmas.{here_set, other_set, picked_at, readied_picked, set_picked}
use Rattle.afr_volume.proofs.ReadingLemmas.{asked_is, other_asked, picked_same}
use Rattle.afr_volume.proofs.TurnKeeps.{carried}

-- ---- whatever the rule was, the line is one that a work may write
module _ {G : Type 0} (calls : Calls G) (choose : G) (rules : RuleLaws calls choose) (a : ActorId) (at : ℕ) where
  abbrev any_asked : (b : BrickId) (request : Request) (x y : Actor) (old new : List Serving) (written : Line) → IsAsked (HearsBy calls choose) a at b request x y old new written → IsAsked HearsAny a at b request x y old new written
  any_asked b request x y old new written k = record {
    given = k.given;
    epochs = k.epochs;
    load = k.load;
    carries = k.carries;
    fits = k.fits;
    served = k.served;
    is_line = k.is_line;
    heard = record {
      after = k.heard.after;
      picked = k.heard.picked;
      hears = record { among = rules.among (choices_heard (heard_of.Answer k.given.answer at) x.work) k.heard.picked k.heard.hears.answers; value = k.heard.hears.value };
      becomes = k.heard.becomes;
    };
  }

  any_line : (x y : Actor) (old new : List Serving) (written : Line) (line : Next) → SteppedBy (HearsBy calls choose) a at x y old new written line → SteppedBy HearsAny a at x y old new written line
  any_line x y old new written (next.Ask b request) k = any_asked b request x y old new written k
  any_line x y old new written (next.Begin change) k = k
  any_line x y old new written (next.End said) k = k
  any_line x y old new written (next.HealBegin g kind) k = k
  any_line x y old new written (next.HealEnd g kind said) k = k

  pub any_steps : (old new : List Actor) (bricks after : List Serving) (line : Line) → StepsAt (HearsBy calls choose) a at old new bricks after line → StepsAt HearsAny a at old new bricks after line
  any_steps old new bricks after line s = record {
    before = s.before;
    after = s.after;
    was = s.was;
    steps = any_line s.before s.after bricks after line (works.next_of at s.before.work) s.steps;
    set_is = s.set_is;
  }

-- ---- one line
-- a line keeps to what the rule picked, and what it leaves beside the log the rule answered
pub record ReadsOn (picks : Picks) (p : Plan) (a : ℕ) (log : List Line) (line : Line) (y : Actor) : Type 0 where
  pub picked : ReadsPicked picks p line log
  pub answers : PickAnswers picks (asked_of p a (line ∷ log)) (picked_by y)

module _ {G : Type 0} (calls : Calls G) (choose : G) (rules : RuleLaws calls choose) (laws : Laws) (p : Plan) (a : ActorId) (log : List Line) (servers : List Serving) (before : IsBefore p a log servers) (x y : Actor) (new : List Serving) (written : Line)
    (acting : IsActing p log a.0 servers x) (c : CarriesOutCommand p a.0 log x.visit.met x.visit.epochs servers x.work) (was : PickAnswers (picks_of calls choose) (asked_of p a.0 log) (picked_by x)) where
  abbrev kept : Option ℕ
  kept = number_in (still_picked x.visit.met x.picked)

  -- before the line the rule has answered for the looks of the present work
  answered : PickAnswers (picks_of calls choose) (asked_for_command p c.command (work a.0 log)) kept
  answered = by_met x.visit.met refl
    where
      by_met : (met : Bool) → x.visit.met ≡ met → PickAnswers (picks_of calls choose) (asked_for_command p c.command (work a.0 log)) (number_in (still_picked met x.picked))
      by_met true e = subst (λ (from : List (ℕ × ℕ)). PickAnswers (picks_of calls choose) from (picked_by x)) (acting.reads.within e ∙ rw c.present refl) was
      by_met false e = rw (acting.reads.fresh e) (none_asked p c.command)

  -- a line that doesn't look asks it for nothing new
  still_answered : (line : Line) → is_look_line line ≡ false → PickAnswers (picks_of calls choose) (asked_for_command p c.command ((line, log) ∷ work a.0 log)) kept
  still_answered line e = subst (λ (from : List (ℕ × ℕ)). PickAnswers (picks_of calls choose) from kept) (sym (asked_before p c.command line log (work a.0 log) e)) answered

  own_line : (line : Line) (y : Actor) (picked : Option BrickId) → is_of a.0 line ≡ true → y.picked ≡ picked → PickAnswers (picks_of calls choose) (asked_for_command p c.command ((line, log) ∷ work a.0 log)) (number_in picked)
      → PickAnswers (picks_of calls choose) (asked_of p a.0 (line ∷ log)) (picked_by y)
  own_line line y picked own is k = rw (asked_is p a.0 line log c.command own c.present, is) k

  asks : (b : BrickId) (asked : Request) → next_of (length log) x.work ≡ next.Ask b asked → IsAsked (HearsBy calls choose) a (length log) b asked x y servers new written → ReadsOn (picks_of calls choose) p a.0 log written y
  asks b asked e s = subst (λ (l : Line). ReadsOn (picks_of calls choose) p a.0 log l y) (sym s.is_line) (record {
    picked = rules.reads p c.command x.work a b asked (told_by s.given.answer) s.given.took log kept c.sound c.tells e (acting.reads.keeps c.command c.present) answered;
    answers = own_line (Ask a b asked (told_by s.given.answer) s.given.took) y (picked_after x.visit.met asked s.heard.picked x.picked) (self a.0) (ap (λ (z : Actor). z.picked) s.heard.becomes)
        (subst (PickAnswers (picks_of calls choose) (asked_for_command p c.command ((Ask a b asked (told_by s.given.answer) s.given.took, log) ∷ work a.0 log)))
        (picked_same x.visit.met asked s.heard.picked x.picked (kept_picked laws p a log servers before x y new written c b asked e any acting.reads).none)
        (rules.asks p c.command x.work (work a.0 log) a b asked s.given.answer s.given.took log s.heard.picked kept c.sound c.tells e (hears_next laws p a log servers before x y new written c b asked e any) (acting.reads.keeps c.command c.present)
        s.heard.hears.answers answered));
  })
    where
      any : IsAsked HearsAny a (length log) b asked x y servers new written
      any = any_asked calls choose rules a (length log) b asked x y servers new written s

  begins : (change : Change) → IsBegun a (length log) change x y servers new written → ReadsOn (picks_of calls choose) p a.0 log written y
  begins change s = subst (λ (l : Line). ReadsOn (picks_of calls choose) p a.0 log l y) (sym s.is_line) (record {
    picked = tt;
    answers = own_line (Begin a change) y (still_picked x.visit.met x.picked) (self a.0) (ap (λ (z : Actor). z.picked) s.becomes) (still_answered (Begin a change) refl);
  })

  ends : (said : Reply) → next_of (length log) x.work ≡ next.End said → IsEnded a said x y servers new written → ReadsOn (picks_of calls choose) p a.0 log written y
  ends said e s = subst (λ (l : Line). ReadsOn (picks_of calls choose) p a.0 log l y) (sym s.is_line) (record {
    picked = rules.ends p c.command x.work a said log kept c.sound c.tells e (acting.reads.keeps c.command c.present) answered;
    answers = own_line (End a said) y (still_picked x.visit.met x.picked) (self a.0) (ap (λ (z : Actor). z.picked) s.becomes) (still_answered (End a said) refl);
  })

  pub line_reads : Stepped (HearsBy calls choose) a (length log) x y servers new written → ReadsOn (picks_of calls choose) p a.0 log written y
  line_reads s = by_next (next_of (length log) x.work) refl s
    where
      by_next : (n : Next) → next_of (length log) x.work ≡ n → SteppedBy (HearsBy calls choose) a (length log) x y servers new written n → ReadsOn (picks_of calls choose) p a.0 log written y
      by_next (next.Ask b asked) e s = asks b asked e s
      by_next (next.Begin change) e s = begins change s
      by_next (next.End said) e s = ends said e s
      by_next (next.HealBegin g kind) e s = absurd s
      by_next (next.HealEnd g kind said) e s = absurd s

-- ---- all clients
pub all_read : (picks : Picks) (p : Plan) (a : ℕ) (log : List Line) (line : Line) (y : Actor) (picked : List (Option ℕ)) → 0 < a → ((c : ℕ) → is_of c line ≡ (a == c)) → ReadsOn picks p a log line y → AreRead picks p log picked → AreRead picks p (line ∷ log) (slice_set picked (a - 1) (picked_by y))
all_read picks p a log line y picked low own k before = record {
  past = (k.picked, before.past);
  present = λ i brick small is. by i brick small is (eqb_tells a (1 + i));
}
  where
    by : (i : ℕ) (brick : Option ℕ) → i < length p.clients → slice_get (slice_set picked (a - 1) (picked_by y)) i ≡ Some brick → ((a == 1 + i) ≡ true) × (a ≡ 1 + i) ⊎ ((a == 1 + i) ≡ false) × (a ≢ 1 + i) → PickAnswers picks (asked_of p (1 + i) (line ∷ log)) brick
    by i brick small is (inl e) =
        let same = e.1 in
        let at : a - 1 ≡ i = omega (arith, same) in
        let it : picked_by y ≡ brick = here_set picked (a - 1) (picked_by y) brick (subst (λ (j : ℕ). slice_get (slice_set picked (a - 1) (picked_by y)) j ≡ Some brick) (sym at) is) in
        subst (PickAnswers picks (asked_of p (1 + i) (line ∷ log))) it (subst (λ (c : ℕ). PickAnswers picks (asked_of p c (line ∷ log)) (picked_by y)) same k.answers)
    by i brick small is (inr e) =
        let apart = e.1 in
        let differs : (i ≡ a - 1 → ⊥) = λ at. apart (omega (arith, low, at)) in
        subst (λ (from : List (ℕ × ℕ)). PickAnswers picks from brick) (sym (other_asked p (1 + i) line log (own (1 + i) ∙ e.0))) (before.present i brick small (sym (other_set picked i (a - 1) (picked_by y) differs) ∙ is))

module _ {G : Type 0} (calls : Calls G) (choose : G) (rules : RuleLaws calls choose) (laws : Laws) (p : Plan) (a : ActorId) (items : List Line) (actors readied : List Actor) (servers : List Serving) (before : IsBefore p a (reverse items) servers) (r : ReadiedAt p a.0 actors readied)
    (mine : (x : Actor) → slice_get readied (a.0 - 1) ≡ Some x → IsActing p (reverse items) a.0 servers x) (busy : (x : Actor) → slice_get readied (a.0 - 1) ≡ Some x → IsBusy x.work) where
  pub reads_kept : (at : ℕ) (added : List Line) (new_actors : List Actor) (new_servers : List Serving) (line : Line) → at ≡ length items → a.0 - 1 < length p.clients → ((c : ℕ) → is_of c line ≡ (a.0 == c)) → StepsAt (HearsBy calls choose) a at readied new_actors servers new_servers line → added ≡ items ++ line ∷ []
      → AreRead (picks_of calls choose) p (reverse items) (picked_of actors) → AreRead (picks_of calls choose) p (reverse added) (picked_of new_actors)
  reads_kept at added new_actors new_servers line position there own s grown k =
      rw (grown, reverse_push items line)
      (subst (AreRead (picks_of calls choose) p (line ∷ reverse items)) (sym (ap picked_of s.set_is ∙ set_picked readied (a.0 - 1) s.after))
      (all_read (picks_of calls choose) p a.0 (reverse items) line s.after (picked_of readied) before.one own
      (line_reads calls choose rules laws p a (reverse items) servers before s.before s.after new_servers line acting (carried laws p a (reverse items) servers before s.before.visit.met s.before.visit.epochs s.before.work (busy s.before s.was) acting.carries) was stepped) kept))
    where
      acting : IsActing p (reverse items) a.0 servers s.before
      acting = mine s.before s.was

      kept : AreRead (picks_of calls choose) p (reverse items) (picked_of readied)
      kept = subst (AreRead (picks_of calls choose) p (reverse items)) (sym (readied_picked p a.0 actors readied r)) k

      again : 1 + (a.0 - 1) ≡ a.0
      again = let low = before.one in omega (arith, low)

      was : PickAnswers (picks_of calls choose) (asked_of p a.0 (reverse items)) (picked_by s.before)
      was = subst (λ (c : ℕ). PickAnswers (picks_of calls choose) (asked_of p c (reverse items)) (picked_by s.before)) again (kept.present (a.0 - 1) (picked_by s.before) there (picked_at readied (a.0 - 1) s.before s.was))

      stepped : Stepped (HearsBy calls choose) a (length (reverse items)) s.before s.after servers new_servers line
      stepped = subst (λ (at : ℕ). Stepped (HearsBy calls choose) a at s.before s.after servers new_servers line) (position ∙ sym (length-reverse items)) s.steps

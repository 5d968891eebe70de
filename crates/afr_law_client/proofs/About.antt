-- Each line of a transaction is about what its command's words name, and each post-op accuses those that missed something.
use Rattle.std.proofs.Common.{◌≡◌, ℕ, ◌<◌, ◌≤◌, ◌&&◌, not, nat_lt, Bool, true, false, List, ◌∷◌, None, Some, length, refl, sym, ◌∙◌, arith, subst, if◌then◌else◌}
use Rattle.std.proofs.lemmas.Bool.Decides.{nat_tests}
use Rattle.afr_base.specs.Bricks.{below, lowest, member, minus, is_nothing}
use Rattle.afr_base.specs.SetLemmas.{lowest_left, member_minus, within_below}
use Rattle.afr_base.specs.declared.ids.ActorId.{ActorId}
use Rattle.afr_base.specs.declared.ids.Gfid.{Gfid}
use Rattle.afr_base.specs.declared.ids.Shape.{Shape}
use Rattle.afr_base.proofs.TestLemmas.{one_value}
use Rattle.afr_object.specs.Tables.{object_of}
use Rattle.afr_choice.specs.Verdict.{is_holder}
use Rattle.afr_choice.specs.VerdictLemmas.{member_holders}
use Rattle.afr_lines.specs.Areas.{area_for, kind_for}
use Rattle.afr_lines.specs.Work.{Work}
use Rattle.afr_lines.specs.declared.answer.Told.{Told}
use Rattle.afr_lines.specs.declared.line.Line.{Line}
use Rattle.afr_lines.specs.declared.line.Next.{Next}
use Rattle.afr_lines.specs.declared.line.Next.TheVariants as next
use Rattle.afr_lines.specs.declared.request.Area.{Area}
use Rattle.afr_discipline.specs.Notes.{asked_at}
use Rattle.afr_discipline.specs.declared.register.Step.TheVariants.{Posts}
use Rattle.afr_plan.specs.declared.command.Command.{Command}
use Rattle.afr_plan.specs.declared.plan.Plan.{Plan}
use Rattle.afr_client_transaction.specs.Outcome.{reply_of}
use Rattle.afr_client_transaction.specs.Progress.{TransactionProgress, allowed, asks, left, next_at, number_in, numbered}
use Rattle.afr_client_transaction.specs.Sound.{Ready, Sound}
use Rattle.afr_client_transaction.specs.declared.stage.Stage.{Stage}
use Rattle.afr_client_transaction.specs.declared.stage.Stage.TheVariants.{Locking, Looking, Beginning, Preparing, Applying, Posting, Closing}
use Rattle.afr_client_transaction.proofs.Allowed.{allowed_next}
use Rattle.afr_client_transaction.proofs.Parts.{both}
use Rattle.afr_model.specs.Answered.{Counts, IsAbout}
use Rattle.afr_model.specs.Refusals.{by_locks}
use Rattle.afr_model.specs.Showing.{among, looked_by, looking, preparing, prepared, applied_at, begun_by}
use Rattle.afr_model.specs.Standing.{getting}
use Rattle.afr_law_client.specs.About.{BlamesNext, Led, NextLocked}
use Rattle.afr_law_client.specs.Fits.{AreExcused, missed_by, LineFits, LineFitsPhase}
use Rattle.afr_law_client.specs.Laws.{AboutNext, BlamesKept, ExcusedKept, IsNextLine}
use Rattle.afr_law_client.specs.Tells.{AreAllowed, AreBegun, During, Tells}
use Rattle.afr_law_client.proofs.Excused.{any_lock, ask_excused, begin_excused}
use Rattle.afr_law_client.proofs.Small.{object_named, numbered_kind, numbered_object}

module _ (p : Plan) (w : Work) (m : TransactionProgress) (s : Sound m) (t : Tells p w m) where
  -- what the locks and looks allow, nothing of theirs refuses
  pub passes : AreAllowed p.shape m.change w → by_locks p.shape (kind_for m.change) (area_for m.change) w ≡ None
  passes k = rw (object_named m.change, k.majority, k.quorum.reached, k.quorum.copies, k.quorum.clean) refl

  -- the number of the attempt
  attempt_is : (k : AreBegun m.change w) → begun_by w ≡ Some (number_in m.register.begun)
  attempt_is k = let e : m.register.begun ≡ Some k.attempt = t.sets.number ∙ k.number in rw e k.number

  counts : AreBegun m.change w → Counts (object_of m.change) (kind_for m.change) w
  counts k = record { change = numbered k.attempt m.change; begun = k.is_change; object = sym (numbered_object k.attempt m.change); counted = sym (numbered_kind k.attempt m.change) }

  -- ---- each line is about what the command's words name
  module _ (c : Command) (a : ActorId) (told : Told) (older : List Line) where
    about_unlock : (line : Line) (e : Bool) → IsNextLine a (if e then next.End (reply_of m.change m.register) else asks Closing m) told line → IsAbout p c line w
    about_unlock line true is = absurd is
    about_unlock line false is = subst (λ (line : Line). IsAbout p c line w) (sym is.1) tt

    pub about : (stage : Stage) (line : Line) → During stage p.shape m w → Ready stage m → Led stage p c m.change w → IsNextLine a (next_at stage (length older) m) told line → IsAbout p c line w
    about Locking line d e led is = subst (λ (line : Line). IsAbout p c line w) (sym is.1) (d.idle.unbegun, led)
    about Looking line d e led is = subst (λ (line : Line). IsAbout p c line w) (sym is.1) (record {
      unbegun = d.idle.unbegun;
      unread = led.unread;
      object = led.object;
      locked = λ area here. subst (λ (area : Area). member (among (getting area) w) (lowest (left Looking m)) ≡ true) (one_value _ _ (sym led.area ∙ here))
          (subst (λ (x : List ℕ). member x (lowest (left Looking m)) ≡ true) t.sets.granted (lowest_left m.asked.locked_on m.asked.looked_at e).1);
    })
    about Beginning line d e led is = subst (λ (line : Line). IsAbout p c line w) (sym is) (led.refuses (passes d.allows), led.asked)
    about Preparing line d e led is = subst (λ (line : Line). IsAbout p c line w) (sym is.1) (counts d.0.attempt)
    about Applying line d e led is = subst (λ (line : Line). IsAbout p c line w) (sym is.1) (attempt_is d.0.attempt)
    about Posting line d e led is = subst (λ (line : Line). IsAbout p c line w) (sym is.1) (attempt_is d.0.attempt, counts d.0.attempt)
    about Closing line d e led is = about_unlock line (is_nothing m.register.held) is

  -- ---- who is accused
  few : p.shape.n ≤ 5
  few = subst (λ (shape : Shape). shape.n ≤ 5) t.shape_is s.base.few

  -- a brick that didn't do the operation missed something
  module _ (d : During Posting p.shape m w) (k : AreExcused w) where
    abbrev g : Gfid
    g = object_of m.change

    by_pre : (c : ℕ) → member (among applied_at w) c ≡ false → member (among preparing w) c ≡ true → (f : Bool) → member (among prepared w) c ≡ f → member (missed_by g w) c ≡ true
    by_pre c none asked false e = k.pre g c asked e
    by_pre c none asked true e = k.apply g c (d.1.apply_all c e) none

    by_look : (c : ℕ) → member (among applied_at w) c ≡ false → c < p.shape.n → member (among (looking g) w) c ≡ true → (f : Bool) → is_holder (looked_by g w) c ≡ f → member (missed_by g w) c ≡ true
    by_look c none small asked false e = k.looked g d.0.allows.locked.locked c asked e
    by_look c none small asked true e = by_pre c none (d.1.pre_all c (member_holders (looked_by g w) c (omega (arith, few, small)) ∙ e)) (member (among prepared w) c) refl

    by_lock : (c : ℕ) → member (among applied_at w) c ≡ false → c < p.shape.n → (f : Bool) → member (among (getting (area_for m.change)) w) c ≡ f → member (missed_by g w) c ≡ true
    by_lock c none small false e = k.locked g (area_for m.change) c (d.0.allows.locked.all c small) e
    by_lock c none small true e = by_look c none small (d.0.allows.looked_all c e) (is_holder (looked_by g w) c) refl

    why : (c : ℕ) → member (minus (below p.shape.n) (among applied_at w)) c ≡ true → member (missed_by g w) c ≡ true
    why c is = apart (member (among applied_at w) c) refl (member (below p.shape.n) c) refl (sym (member_minus (below p.shape.n) (among applied_at w) c) ∙ is)
      where
        apart : (did : Bool) → member (among applied_at w) c ≡ did → (within : Bool) → member (below p.shape.n) c ≡ within → (not did && within) ≡ true → member (missed_by g w) c ≡ true
        apart true e within f h = absurd (cc h)
        apart false e false f h = absurd (cc h)
        apart false e true f h = by_lock c e (within_below p.shape.n c f) (member (among (getting (area_for m.change)) w) c) refl

    pub blames_post : Ready Posting m → BlamesNext p w (asks Posting m)
    blames_post e = record {
      change = numbered d.0.attempt.attempt m.change;
      begun = attempt_is d.0.attempt;
      is_change = d.0.attempt.is_change;
      object = sym (numbered_object d.0.attempt.attempt m.change);
      counted = sym (numbered_kind d.0.attempt.attempt m.change);
      once = subst (λ (x : List ℕ). member x asked ≡ false) d.1.post to_ask.0;
      did = subst (λ (x : List ℕ). member x asked ≡ true) t.sets.applied to_ask.1;
      enough = d.1.enough;
      others = rw (t.shape_is, t.sets.applied) refl;
      why = λ c. rw (t.shape_is, t.sets.applied) (why c);
    }
      where
        asked : ℕ
        asked = lowest (left Posting m)

        to_ask : (member (asked_at m.register Posts) asked ≡ false) × (member m.register.done asked ≡ true)
        to_ask = lowest_left m.register.done (asked_at m.register Posts) e

  blames_end : (e : Bool) → BlamesNext p w (if e then next.End (reply_of m.change m.register) else asks Closing m)
  blames_end true = tt
  blames_end false = tt

  pub blames : (stage : Stage) (at : ℕ) → During stage p.shape m w → Ready stage m → AreExcused w → BlamesNext p w (next_at stage at m)
  blames Locking at d e k = tt
  blames Looking at d e k = tt
  blames Beginning at d e k = tt
  blames Preparing at d e k = tt
  blames Applying at d e k = tt
  blames Posting at d e k = blames_post d k e
  blames Closing at d e k = blames_end (is_nothing m.register.held)

  -- ---- who missed something
  locked_end : (e : Bool) → NextLocked w (if e then next.End (reply_of m.change m.register) else asks Closing m)
  locked_end true = tt
  locked_end false = tt

  comes_locked : (stage : Stage) (at : ℕ) → During stage p.shape m w → NextLocked w (next_at stage at m)
  comes_locked Locking at d = tt
  comes_locked Looking at d = tt
  comes_locked Beginning at d = tt
  comes_locked Preparing at d = any_lock (object_of m.change) w d.0.allows.locked.locked
  comes_locked Applying at d = any_lock (object_of m.change) w d.0.allows.locked.locked
  comes_locked Posting at d = tt
  comes_locked Closing at d = locked_end (is_nothing m.register.held)

  pub excused_next : (a : ActorId) (told : Told) (line : Line) (older : List Line) (said : Next) → allowed m.register said ≡ true → NextLocked w said → IsNextLine a said told line → LineFits line → LineFitsPhase line → AreExcused w
      → AreExcused ((line, older) ∷ w)
  excused_next a told line older (next.Ask b asked) ok locked is fits phase k =
      subst (λ (line : Line). AreExcused ((line, older) ∷ w)) (sym is.1)
      (ask_excused a b asked told is.0 older w (subst LineFits is.1 fits) (subst LineFitsPhase is.1 phase) locked (omega (arith, small, s.base.few)) k)
    where
      small : b.0 < m.register.shape.n
      small = let h = (both (nat_lt b.0 m.register.shape.n) _ ok).0 in grind (arith, nat_tests, h)
  excused_next a told line older (next.Begin change) ok locked is fits phase k = subst (λ (line : Line). AreExcused ((line, older) ∷ w)) (sym is) (begin_excused a change older w k)
  excused_next a told line older other ok locked is fits phase k = absurd is

pub about_next : AboutNext
about_next p c w m a told line older s t led is = about p w m s t c a told older m.stage line t.during s.ready led is

pub blames_kept : BlamesKept
blames_kept p w m at s t k = blames p w m s t m.stage at t.during s.ready k

pub excused_kept : ExcusedKept
excused_kept p w m a told line older s t is fits phase k =
    excused_next p w m s t a told line older (next_at m.stage (length older) m) (allowed_next m s (length older)) (comes_locked p w m s t m.stage (length older) t.during) is fits phase k

-- The Heal locks of a heal: what one more line shows.
use Rattle.std.proofs.Common.{◌≡◌, ℕ, ◌<◌, ◌==◌, ◌&&◌, ◌||◌, not, Bool, true, false, List, ◌∷◌, None, refl, sym, ◌∙◌, ap, if◌then◌else◌}
use Rattle.afr_base.specs.Bricks.{added_if, member}
use Rattle.afr_base.specs.declared.ids.ActorId.{ActorId}
use Rattle.afr_base.specs.declared.ids.BrickId.{BrickId}
use Rattle.afr_base.specs.declared.ids.Gfid.{Gfid}
use Rattle.afr_base.specs.declared.ids.Kind.{Kind}
use Rattle.afr_base.specs.declared.ids.Shape.{Shape}
use Rattle.afr_heal.specs.Answers.{fits}
use Rattle.afr_law_heal.proofs.OpeningParts.{added_if_other, added_if_own, added_other, added_own, at_each, put_other, put_own}
use Rattle.afr_law_heal.specs.Stages.{TellsLocks}
use Rattle.afr_lines.specs.Work.{Work}
use Rattle.afr_lines.specs.declared.answer.Told.{Told}
use Rattle.afr_lines.specs.declared.answer.Told.TheVariants as as_told
use Rattle.afr_lines.specs.declared.line.Line.{Line}
use Rattle.afr_lines.specs.declared.line.Line.TheVariants.{Ask}
use Rattle.afr_lines.specs.declared.request.Area.{Area}
use Rattle.afr_lines.specs.declared.request.Request.TheVariants.{Lock}
use Rattle.afr_model.specs.Healing.{First, busy_after, busy_by, first_after, first_by, heal_asking, heal_getting, none_yet}
use Rattle.afr_model.specs.Showing.{among, is_fault, is_granted, is_held}
use Rattle.afr_model_moves.specs.Note.{put}
use Rattle.afr_model_moves.specs.Register.{Exact, HealLocks, asked_in}
use Rattle.afr_lines.specs.declared.lock.Domain.{Domain}
use Rattle.afr_lines.specs.declared.lock.Domain.TheVariants.{Heal}

-- a lock before the first HealBegin: who fails it is missing
pub first_lock : (s : First) (a : ActorId) (b : BrickId) (d : Domain) (area : Area) (told : Told) (took : Bool) → s ≡ record none_yet { missing = s.missing }
    → first_after (Ask a b (Lock d area) told took) s ≡ record none_yet { missing = added_if (is_fault told) b.0 s.missing }
first_lock s a b d area told took e = go s.begun (ap (λ (z : First). z.begun) e) ∙ ap (λ (z : First). record z { missing = added_if (is_fault told) b.0 s.missing }) e
  where
    go : (f : Bool) → f ≡ false → (if f then record s { still = false } else record s { missing = added_if (is_fault told) b.0 s.missing }) ≡ record s { missing = added_if (is_fault told) b.0 s.missing }
    go true e = absurd (cc e)
    go false e = refl

-- and it is the same in the words of the stage
pub unseen_by : (s : First) (m : List ℕ) → s ≡ record none_yet { missing = m } → s ≡ record none_yet { missing = s.missing }
unseen_by s m e = e ∙ ap (λ (m : List ℕ). record none_yet { missing = m }) (sym (ap (λ (z : First). z.missing) e))

module _ (shape : Shape) (g : Gfid) (kind : Kind) (r q : Exact) (w : Work) (a : ActorId) (b : ℕ) (area : Area) (told : Told) (took : Bool) (log : List Line)
    (small : b < shape.n) (new : asked_in r HealLocks b ≡ false) (fit : fits (Lock Heal area) told ≡ true) (calm : is_held told ≡ false)
    (asked : (x : ℕ) → asked_in q HealLocks x ≡ put (asked_in r HealLocks) b true x) (healing : (x : ℕ) → q.law.healing x ≡ put r.law.healing b (is_granted told) x)
    (views : (x : ℕ) → q.first_views x ≡ r.first_views x) (t : TellsLocks shape r g kind w) where
  abbrev more : Work
  more = (Ask a (record { 0 = b }) (Lock Heal area) told took, log) ∷ w

  asked_own : asked_in q HealLocks b ≡ true
  asked_own = asked b ∙ put_own (asked_in r HealLocks) b true

  asked_other : (x : ℕ) → (x == b) ≡ false → asked_in q HealLocks x ≡ asked_in r HealLocks x
  asked_other x e = asked x ∙ put_other (asked_in r HealLocks) b true x e

  healing_own : q.law.healing b ≡ is_granted told
  healing_own = healing b ∙ put_own r.law.healing b (is_granted told)

  healing_other : (x : ℕ) → (x == b) ≡ false → q.law.healing x ≡ r.law.healing x
  healing_other x e = healing x ∙ put_other r.law.healing b (is_granted told) x e

  first_is : first_by more ≡ record none_yet { missing = added_if (is_fault told) b (first_by w).missing }
  first_is = first_lock (first_by w) a (record { 0 = b }) Heal area told took t.unseen

  missing_is : (first_by more).missing ≡ added_if (is_fault told) b (first_by w).missing
  missing_is = ap (λ (z : First). z.missing) first_is

  free_is : busy_by more ≡ None
  free_is = ap (busy_after (Ask a (record { 0 = b }) (Lock Heal area) told took)) t.free ∙ go told fit calm
    where
      go : (told : Told) → fits (Lock Heal area) told ≡ true → is_held told ≡ false → busy_after (Ask a (record { 0 = b }) (Lock Heal area) told took) None ≡ None
      go as_told.Granted f e = refl
      go (as_told.Held owner) f e = absurd (cc e)
      go as_told.NotConnected f e = refl
      go as_told.Failed f e = refl
      go _ f e = absurd (cc f)

  missing_own : member (added_if (is_fault told) b (first_by w).missing) b ≡ (asked_in q HealLocks b && not (q.law.healing b))
  missing_own = added_if_own (is_fault told) b (first_by w).missing ∙ rw (asked_own, healing_own) (go told fit calm (member (first_by w).missing b) (t.missing b small ∙ rw new refl))
    where
      go : (told : Told) → fits (Lock Heal area) told ≡ true → is_held told ≡ false → (m : Bool) → m ≡ false → (is_fault told || m) ≡ not (is_granted told)
      go as_told.Granted f e m h = h
      go (as_told.Held owner) f e m h = absurd (cc e)
      go as_told.NotConnected f e m h = refl
      go as_told.Failed f e m h = refl
      go _ f e m h = absurd (cc f)

  missing_all : (x : ℕ) → x < shape.n → member (first_by more).missing x ≡ (asked_in q HealLocks x && not (q.law.healing x))
  missing_all x l = ap (λ (s : List ℕ). member s x) missing_is
      ∙ at_each (λ (x : ℕ). member (added_if (is_fault told) b (first_by w).missing) x ≡ (asked_in q HealLocks x && not (q.law.healing x))) b x missing_own
      (λ e. added_if_other (is_fault told) b _ x e ∙ t.missing x l ∙ sym (rw (asked_other x e, healing_other x e) refl))

  asked_all : (x : ℕ) → x < shape.n → member (among heal_asking more) x ≡ asked_in q HealLocks x
  asked_all x l = at_each (λ (x : ℕ). x < shape.n → member (among heal_asking more) x ≡ asked_in q HealLocks x) b x (λ l. added_own b _ ∙ sym asked_own) (λ e l. added_other b _ x e ∙ t.asked x l ∙ sym (asked_other x e)) l

  granted_all : (x : ℕ) → member (among heal_getting more) x ≡ q.law.healing x
  granted_all x = at_each (λ (x : ℕ). member (added_if (is_granted told) b (among heal_getting w)) x ≡ q.law.healing x) b x
      (added_if_own (is_granted told) b _ ∙ go (is_granted told) (member (among heal_getting w) b) (t.granted b ∙ t.fresh b new) ∙ sym healing_own)
      (λ e. added_if_other (is_granted told) b _ x e ∙ t.granted x ∙ sym (healing_other x e))
    where
      go : (f m : Bool) → m ≡ false → (f || m) ≡ f
      go true m e = refl
      go false m e = e

  fresh_all : (x : ℕ) → asked_in q HealLocks x ≡ false → q.law.healing x ≡ false
  fresh_all x = at_each (λ (x : ℕ). asked_in q HealLocks x ≡ false → q.law.healing x ≡ false) b x (λ h. absurd (cc (sym asked_own ∙ h)))
      (λ e h. healing_other x e ∙ t.fresh x (sym (asked_other x e) ∙ h))

  low_all : (x : ℕ) → q.law.healing x ≡ true → x < shape.n
  low_all x = at_each (λ (x : ℕ). q.law.healing x ≡ true → x < shape.n) b x (λ h. small) (λ e h. t.low x (sym (healing_other x e) ∙ h))

  -- one Heal lock more, where no other holds it
  pub locks_more : TellsLocks shape q g kind more
  locks_more = record {
    unseen = unseen_by (first_by more) _ first_is;
    missing = missing_all;
    asked = asked_all;
    granted = granted_all;
    fresh = fresh_all;
    low = low_all;
    unlocked = t.unlocked;
    free = free_is;
    whole = record { prepared = t.whole.prepared; settling = t.whole.settling; settled = t.whole.settled; unsettled = t.whole.unsettled };
    none = t.none;
    unviewed = λ x l. views x ∙ t.unviewed x l;
  }

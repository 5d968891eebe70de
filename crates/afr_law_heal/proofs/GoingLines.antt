-- One line more of a heal after its first looks: what it leaves of what its lines tell.
use Rattle.std.proofs.Common.{◌≡◌, ℕ, ◌<◌, ◌&&◌, ◌||◌, not, Bool, true, false, List, ◌∷◌, refl, ◌∙◌, Option, None, if◌then◌else◌}
use Rattle.afr_base.specs.Bricks.{member}
use Rattle.afr_base.specs.declared.ids.ActorId.{ActorId}
use Rattle.afr_base.specs.declared.ids.BrickId.{BrickId}
use Rattle.afr_base.specs.declared.ids.Gfid.{Gfid}
use Rattle.afr_base.specs.declared.ids.Kind.{Kind}
use Rattle.afr_base.specs.declared.ids.Kind.TheVariants.{Attrs, Bytes, Names}
use Rattle.afr_base.specs.declared.ids.Shape.{Shape}
use Rattle.afr_choice.specs.declared.looked.Looked.{Looked}
use Rattle.afr_heal.specs.Engine.{has_part}
use Rattle.afr_heal.specs.Standing.{behind}
use Rattle.afr_heal.proofs.Parts.{not_both}
use Rattle.afr_law_heal.specs.Stages.{TellsAfter, raises}
use Rattle.afr_lines.specs.Work.{Work}
use Rattle.afr_lines.specs.declared.answer.Told.{Told}
use Rattle.afr_lines.specs.declared.line.Line.{Line}
use Rattle.afr_lines.specs.declared.line.Line.TheVariants as line
use Rattle.afr_lines.specs.declared.request.Request.{Request}
use Rattle.afr_lines.specs.declared.request.Request.TheVariants.{List as Names_of, Mend, Pre, ReadAttrs, ReadBytes, Settle, Unlock}
use Rattle.afr_model.specs.Healing.{busy_by, first_by, heal_asking, heal_getting, settled_at, settling, whole_of}
use Rattle.afr_model.specs.HealReplies.{settles}
use Rattle.afr_model.specs.Moved.{is_whole_by, pieces}
use Rattle.afr_model.specs.Showing.{among, has, looked_by, prepared}
use Rattle.afr_model.specs.Standing.{asking, getting}
use Rattle.afr_model_moves.specs.Register.{Exact, HealPres, Looks, Settles, Step, WorkLocks, asked_in, holder, is_opening, same_step}
use Rattle.afr_model_moves.specs.Rules.{Register}

-- ---- the lines that change neither looks nor locks
-- what their folds keep
pub record SameFolds (g : Gfid) (kind : Kind) (v w : Work) : Type 0 where
  pub first : first_by v ≡ record (first_by w) { still = false }
  pub free : busy_by w ≡ None → busy_by v ≡ None
  pub asks : among heal_asking v ≡ among heal_asking w
  pub gets : among heal_getting v ≡ among heal_getting w
  pub works : among (asking (whole_of g kind)) v ≡ among (asking (whole_of g kind)) w
  pub locks : among (getting (whole_of g kind)) v ≡ among (getting (whole_of g kind)) w
  pub count : pieces v ≡ pieces w
  pub shows : looked_by g v ≡ looked_by g w
  pub whole : is_whole_by (whole_of g kind) v ≡ is_whole_by (whole_of g kind) w

-- the requests that do
abbrev pub is_quiet : Request → Bool
is_quiet (Unlock domain area) = true
is_quiet (ReadBytes g at len) = true
is_quiet (ReadAttrs g) = true
is_quiet (Names_of g) = true
is_quiet (Pre g kind) = true
is_quiet (Mend repair) = true
is_quiet (Settle g kind less) = true
is_quiet request = false

module _ (g : Gfid) (kind : Kind) (w : Work) (a : ActorId) (b : BrickId) (told : Told) (took : Bool) (log : List Line) where
  -- one of these
  pub quiet : (request : Request) → is_quiet request ≡ true → SameFolds g kind ((line.Ask a b request told took, log) ∷ w) w
  quiet (Unlock domain area) h = record { first = refl; free = λ e. rw e refl; asks = refl; gets = refl; works = refl; locks = refl; count = refl; shows = refl; whole = refl }
  quiet (ReadBytes o at len) h = record { first = refl; free = λ e. rw e refl; asks = refl; gets = refl; works = refl; locks = refl; count = refl; shows = refl; whole = refl }
  quiet (ReadAttrs o) h = record { first = refl; free = λ e. rw e refl; asks = refl; gets = refl; works = refl; locks = refl; count = refl; shows = refl; whole = refl }
  quiet (Names_of o) h = record { first = refl; free = λ e. rw e refl; asks = refl; gets = refl; works = refl; locks = refl; count = refl; shows = refl; whole = refl }
  quiet (Pre o of) h = record { first = refl; free = λ e. rw e refl; asks = refl; gets = refl; works = refl; locks = refl; count = refl; shows = refl; whole = refl }
  quiet (Mend repair) h = record { first = refl; free = λ e. rw e refl; asks = refl; gets = refl; works = refl; locks = refl; count = refl; shows = refl; whole = refl }
  quiet (Settle o of less) h = record { first = refl; free = λ e. rw e refl; asks = refl; gets = refl; works = refl; locks = refl; count = refl; shows = refl; whole = refl }
  quiet _ h = absurd (cc h)

-- ---- what is kept
module _ (shape : Shape) (r : Exact) (seen looked : Looked) (s : ℕ) (g : Gfid) (kind : Kind) (w v : Work) (m : SameFolds g kind v w) (ta : TellsAfter shape r seen looked s g kind w) where
  -- the bricks that are raised don't depend on the step
  module _ (law : Register) (step : Step) (asked possible : ℕ → Bool) (reads : ℕ → Option ℕ) (upto : ℕ) (broken : Bool) where
    abbrev q : Exact
    q = record r { law = law; step = step; asked = asked; possible = possible; reads = reads; upto = upto; broken = broken }

    raises_same : (kind : Kind) (x : ℕ) → raises shape q s kind x ≡ raises shape r s kind x
    raises_same Bytes x = refl
    raises_same Attrs x = refl
    raises_same Names x = refl

    pub carried_to : same_step r.step WorkLocks ≡ false → same_step step WorkLocks ≡ false → same_step step Looks ≡ false
        → ((x : ℕ) → x < shape.n → member (among prepared v) x ≡ (raises shape r s kind x && (not (is_opening r.part) || behind q HealPres x)))
        → ((x : ℕ) → x < shape.n → member (among settling v) x ≡ (not (has_part kind r.part) && holder r.first_views x && behind q Settles x))
        → ((x : ℕ) → x < shape.n → member (among settled_at v) x ≡ member (among settling v) x)
        → (has_part kind r.part ≡ true → has settles v ≡ false)
        → TellsAfter shape q seen looked s g kind v
    carried_to was now past opened closing closed unsettled = record {
      begun = rw m.first ta.begun;
      still = λ h. rw m.first refl;
      missing = λ x l. rw m.first (ta.missing x l);
      first = rw m.first ta.first;
      none = rw m.first ta.none;
      low = ta.low;
      shown = ta.shown;
      numbers = ta.numbers;
      free = m.free ta.free;
      asked = λ x l. rw m.asks (ta.asked x l);
      worked = λ x h. rw m.works (on _ _ _ _ _ was (ta.worked x (rw m.gets at h)));
      watched = λ x h. rw m.first (ta.watched x (rw m.locks at h));
      opened = λ x l. rw (raises_same kind x) (opened x l);
      closing = closing;
      closed = closed;
      unsettled = unsettled;
      one = λ h. rw m.count (ta.one h);
      some = rw m.count ta.some;
      more = λ h e. rw m.count (ta.more h was);
      again = λ h. m.shows ∙ ta.again h ∙ rw (was, now) refl;
      finish = λ h. rw m.whole (ta.finish h);
      parted = λ h e area is. absurd (not_both (same_step step WorkLocks) e now);
      present = λ h e. let p = ta.present h was in (p.0, p.1, λ x a. absurd (none x a));
    }
      where
        on : (a f n l z : Bool) → n ≡ false → (a || (f && n && l)) ≡ true → (a || z) ≡ true
        on true f n l z e h = refl
        on false true true l z e h = absurd (cc e)
        on false true false l z e h = absurd (cc h)
        on false false n l z e h = absurd (cc h)

        none : (x : ℕ) → asked_in q Looks x ≡ true → ⊥
        none x = go (same_step step Looks) past
          where
            go : (f : Bool) → f ≡ false → (if f then asked else (λ y. false)) x ≡ true → ⊥
            go true e h = cc e
            go false e h = cc h

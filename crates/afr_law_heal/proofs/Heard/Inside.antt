-- Once the lines of a heal have a Heal lock, the register of their actor is that of a heal.
use Rattle.std.proofs.Common.{◌≡◌, ℕ, Bool, true, false, List, [], ◌∷◌, Some, length, refl, sym, ◌∙◌, subst, if◌then◌else◌, inl, inr}
use Rattle.afr_base.specs.Bricks.{member}
use Rattle.afr_base.specs.declared.ids.ActorId.{ActorId}
use Rattle.afr_base.specs.declared.ids.BrickId.{BrickId}
use Rattle.afr_base.specs.declared.ids.Kind.{Kind}
use Rattle.afr_law.proofs.Discipline.Asks.{kept, kept_dropped}
use Rattle.afr_lines.specs.Places.{Between, Fresh, Indexed, Place, Within, next_place, opens, place_of}
use Rattle.afr_lines.specs.Work.{is_end, is_of, work}
use Rattle.afr_lines.specs.declared.answer.Told.{Told}
use Rattle.afr_lines.specs.declared.answer.Told.TheVariants.{Granted}
use Rattle.afr_lines.specs.declared.line.Line.{Line}
use Rattle.afr_lines.specs.declared.line.Line.TheVariants.{Ask, Begin, End, Event, HealBegin, HealEnd}
use Rattle.afr_lines.specs.declared.request.Area.{Area}
use Rattle.afr_lines.specs.declared.request.Request.{Request}
use Rattle.afr_lines.specs.declared.request.Request.TheVariants as request_of
use Rattle.afr_lines.specs.declared.lock.Domain.TheVariants.{Heal}
use Rattle.afr_model.specs.Healing.{heal_asking, heal_by}
use Rattle.afr_model.specs.Showing.{among}
use Rattle.afr_model_moves.specs.Discipline.{in_force, note}
use Rattle.afr_model_moves.specs.Followed.{register_by}
use Rattle.afr_model_moves.specs.Past.{is_gone}
use Rattle.afr_model_moves.specs.Register.{Exact}
use Rattle.afr_model_moves.specs.Rules as weak
use Rattle.afr_model_moves.specs.Rules.{Register}

-- ---- one line
-- a Heal lock begins a heal, whatever it is told
lock_begins : (n : ℕ) (w : Register) (b : ℕ) (area : Area) (told : Told) (gone : Bool) → (weak.dropping gone b (weak.note_ask n w b (request_of.Lock Heal area) told)).heal ≡ true
lock_begins n w b area Granted true = refl
lock_begins n w b area Granted false = refl
lock_begins n w b area told true = refl
lock_begins n w b area told false = refl

-- no request ends one
ask_stays : (n : ℕ) (w : Register) (b : ℕ) (request : Request) (told : Told) (gone : Bool) → w.heal ≡ true → (weak.dropping gone b (weak.note_ask n w b request told)).heal ≡ true
ask_stays n w b request told gone inside = elim ((kept_dropped request w (weak.note_ask n w b request told) gone b (kept n w b request told)).heal) [
  | inl e ↦ e ∙ inside
  | inr e ↦ e.0
]

within_lock : (place : Place) (a : ActorId) (b : BrickId) (area : Area) (told : Told) (took : Bool) → next_place place (Ask a b (request_of.Lock Heal area) told took) ≡ Within
within_lock Fresh a b area told took = refl
within_lock Indexed a b area told took = refl
within_lock Between a b area told took = refl
within_lock Within a b area told took = refl

-- ---- along the log
-- the actor's register is that of a heal, in force at the actor's next line
pub record IsInside (n : ℕ) (keeps : ℕ → Kind → Bool) (a : ℕ) (log : List Line) : Type 0 where
  pub place : place_of a log ≡ Within
  pub heal : (register_by n keeps a log).law.heal ≡ true

module _ (n : ℕ) (keeps : ℕ → Kind → Bool) (a x : ℕ) where
  -- brick x was asked for a Heal lock by the lines of the present heal
  abbrev HasLock : List Line → Type 0
  HasLock log = member (among heal_asking (heal_by (work a log))) x ≡ true

  -- the place and the register after one more line of the actor
  abbrev InsideAfter : Line → List Line → Type 0
  InsideAfter line older = (next_place (place_of a older) line ≡ Within) × ((note n keeps (in_force (opens (place_of a older) line) (register_by n keeps a older)) (length older) (Some line)).law.heal ≡ true)

  -- a line in a heal that keeps it
  stays : (line : Line) (older : List Line) → IsInside n keeps a older → next_place Within line ≡ Within → ((r : Exact) → r.law.heal ≡ true → (note n keeps r (length older) (Some line)).law.heal ≡ true) → InsideAfter line older
  stays line older k place keep = rw k.place (place, keep (register_by n keeps a older) k.heal)

  own : (line : Line) (older : List Line) → (HasLock older → IsInside n keeps a older) → is_end line ≡ false → member (among heal_asking (heal_by ((line, older) ∷ work a older))) x ≡ true → InsideAfter line older
  own (Ask y b (request_of.Lock Heal area) told took) older was e h =
      (within_lock (place_of a older) y b area told took, lock_begins n (in_force (opens (place_of a older) (Ask y b (request_of.Lock Heal area) told took)) (register_by n keeps a older)).law b.0 area told (is_gone told))
  own (Ask y b request_of.Index told took) older was e h = absurd (cc h)
  own (Ask y b request told took) older was e h = stays (Ask y b request told took) older (was h) refl (λ r inside. ask_stays n r.law b.0 request told (is_gone told) inside)
  own (Begin y change) older was e h = stays (Begin y change) older (was h) refl (λ r inside. inside)
  own (HealBegin y g kind) older was e h = stays (HealBegin y g kind) older (was h) refl (λ r inside. inside)
  own (End y reply) older was e h = absurd (cc e)
  own (HealEnd y g kind reply) older was e h = absurd (cc h)
  own (Event event) older was e h = stays (Event event) older (was h) refl (λ r inside. inside)

  -- where the lines of the present heal have a Heal lock
  pub is_inside : (log : List Line) → HasLock log → IsInside n keeps a log
  is_inside [] h = absurd (cc h)
  is_inside (line ∷ older) h = go (is_of a line) refl (is_end line) refl h (is_inside older)
    where
      Goal : Bool → Type 0
      Goal mine =
          ((if mine then next_place (place_of a older) line else place_of a older) ≡ Within)
          × ((if mine then note n keeps (in_force (opens (place_of a older) line) (register_by n keeps a older)) (length older) (Some line) else register_by n keeps a older).law.heal ≡ true)

      as_record : Goal (is_of a line) → IsInside n keeps a (line ∷ older)
      as_record k = record { place = k.0; heal = k.1 }

      go : (mine : Bool) → is_of a line ≡ mine → (last : Bool) → is_end line ≡ last
          → member (among heal_asking (heal_by (if mine then (if last then [] else (line, older) ∷ work a older) else work a older))) x ≡ true
          → (HasLock older → IsInside n keeps a older) → IsInside n keeps a (line ∷ older)
      go true e true f h was = absurd (cc h)
      go true e false f h was = as_record (subst Goal (sym e) (own line older was f h))
      go false e last f h was = as_record (subst Goal (sym e) ((was h).place, (was h).heal))

-- A broken heal keeps standing: it gives its locks back.
use Rattle.std.proofs.Common.{ℕ, ◌≡◌, if◌then◌else◌, Bool, false, refl, subst, sym, true}
use Rattle.afr_base.specs.declared.ids.Gfid.{Gfid}
use Rattle.afr_base.specs.declared.ids.Kind.{Kind}
use Rattle.afr_heal.proofs.Parts.{without_no}
use Rattle.afr_heal.proofs.StagesForms.{lost, lost_form}
use Rattle.afr_heal.proofs.StagesWalk.{broken_elim}
use Rattle.afr_heal.specs.Answers.{fits}
use Rattle.afr_heal.specs.Engine.{next_of}
use Rattle.afr_heal.specs.Laws.{Keeps}
use Rattle.afr_heal.specs.Requests.{area_now}
use Rattle.afr_heal.specs.Standing.{Base, Broken, Ending}
use Rattle.afr_lines.specs.declared.answer.Told.{Told}
use Rattle.afr_lines.specs.declared.request.Area.{Area}
use Rattle.afr_lines.specs.declared.request.Request.TheVariants.{Unlock}
use Rattle.afr_model_moves.specs.Past.{is_gone}
use Rattle.afr_model_moves.specs.Register.{Exact}
use Rattle.afr_model_moves.specs.Rules.{Register, heal_area, is_area}
use Rattle.afr_model_moves.specs.Sets.{with, without}
use Rattle.afr_lines.specs.declared.lock.Domain.TheVariants.{Heal, Work}
use Rattle.afr_lines.specs.declared.answer.Told.TheVariants as as_told
use Rattle.afr_model_moves.specs.Rules as weak

-- what every stage keeps of the law's register
module _ (g : Gfid) where
  -- an unlock that was done
  pub released_base : (law : Register) (f h : Bool) (area : Area) (b : ℕ) → Base g law.heal law.object law.second_held
      → (let q = if f then record law { closed = with law.closed b; held = without law.held b } else record law { second_held = if h then without law.second_held b else law.second_held } in Base g q.heal q.object q.second_held)
  released_base law true h area b k = record { inside = k.inside; is_object = k.is_object; no_second = k.no_second }
  released_base law false true area b k = record { inside = k.inside; is_object = k.is_object; no_second = λ x. without_no law.second_held b x (k.no_second x) }
  released_base law false false area b k = record { inside = k.inside; is_object = k.is_object; no_second = k.no_second }

  -- a session that has ended
  pub dropped_base : (law : Register) (gone : Bool) (b : ℕ) → Base g law.heal law.object law.second_held → (let q = weak.dropping gone b law in Base g q.heal q.object q.second_held)
  dropped_base law true b k = record { inside = k.inside; is_object = k.is_object; no_second = λ x. without_no law.second_held b x (k.no_second x) }
  dropped_base law false b k = k

  -- an unlock that failed
  pub unlocked_base : (law : Register) (f : Bool) (b : ℕ) → Base g law.heal law.object law.second_held → (let q = if f then record law { closed = with law.closed b } else law in Base g q.heal q.object q.second_held)
  unlocked_base law true b k = record { inside = k.inside; is_object = k.is_object; no_second = k.no_second }
  unlocked_base law false b k = k

  -- an unlock keeps the heal's object
  pub unlock_base : (n : ℕ) (law : Register) (b : ℕ) (area : Area) (told : Told) → fits (Unlock Work area) told ≡ true → Base g law.heal law.object law.second_held → (let q = weak.note_ask n law b (Unlock Work area) told in Base g q.heal q.object q.second_held)
  unlock_base n law b area as_told.Done h k = released_base law (is_area law.area area) (is_area law.second area) area b k
  unlock_base n law b area as_told.NotConnected h k = unlocked_base law (is_area law.area area) b k
  unlock_base n law b area as_told.Failed h k = unlocked_base law (is_area law.area area) b k
  unlock_base n law b area _ h k = absurd (cc h)

  pub heal_unlock_base : (n : ℕ) (law : Register) (b : ℕ) (area : Area) (told : Told) → fits (Unlock Heal area) told ≡ true → Base g law.heal law.object law.second_held → (let q = weak.note_ask n law b (Unlock Heal area) told in Base g q.heal q.object q.second_held)
  heal_unlock_base n law b area as_told.Done h k = record { inside = k.inside; is_object = k.is_object; no_second = k.no_second }
  heal_unlock_base n law b area as_told.NotConnected h k = k
  heal_unlock_base n law b area as_told.Failed h k = k
  heal_unlock_base n law b area _ h k = absurd (cc h)

-- whatever is told to the next line, the heal keeps standing
abbrev pub KeepsAt : (n : ℕ) → (ℕ → Kind → Bool) → ((ℕ → Bool) → ℕ) → Exact → ℕ → Gfid → Kind → Type 0
KeepsAt n keeps pick r s g kind = Keeps n keeps pick r s g kind (next_of n keeps r s g kind)

module _ (n : ℕ) (keeps : ℕ → Kind → Bool) (pick : (ℕ → Bool) → ℕ) where
  broken_kept : (q : Exact) (s : ℕ) (g : Gfid) (kind : Kind) → Broken (lost q g) g → KeepsAt n keeps pick (lost q g) s g kind
  broken_kept q s g kind k = broken_elim n keeps (lost q g) s g kind (Keeps n keeps pick (lost q g) s g kind) refl
      (λ b l h t told f. Ending (record { base = dropped_base g (weak.note_ask n (lost q g).law b (Unlock Work (area_now (lost q g) g kind)) told) (is_gone told) b (unlock_base g n (lost q g).law b (area_now (lost q g) g kind) told f k.base); broken = refl }))
      (λ none b l h t told f. Ending (record { base = dropped_base g (weak.note_ask n (lost q g).law b (Unlock Heal (heal_area g.0)) told) (is_gone told) b (heal_unlock_base g n (lost q g).law b (heal_area g.0) told f k.base); broken = refl }))
      (λ none off. tt)

  -- only unlocks are left, whatever is told
  pub ending : (r : Exact) (s : ℕ) (g : Gfid) (kind : Kind) → Broken r g → KeepsAt n keeps pick r s g kind
  ending r s g kind k = let e = lost_form n keeps r s g kind k in subst (λ (r : Exact). KeepsAt n keeps pick r s g kind) (sym e) (broken_kept r s g kind (subst (λ (r : Exact). Broken r g) e k))

-- Which bricks a heal of a quiet round asked for its locks, and that none failed or refused.
use Rattle.std.proofs.Common.{◌≡◌, ℕ, ◌&&◌, ◌||◌, not, ◌==◌, Bool, true, false, ◌⊎◌, inl, inr, refl, sym, ◌∙◌, subst, ap, arith, List, [], ◌∷◌, ◌++◌, Option, Some, None, true≢false}
use Rattle.std.specs.Prelude.{if◌then◌else◌}
use Rattle.afr_base.specs.Bricks.{added, added_if, member, removed}
use Rattle.afr_base.specs.SetLemmas.{member_added, member_removed}
use Rattle.afr_base.specs.declared.ids.ActorId.{ActorId}
use Rattle.afr_base.specs.declared.ids.BrickId.{BrickId}
use Rattle.afr_base.specs.declared.ids.Gfid.{Gfid}
use Rattle.afr_base.specs.declared.ids.Kind.{Kind}
use Rattle.afr_lines.specs.Overlap.{same_area}
use Rattle.afr_lines.specs.Work.{Work}
use Rattle.afr_lines.specs.declared.answer.Told.{Told}
use Rattle.afr_lines.specs.declared.answer.Told.TheVariants.{Granted, Held, NotConnected}
use Rattle.afr_lines.specs.declared.line.Line.{Line}
use Rattle.afr_lines.specs.declared.line.Line.TheVariants.{Ask, HealBegin}
use Rattle.afr_lines.specs.declared.request.Area.{Area}
use Rattle.afr_lines.specs.declared.request.Request.TheVariants.{Lock, Look, Unlock}
use Rattle.afr_lines.specs.declared.lock.Domain.{Domain}
use Rattle.afr_lines.specs.declared.lock.Domain.TheVariants.{Heal, Work as WorkDomain}
use Rattle.afr_plan.specs.declared.plan.Plan.{Plan}
use Rattle.afr_model.specs.HealReplies.{fails_heal, is_failed}
use Rattle.afr_model.specs.Healing.{First, busy_after, busy_by, first_after, first_by, heal_asking, heal_getting}
use Rattle.afr_model.specs.Honest.{IsHonest, in_the_way, lock_answer}
use Rattle.afr_lines.specs.Told.{told_by}
use Rattle.afr_model.specs.Quiet.{tells_any_fault}
use Rattle.afr_model.specs.Showing.{among, is_fault, is_granted, is_held}
use Rattle.afr_model.specs.Standing.{asking, getting, marked}
use Rattle.afr_law_quiet.proofs.Lists.Runs.{works}
use Rattle.afr_law_quiet.proofs.Lists.Steps.{IsFree, answered}
use Rattle.afr_law_quiet.proofs.Lists.Parts.{Part, Parts}
use Rattle.afr_choice.specs.declared.looked.Looked.{Looked}

-- ---- answers to locks
lock_says : (way : Option ActorId) (told : Told) → told ≡ told_by (lock_answer way) → (told ≡ Granted) ⊎ ((owner : ActorId) × (told ≡ Held owner))
lock_says None told e = inl e
lock_says (Some owner) told e = inr (owner, e)

pub lock_told : (p : Plan) (a : ActorId) (y : BrickId) (domain : Domain) (area : Area) (told : Told) (took : Bool) (older : List Line) → IsHonest p (Ask a y (Lock domain area) told took) older → is_fault told ≡ false
    → (told ≡ Granted) ⊎ ((owner : ActorId) × (told ≡ Held owner))
lock_told p a y domain area told took older h ok = lock_says (in_the_way a (Lock domain area) y.0 older) told (answered p a y (Lock domain area) told took older h ok).0

granted_here : (p : Plan) (a : ActorId) (y : BrickId) (area : Area) (told : Told) (took : Bool) (older : List Line) → IsHonest p (Ask a y (Lock Heal area) told took) older → is_fault told ≡ false → IsFree (Ask a y (Lock Heal area) told took) → told ≡ Granted
granted_here p a y area told took older h ok free = elim (lock_told p a y Heal area told took older h ok) [
  | inl e ↦ e
  | inr w ↦ absurd (subst (λ (t : Told). IsFree (Ask a y (Lock Heal area) t took)) w.1 free)
]

-- ---- nobody is at the heal, and nothing failed
free_busy : (line : Line) → IsFree line → busy_after line None ≡ None
free_busy (Ask a b (Lock Heal area) (Held owner) took) f = absurd f
free_busy line f = refl

fine_missing : (line : Line) (begun still : Bool) (looked : Looked) → tells_any_fault line ≡ false → (first_after line (record { begun = begun; still = still; missing = []; looked = looked })).missing ≡ []
fine_missing (HealBegin a g kind) begun still looked ok = refl
fine_missing (Ask a b (Look g) told took) begun true looked ok = rw ok refl
fine_missing (Ask a b (Look g) told took) begun false looked ok = refl
fine_missing (Ask a b (Lock d area) told took) true still looked ok = refl
fine_missing (Ask a b (Lock d area) told took) false still looked ok = rw ok refl
fine_missing line begun still looked ok = refl

fine_fails : (line : Line) (w : Work) → tells_any_fault line ≡ false → fails_heal line w ≡ false
fine_fails (Ask a b (Unlock d area) NotConnected took) w ok = absurd (true≢false ok)
fine_fails (Ask a b (Unlock d area) told took) w ok = refl
fine_fails (Ask a b r told took) w ok = ok
fine_fails line w ok = refl

module _ (p : Plan) (g : Gfid) (kind : Kind) (base : List Line) where
  pub not_busy : (ls : List Line) → Parts p g kind ls base → busy_by (works ls base) ≡ None
  not_busy [] parts = refl
  not_busy (line ∷ ls) parts = ap (busy_after line) (not_busy ls parts.1) ∙ free_busy line parts.0.free

  pub none_missing : (ls : List Line) → Parts p g kind ls base → (first_by (works ls base)).missing ≡ []
  none_missing [] parts = refl
  none_missing (line ∷ ls) parts =
      let s : First = first_by (works ls base) in
      ap (λ (m : List ℕ). (first_after line (record { begun = s.begun; still = s.still; missing = m; looked = s.looked })).missing) (none_missing ls parts.1)
      ∙ fine_missing line s.begun s.still s.looked parts.0.unfailed

  pub not_failed : (ls : List Line) → Parts p g kind ls base → is_failed (works ls base) ≡ false
  not_failed [] parts = refl
  not_failed (line ∷ ls) parts = go (first_by (works (line ∷ ls) base)).begun (not (first_by (works (line ∷ ls) base)).still) (fails_heal line (works ls base)) (is_failed (works ls base)) (fine_fails line (works ls base) parts.0.unfailed) (not_failed ls parts.1)
    where
      go : (x y f r : Bool) → f ≡ false → r ≡ false → ((x && y && f) || r) ≡ false
      go x y f r e k = grind (arith, e, k)

  -- who was asked for the Heal lock granted it
  pub heal_granted : (ls : List Line) → Parts p g kind ls base → among heal_getting (works ls base) ≡ among heal_asking (works ls base)
  heal_granted [] parts = refl
  heal_granted (line ∷ ls) parts = ap (heal_getting line) (heal_granted ls parts.1) ∙ go line (ls ++ base) (among heal_asking (works ls base)) parts.0
    where
      go : (line : Line) (older : List Line) (s : List ℕ) → Part p g kind line older → heal_getting line s ≡ heal_asking line s
      go (Ask a b (Lock Heal area) told took) older s part = ap (λ (t : Told). added_if (is_granted t) b.0 s) (granted_here p a b area told took older part.honest part.unfailed part.free)
      go line older s part = refl

  -- who was asked for a Work lock and wasn't told last that it is held granted it
  pub work_granted : (area : Area) (ls : List Line) → Parts p g kind ls base → (x : ℕ) → member (among (asking area) (works ls base)) x ≡ true → member (among (getting area) (works ls base)) x ≡ true
  work_granted area [] parts x m = m
  work_granted area (line ∷ ls) parts x m = go line (ls ++ base) (among (asking area) (works ls base)) (among (getting area) (works ls base)) parts.0 (λ k. work_granted area ls parts.1 x k) m
    where
      kept : (b : ℕ) (s t : List ℕ) → (member s x ≡ true → member t x ≡ true) → member (added b s) x ≡ true → member (added b t) x ≡ true
      kept b s t h k = (
          let from : ((b == x) || member s x) ≡ true = sym (member_added b s x) ∙ k in
          member_added b t x ∙ either (b == x) (member s x) (member t x) h from
          )
        where
          either : (e f h : Bool) → (f ≡ true → h ≡ true) → (e || f) ≡ true → (e || h) ≡ true
          either true f h k m = refl
          either false f h k m = k m

      gone : (b : ℕ) (s : List ℕ) → member (removed b s) x ≡ true → member s x ≡ true
      gone b s k = second (not (b == x)) (member s x) (sym (member_removed b s x) ∙ k)
        where
          second : (e f : Bool) → (e && f) ≡ true → f ≡ true
          second true f k = k
          second false f k = absurd (cc k)

      by_told : (b : ℕ) (same : Bool) (told : Told) (s t : List ℕ) → (told ≡ Granted) ⊎ ((owner : ActorId) × (told ≡ Held owner)) → (member s x ≡ true → member t x ≡ true)
          → member (if same then marked (not (is_held told)) b s else s) x ≡ true → member (if same && is_granted told then added b t else t) x ≡ true
      by_told b false told s t e h k = h k
      by_told b true told s t (inl e) h k = (
          let k2 : member (added b s) x ≡ true = subst (λ (d : Told). member (marked (not (is_held d)) b s) x ≡ true) e k in
          subst (λ (d : Told). member (if is_granted d then added b t else t) x ≡ true) (sym e) (kept b s t h k2)
          )
      by_told b true told s t (inr w) h k = (
          let k2 : member (removed b s) x ≡ true = subst (λ (d : Told). member (marked (not (is_held d)) b s) x ≡ true) w.1 k in
          subst (λ (d : Told). member (if is_granted d then added b t else t) x ≡ true) (sym w.1) (h (gone b s k2))
          )

      go : (line : Line) (older : List Line) (s t : List ℕ) → Part p g kind line older → (member s x ≡ true → member t x ≡ true) → member (asking area line s) x ≡ true → member (getting area line t) x ≡ true
      go (Ask a b (Lock WorkDomain other) told took) older s t part h k = by_told b.0 (same_area area other) told s t (lock_told p a b WorkDomain other told took older part.honest part.unfailed) h k
      go line older s t part h k = h k

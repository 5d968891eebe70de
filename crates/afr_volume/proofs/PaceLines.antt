-- A line within the cost of its actor's work, by what the work had left before it and has left after it.
use Rattle.std.proofs.Common.{◌≡◌, ◌⊎◌, ℕ, ◌+◌, ◌≤◌, ◌==◌, Bool, true, false, List, ◌∷◌, refl, sym, ap, arith, subst, Option, Some, None, slice_get, inl, inr, if◌then◌else◌, ◌∙◌}
use Rattle.std.proofs.lemmas.Bool.Decides.{nat_tests}
use Rattle.afr_law.proofs.Model.Works.{work_more}
use Rattle.afr_base.specs.declared.ids.ActorId.{ActorId}
use Rattle.afr_base.specs.declared.ids.BrickId.{BrickId}
use Rattle.afr_law_bound.specs.Ends.Cost.{IsWithinCost, costs_of, counted, spent}
use Rattle.afr_lines.specs.declared.fault.Fault.{Fault}
use Rattle.afr_lines.specs.declared.fault.Fault.TheVariants.{Fail, Lost}
use Rattle.afr_lines.specs.Work.{ended, is_end, is_of, work}
use Rattle.afr_lines.specs.declared.answer.Told.{Told}
use Rattle.afr_lines.specs.declared.answer.Told.TheVariants.{Done, Failed, NotConnected}
use Rattle.afr_lines.specs.declared.line.Event.{Event}
use Rattle.afr_lines.specs.declared.line.Line.{Line}
use Rattle.afr_lines.specs.declared.line.Line.TheVariants as line_of
use Rattle.afr_lines.specs.declared.request.Request.{Request}
use Rattle.afr_lines.specs.declared.request.Request.TheVariants as request
use Rattle.afr_model.specs.Honest.{IsHonest, RequestOutcome, over_session}
use Rattle.afr_plan.specs.declared.plan.Plan.{Plan}
use Rattle.afr_law_pace.specs.Work.Left.{FitsUnlock}
use Rattle.afr_volume.specs.Pacing.{HasLeft}
use Rattle.afr_volume.proofs.SourceLemmas.{own_of}

-- ---- what an unlock may be told
unlock_told : (live : Bool) (fault : Option Fault) (told : Told) (took : Bool) → (record { told = told; took = took }) ≡ over_session live fault Done → (told ≡ Done) ⊎ (told ≡ NotConnected) ⊎ (told ≡ Failed)
unlock_told false fault told took e = inr (inl (ap (λ (o : RequestOutcome). o.told) e))
unlock_told true (Some Fail) told took e = inr (inr (ap (λ (o : RequestOutcome). o.told) e))
unlock_told true (Some Lost) told took e = inr (inl (ap (λ (o : RequestOutcome). o.told) e))
unlock_told true None told took e = inl (ap (λ (o : RequestOutcome). o.told) e)

pub unlock_fits : (p : Plan) (a : ActorId) (b : BrickId) (asked : Request) (told : Told) (took : Bool) (log : List Line) → IsHonest p (line_of.Ask a b asked told took) log → FitsUnlock asked told
unlock_fits p a b (request.Lock domain area) told took log honest = tt
unlock_fits p a b (request.Unlock domain area) told took log honest = unlock_told _ _ told took honest
unlock_fits p a b (request.Look g) told took log honest = tt
unlock_fits p a b (request.ReadBytes g at len) told took log honest = tt
unlock_fits p a b (request.ReadName g name) told took log honest = tt
unlock_fits p a b (request.List g) told took log honest = tt
unlock_fits p a b (request.ReadAttr g key) told took log honest = tt
unlock_fits p a b (request.ReadAttrs g) told took log honest = tt
unlock_fits p a b request.Index told took log honest = tt
unlock_fits p a b (request.Pre g kind) told took log honest = tt
unlock_fits p a b (request.Apply attempt) told took log honest = tt
unlock_fits p a b (request.Post attempt g kind missed) told took log honest = tt
unlock_fits p a b (request.Mend repair) told took log honest = tt
unlock_fits p a b (request.Settle g kind less) told took log honest = tt

-- ---- whose line it is
owner_is : (a c : ℕ) (line : Line) → is_of a line ≡ true → is_of c line ≡ true → c ≡ a
owner_is a c line own mine = let e : (a == c) ≡ true = sym (own_of a line own c) ∙ mine in grind (arith, nat_tests, e)

-- a line that ends no work leaves the count of those that ended
still_ended : (a : ℕ) (line : Line) (log : List Line) → is_end line ≡ false → ended a (line ∷ log) ≡ ended a log
still_ended a (line_of.Ask x b asked told took) log more = refl
still_ended a (line_of.Begin x change) log more = refl
still_ended a (line_of.HealBegin x g kind) log more = refl
still_ended a (line_of.End x said) log more = absurd (cc more)
still_ended a (line_of.HealEnd x g kind said) log more = refl
still_ended a (line_of.Event event) log more = refl

-- ---- within the cost
module _ (p : Plan) (a : ℕ) (line : Line) (log : List Line) (before : ℕ) (own : is_of a line ≡ true) (k : HasLeft p a log before) where
  -- a line that is within what was left, with room for the End line
  pub is_within : counted line + (if is_end line then 0 else 1) ≤ before → IsWithinCost p line log
  is_within room c cost mine present =
      subst (λ (c : ℕ). slice_get (costs_of p c) (ended c log) ≡ Some cost → spent (work c log) + counted line + (if is_end line then 0 else 1) ≤ cost) (sym (owner_is a c line own mine))
      (λ is. let most = k cost is in omega (arith, most, room)) present

  -- and what is left after it
  pub has_left : is_end line ≡ false → (after : ℕ) → after + counted line ≤ before → HasLeft p a (line ∷ log) after
  has_left more after nearer cost is = rw (work_more a line log own more) (let most = k cost (rw (still_ended a line log more) at is) in omega (arith, most, nearer))

-- a line of another leaves it as it was
pub left_on : (p : Plan) (c : ℕ) (line : Line) (log : List Line) (left : ℕ) → work c (line ∷ log) ≡ work c log → ended c (line ∷ log) ≡ ended c log → HasLeft p c log left → HasLeft p c (line ∷ log) left
left_on p c line log left same_work same_ended k cost is = rw same_work (k cost (rw same_ended at is))

-- and an event costs nobody anything
pub event_within : (p : Plan) (event : Event) (log : List Line) → IsWithinCost p (line_of.Event event) log
event_within p event log a cost own present = absurd (cc own)

-- The lines of a quiet round one by one: its list, and the heals that it has ended.
use Rattle.std.proofs.Common.{◌≡◌, ℕ, zero, suc, ◌+◌, ◌<◌, Bool, true, false, refl, sym, ◌∙◌, subst, ap, arith, List, [], ◌∷◌, ◌++◌, take, Option, Some, None, true≢false, append-nil}
use Rattle.std.specs.Prelude.{slice_get}
use Rattle.afr_base.specs.declared.ids.ActorId.{ActorId}
use Rattle.afr_base.specs.declared.ids.BrickId.{BrickId}
use Rattle.afr_base.specs.declared.ids.Gfid.{Gfid}
use Rattle.afr_base.specs.declared.ids.Kind.{Kind}
use Rattle.afr_base.specs.declared.ids.What.{What}
use Rattle.afr_lines.specs.declared.fault.Fault.{Fault}
use Rattle.afr_lines.specs.declared.fault.Fault.TheVariants.{Fail, Lost}
use Rattle.afr_object.specs.Indexed.{index_of}
use Rattle.afr_lines.specs.Work.{Work}
use Rattle.afr_lines.specs.declared.answer.Told.{Told}
use Rattle.afr_lines.specs.declared.answer.Told.TheVariants.{Given, Held}
use Rattle.afr_lines.specs.declared.line.Line.{Line}
use Rattle.afr_lines.specs.declared.line.Line.TheVariants.{Ask, Begin, End, Event, HealBegin, HealEnd}
use Rattle.afr_lines.specs.declared.request.Request.{Request}
use Rattle.afr_lines.specs.declared.request.Request.TheVariants.{Index, Lock}
use Rattle.afr_lines.specs.declared.lock.Domain.TheVariants.{Heal}
use Rattle.afr_plan.specs.declared.plan.Plan.{Plan}
use Rattle.afr_model.specs.HealReplies.{IsHealing}
use Rattle.afr_model.specs.Honest.{IsHonest, RequestOutcome, fault_in, is_live, over_session, requests_to, tells}
use Rattle.afr_model.specs.Quiet.{tells_any_fault}
use Rattle.afr_model.specs.Rounds.{IsHealed, IsOfHeal, KeepsToRound, heal_due, heals_ended, heals_of, listed_after, listed_by, plus_healed}
use Rattle.afr_model.specs.Showing.{is_fault}
use Rattle.afr_model.specs.Tables.{holds}
use Rattle.afr_law_quiet.specs.Undisturbed.{ended_heals, ends_one}
use Rattle.afr_law_quiet.proofs.Lists.Runs.{works}

-- the line wasn't told that another holds the Heal lock
abbrev pub IsFree : Line → Type 0
IsFree (Ask a b (Lock Heal area) (Held owner) took) = ⊥
IsFree line = Unit {0}

-- the line asks a brick below n, if it asks one
abbrev pub AsksBelow : ℕ → Line → Type 0
AsksBelow n (Ask a b r told took) = b.0 < n
AsksBelow n line = Unit {0}

-- a line of a quiet round
pub record Step (p : Plan) (b : BrickId) (line : Line) (w : Work) (older : List Line) : Type 0 where
  pub keeps : KeepsToRound p b line w
  pub healing : IsHealing p.shape line w
  pub honest : IsHonest p line older
  pub unfailed : tells_any_fault line ≡ false
  pub free : IsFree line
  pub within : AsksBelow p.shape.n line

-- each of the lines is such
abbrev pub Goes : Plan → BrickId → List Line → List Line → Type 0
Goes p b [] base = Unit {0}
Goes p b (line ∷ ls) base = Step p b line (works ls base) (ls ++ base) × Goes p b ls base

-- ---- what was told without a fault
told_well : (live : Bool) (fault : Option Fault) (said told : Told) (took : Bool) → (record { told = told; took = took }) ≡ over_session live fault said → is_fault told ≡ false → (told ≡ said) × (took ≡ true)
told_well false fault said told took e ok = absurd (true≢false (sym (ap is_fault (ap (λ (o : RequestOutcome). o.told) e)) ∙ ok))
told_well true (Some Fail) said told took e ok = absurd (true≢false (sym (ap is_fault (ap (λ (o : RequestOutcome). o.told) e)) ∙ ok))
told_well true (Some Lost) said told took e ok = absurd (true≢false (sym (ap is_fault (ap (λ (o : RequestOutcome). o.told) e)) ∙ ok))
told_well true None said told took e ok = (ap (λ (o : RequestOutcome). o.told) e, ap (λ (o : RequestOutcome). o.took) e)

pub answered : (p : Plan) (a : ActorId) (y : BrickId) (r : Request) (told : Told) (took : Bool) (older : List Line) → IsHonest p (Ask a y r told took) older → is_fault told ≡ false → (told ≡ tells a r y.0 (holds p older y.0) older) × (took ≡ true)
answered p a y r told took older h ok =
    told_well (is_live p a y.0 (Ask a y r told took) older) (fault_in p.faults y.0 (suc (requests_to y.0 older))) (tells a r y.0 (holds p older y.0) older) told took h ok

-- ---- the list
module _ (p : Plan) (b : BrickId) where
  -- the first line of a round asks for the index
  pub first_listed : (line : Line) (base : List Line) → KeepsToRound p b line [] → IsHonest p line base → tells_any_fault line ≡ false → listed_after p line base [] ≡ index_of (holds p base b.0)
  first_listed (Ask a y Index told took) base k honest fine = (
      let e : told ≡ Given = (answered p a y Index told took base honest fine).0 in
      subst (λ (t : Told). listed_after p (Ask a y Index t took) base [] ≡ index_of (holds p base b.0)) (sym e) (ap (λ (c : BrickId). index_of (holds p base c.0)) k.1)
      )
  first_listed (Ask a y r told took) base k honest fine = absurd (let i : IsOfHeal [] r [] = k in let e = i.due in cc)
  first_listed (HealBegin a g kind) base k honest fine = absurd (let e : heal_due p [] ≡ Some (g, kind) = k in cc)
  first_listed (HealEnd a g kind said) base k honest fine = absurd (let e : heal_due p [] ≡ Some (g, kind) = k in cc)
  first_listed (End a said) base k honest fine = absurd (let i : IsHealed [] [] = k in let e = i.begun in cc)
  first_listed (Begin a change) base k honest fine = absurd k
  first_listed (Event event) base k honest fine = absurd k

  -- and the later ones leave the list
  pub later_listed : (line : Line) (older : List Line) (x : Line × List Line) (w : Work) (was : List (Gfid × What)) → KeepsToRound p b line (x ∷ w) → listed_after p line older was ≡ was
  later_listed (Ask a y Index told took) older x w was k = absurd (let e = k.0 in cc)
  later_listed (Ask a y r told took) older x w was k = refl
  later_listed line older x w was k = refl

  -- once a line was, the list is the index of the brick before the round
  pub listed_is : (line : Line) (ls base : List Line) → Goes p b (line ∷ ls) base → listed_by p (works (line ∷ ls) base) ≡ index_of (holds p base b.0)
  listed_is line [] base g = first_listed line base g.0.keeps g.0.honest g.0.unfailed
  listed_is line (next ∷ ls) base g = later_listed line (next ∷ ls ++ base) (next, ls ++ base) (works ls base) (listed_by p (works (next ∷ ls) base)) g.0.keeps ∙ listed_is next ls base g.1

-- ---- the heals
pub take_one : {A : Type 0} (xs : List A) (i : ℕ) (x : A) → slice_get xs i ≡ Some x → take i xs ++ x ∷ [] ≡ take (i + 1) xs
take_one [] i x e = absurd (cc e)
take_one (y ∷ xs) zero x e = (let same : y ≡ x = cc in ap (λ z. z ∷ []) (sym same))
take_one (y ∷ xs) (suc i) x e = (let more : suc i + 1 ≡ suc (i + 1) = omega arith in rw more (ap (λ zs. y ∷ zs) (take_one xs i x e)))

pub take_whole : {A : Type 0} (xs : List A) (i : ℕ) → slice_get xs i ≡ None → take i xs ≡ xs
take_whole [] zero e = refl
take_whole [] (suc i) e = refl
take_whole (y ∷ xs) zero e = absurd (cc e)
take_whole (y ∷ xs) (suc i) e = ap (λ zs. y ∷ zs) (take_whole xs i e)

module _ (p : Plan) (b : BrickId) (base : List Line) where
  -- the heals of the list
  abbrev pub heals_here : List (Gfid × Kind)
  heals_here = heals_of (index_of (holds p base b.0))

  -- the heal that is due is the next of the list
  pub due_here : (ls : List Line) → Goes p b ls base → (x : Gfid × Kind) → heal_due p (works ls base) ≡ Some x → slice_get heals_here (heals_ended (works ls base)) ≡ Some x
  due_here [] g x e = absurd (cc e)
  due_here (line ∷ ls) g x e = subst (λ (l : List (Gfid × What)). slice_get (heals_of l) (heals_ended (works (line ∷ ls) base)) ≡ Some x) (listed_is p b line ls base g) e

  pub ended_take : (ls : List Line) → Goes p b ls base → ended_heals (works ls base) ≡ take (heals_ended (works ls base)) heals_here
  ended_take [] g = refl
  ended_take (line ∷ ls) g = go line g.0 (ended_take ls g.1)
    where
      w : Work
      w = works ls base

      other : ended_heals w ≡ take (heals_ended w) heals_here → ended_heals w ++ [] ≡ take (heals_ended w) heals_here
      other e = append-nil (ended_heals w) ∙ e

      go : (line : Line) → Step p b line w (ls ++ base) → ended_heals w ≡ take (heals_ended w) heals_here → ended_heals w ++ ends_one line ≡ take (plus_healed line (heals_ended w)) heals_here
      go (HealEnd a h kind said) s e = ap (λ (l : List (Gfid × Kind)). l ++ (h, kind) ∷ []) e ∙ take_one heals_here (heals_ended w) (h, kind) (due_here ls g.1 (h, kind) s.keeps)
      go (Ask a y r told took) s e = other e
      go (Begin a change) s e = other e
      go (HealBegin a h kind) s e = other e
      go (End a said) s e = other e
      go (Event event) s e = other e

  -- at the end of the round these are all
  pub all_ended : (line : Line) (ls : List Line) → Goes p b (line ∷ ls) base → heal_due p (works (line ∷ ls) base) ≡ None → ended_heals (works (line ∷ ls) base) ≡ heals_of (listed_by p (works (line ∷ ls) base))
  all_ended line ls g none =
      let same = listed_is p b line ls base g in
      ended_take (line ∷ ls) g
      ∙ take_whole heals_here (heals_ended (works (line ∷ ls) base)) (subst (λ (l : List (Gfid × What)). slice_get (heals_of l) (heals_ended (works (line ∷ ls) base)) ≡ None) same none)
      ∙ ap heals_of (sym same)

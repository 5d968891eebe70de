-- An object that is open on a brick is held by a majority of the bricks.
use Rattle.std.proofs.Common.{◌≡◌, ℕ, ◌+◌, ◌<◌, ◌&&◌, ◌==◌, Bool, true, false, inl, inr, refl, sym, ◌∙◌, subst, arith, List, [], ◌∷◌, length, Option, Some, None}
use Rattle.std.specs.Prelude.{is_some, if◌then◌else◌}
use Rattle.std.proofs.lemmas.Bool.{eqb-true}
use Rattle.afr_base.specs.Bricks.{member}
use Rattle.afr_base.specs.Kinds.{same_kind}
use Rattle.afr_base.specs.Majority.{IsMajority}
use Rattle.afr_base.specs.Marks.{marks_of}
use Rattle.afr_base.specs.declared.ids.ActorId.{ActorId}
use Rattle.afr_base.specs.declared.ids.BrickId.{BrickId}
use Rattle.afr_base.specs.declared.ids.Gfid.{Gfid}
use Rattle.afr_base.specs.declared.ids.Kind.{Kind}
use Rattle.afr_object.specs.Tables.{copy_at}
use Rattle.afr_object.specs.Object.{Object}
use Rattle.afr_lines.specs.Log.{EachLine}
use Rattle.afr_lines.specs.declared.answer.Told.{Told}
use Rattle.afr_lines.specs.declared.line.Line.{Line}
use Rattle.afr_lines.specs.declared.line.Line.TheVariants.{Ask, Begin, End, Event, HealBegin, HealEnd}
use Rattle.afr_lines.specs.declared.request.Request.TheVariants.{Post, Pre}
use Rattle.afr_plan.specs.declared.plan.Plan.{Plan}
use Rattle.afr_model.specs.Honest.{fault_in}
use Rattle.afr_model.specs.Sums.{blames, dirty_of, has_object, opens_op, sum_over}
use Rattle.afr_model.specs.Tables.{holds}
use Rattle.afr_model_moves.proofs.ByPosition.{past_whole}
use Rattle.afr_model_moves.proofs.Tests.{same_kind_yes}
use Rattle.afr_model_moves.specs.Past as past
use Rattle.afr_model_moves.specs.Positions.{by_position}
use Rattle.afr_law_tables.specs.Fits.{FitsSums}
use Rattle.afr_law_tables.specs.SumLaws.{all_true, numbers_are_sums}
use Rattle.afr_law_tables.specs.TableLaws.{copy_stays}
use Rattle.afr_law_tables.specs.CopyLaws.{gfid_is}
use Rattle.afr_law.specs.Beginning.{start_of}
use Rattle.afr_law.specs.Exactly.{name_bound}
use Rattle.afr_law.proofs.Model.Sums.{holds_is}
use Rattle.afr_law_quiet.specs.Undisturbed.{IsOpenAt}
use Rattle.afr_law_quiet.proofs.Lists.Premises.{Sound, sound_before, sound_below, sound_exactly, sound_fits, sound_honest}
use Rattle.afr_law_quiet.proofs.Lists.Spread.{pre_spread}
use Rattle.afr_law_quiet.proofs.Lists.Tails.{most_more}

-- a majority of the bricks has the object
abbrev pub IsHeld : Plan → List Line → Gfid → Type 0
IsHeld p log g = IsMajority p.shape.n (has_object p log g)

held_next : (p : Plan) (line : Line) (older : List Line) (g : Gfid) → IsHeld p older g → IsHeld p (line ∷ older) g
held_next p line older g h = most_more p.shape.n (has_object p older g) (has_object p (line ∷ older) g) (λ b low k. copy_stays p line older b g k) h

pre_held : (p : Plan) (a : ActorId) (y : BrickId) (h : Gfid) (k : Kind) (told : Told) (took : Bool) (older : List Line) → Sound p (Ask a y (Pre h k) told took ∷ older) → IsHeld p older h
pre_held p a y h k told took older s =
    let line : Line = Ask a y (Pre h k) told took in
    let whole = past_whole (line ∷ older) in
    let below = sound_below p (line ∷ older) s in
    let seen = pre_spread p.shape.n (start_of p (name_bound p)) (fault_in p.faults) (by_position (line ∷ older)) (sound_honest p (line ∷ older) s) (sound_exactly p (line ∷ older) s) (length older) a.0 y.0 h.0 k told took whole.0 in
    most_more p.shape.n (λ x. past.holds (start_of p (name_bound p)) (by_position (line ∷ older)) (length older) x h.0) (has_object p older h)
    (λ x low m. sym (holds_is p (name_bound p) (by_position (line ∷ older)) x older whole.1 below.1 h.0) ∙ m) seen

pub opens_held : (p : Plan) (log : List Line) → Sound p log → (x : ℕ) (g : Gfid) (kind : Kind) → 0 < sum_over (opens_op p x g kind) log → IsHeld p log g
opens_held p [] s x g kind some = absurd (omega (arith, some))
opens_held p (line ∷ older) s x g kind some = held_next p line older g (go line s some (λ less. opens_held p older (sound_before p line older s) x g kind less))
  where
    here : (line : Line) → opens_op p x g kind line older ≡ 0 → 0 < opens_op p x g kind line older + sum_over (opens_op p x g kind) older → (0 < sum_over (opens_op p x g kind) older → IsHeld p older g) → IsHeld p older g
    here line none some rest = rest (omega (arith, none, some))

    go : (line : Line) → Sound p (line ∷ older) → 0 < opens_op p x g kind line older + sum_over (opens_op p x g kind) older → (0 < sum_over (opens_op p x g kind) older → IsHeld p older g) → IsHeld p older g
    go (Ask a y (Pre h k) told took) s some rest = by (took && (y.0 == x) && (h.0 == g.0) && same_kind k kind && has_object p older g x) refl some
      where
        by : (c : Bool) → (took && (y.0 == x) && (h.0 == g.0) && same_kind k kind && has_object p older g x) ≡ c → 0 < (if c then 1 else 0) + sum_over (opens_op p x g kind) older → IsHeld p older g
        by true e m = (let w = all_true took (y.0 == x) (h.0 == g.0) (same_kind k kind) (has_object p older g x) e in subst (IsHeld p older) (gfid_is h g (eqb-true h.0 g.0 w.2)) (pre_held p a y h k told took older s))
        by false e m = rest (omega (arith, m))
    go (Ask a y r told took) s some rest = rest (omega (arith, some))
    go (Begin a change) s some rest = rest (omega (arith, some))
    go (HealBegin a h k) s some rest = rest (omega (arith, some))
    go (End a said) s some rest = rest (omega (arith, some))
    go (HealEnd a h k said) s some rest = rest (omega (arith, some))
    go (Event event) s some rest = rest (omega (arith, some))

dirty_opens : (p : Plan) (log : List Line) (x : ℕ) (g : Gfid) (kind : Kind) → 0 < dirty_of p log x g kind → 0 < sum_over (opens_op p x g kind) log
dirty_opens p log x g kind h = omega (arith, h)

blames_held : (p : Plan) (log : List Line) → Sound p log → (x c : ℕ) (g : Gfid) (kind : Kind) → 0 < sum_over (blames p x c g kind) log → IsHeld p log g
blames_held p [] s x c g kind some = absurd (omega (arith, some))
blames_held p (line ∷ older) s x c g kind some = held_next p line older g (go line s some (λ less. blames_held p older (sound_before p line older s) x c g kind less))
  where
    post : (a : ActorId) (y : BrickId) (at : ℕ) (h : Gfid) (k : Kind) (missed : List ℕ) (told : Told) (took : Bool) → Sound p (Ask a y (Post at h k missed) told took ∷ older)
        → (took && (y.0 == x) && (h.0 == g.0) && same_kind k kind && has_object p older g x) ≡ true → IsHeld p older g
    post a y at h k missed told took s e =
        let w = all_true took (y.0 == x) (h.0 == g.0) (same_kind k kind) (has_object p older g x) e in
        let fits = sound_fits p (Ask a y (Post at h k missed) told took ∷ older) s in
        let fit : (o : Object) → copy_at g (holds p older x) ≡ Some o → 0 < (marks_of kind o.marks).dirty =
        subst (λ (q : Gfid). (o : Object) → copy_at q (holds p older x) ≡ Some o → 0 < (marks_of kind o.marks).dirty) (gfid_is h g (eqb-true h.0 g.0 w.2))
        (subst (λ (z : ℕ). (o : Object) → copy_at h (holds p older z) ≡ Some o → 0 < (marks_of kind o.marks).dirty) (eqb-true y.0 x w.1)
        (subst (λ (q : Kind). (o : Object) → copy_at h (holds p older y.0) ≡ Some o → 0 < (marks_of q o.marks).dirty) (same_kind_yes k kind w.3) (fits.0 w.0))) in
        copied (copy_at g (holds p older x)) refl w.4 fit fits.1
      where
        copied : (o : Option Object) → copy_at g (holds p older x) ≡ o → is_some o ≡ true → ((o : Object) → copy_at g (holds p older x) ≡ Some o → 0 < (marks_of kind o.marks).dirty) → EachLine (FitsSums p) older → IsHeld p older g
        copied None e there fit fits = absurd (cc there)
        copied (Some o) e there fit fits =
            let sums = numbers_are_sums p older fits x g kind o e in
            opens_held p older (sound_before p (Ask a y (Post at h k missed) told took) older s) x g kind (dirty_opens p older x g kind (subst (λ (n : ℕ). 0 < n) sums.0 (fit o e)))

    go : (line : Line) → Sound p (line ∷ older) → 0 < blames p x c g kind line older + sum_over (blames p x c g kind) older → (0 < sum_over (blames p x c g kind) older → IsHeld p older g) → IsHeld p older g
    go (Ask a y (Post at h k missed) told took) s some rest = by (took && (y.0 == x) && (h.0 == g.0) && same_kind k kind && has_object p older g x) refl some
      where
        by : (t : Bool) → (took && (y.0 == x) && (h.0 == g.0) && same_kind k kind && has_object p older g x) ≡ t → 0 < (if t then (if member missed c then 1 else 0) else 0) + sum_over (blames p x c g kind) older → IsHeld p older g
        by true e m = post a y at h k missed told took s e
        by false e m = rest (omega (arith, m))
    go (Ask a y r told took) s some rest = rest (omega (arith, some))
    go (Begin a change) s some rest = rest (omega (arith, some))
    go (HealBegin a h k) s some rest = rest (omega (arith, some))
    go (End a said) s some rest = rest (omega (arith, some))
    go (HealEnd a h k said) s some rest = rest (omega (arith, some))
    go (Event event) s some rest = rest (omega (arith, some))

-- what is open on a brick is held by a majority
pub open_held : (p : Plan) (log : List Line) → Sound p log → (b : ℕ) (g : Gfid) → IsOpenAt p log b g → IsHeld p log g
open_held p log s b g w = elim w.above [
  | inl dirty ↦ opens_held p log s b g w.kind (dirty_opens p log b g w.kind dirty)
  | inr accuses ↦ blames_held p log s b accuses.0 g w.kind (let k = accuses.2 in omega (arith, k))
]

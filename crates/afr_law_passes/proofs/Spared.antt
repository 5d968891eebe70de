-- A line that spares an object and kind leaves them unchanged.
use Rattle.std.proofs.Common.{Bool, ap, arith, false, refl, sym, true, ℕ, ◌&&◌, ◌∙◌, ◌≡◌, List, ◌∷◌, ◌==◌}
use Rattle.std.specs.Prelude.{is_some, slice_index, None, Option, Some}
use Rattle.std.proofs.lemmas.Bool.{eqb-true}
use Rattle.afr_base.specs.Bricks.{and_left, and_right}
use Rattle.afr_base.specs.Kinds.{same_kind}
use Rattle.afr_base.specs.declared.ids.Gfid.{Gfid}
use Rattle.afr_base.specs.declared.ids.Kind.{Kind}
use Rattle.afr_object.specs.Tables.{copy_at}
use Rattle.afr_object.specs.Object.{Object}
use Rattle.afr_lines.specs.declared.line.Line.{Line}
use Rattle.afr_lines.specs.declared.line.Line.TheVariants.{Ask, Begin, End, Event, HealBegin, HealEnd}
use Rattle.afr_lines.specs.declared.request.Request.TheVariants as request
use Rattle.afr_plan.specs.declared.plan.Plan.{Plan}
use Rattle.afr_model.specs.Sums.{blames, closes_op, has_object, opens_op, settles_dirty, settles_pending}
use Rattle.afr_model.specs.Tables.{holds}
use Rattle.afr_model_moves.proofs.Tests.{same_kind_yes}
use Rattle.afr_law_tables.specs.Clear.{IsClear}
use Rattle.afr_law_quiet.specs.Undisturbed.{IsEverywhere}
use Rattle.afr_law_quiet.proofs.Copies.Sums.{counted_none}
use Rattle.afr_law_passes.specs.Converged.{IsUnchanged}
use Rattle.afr_law_passes.proofs.Parts.{Spares, part_in, part_on}

-- ---- what is unchanged
pub unchanged_self : (p : Plan) (log : List Line) (g : Gfid) (kind : Kind) → IsUnchanged p log log g kind
unchanged_self p log g kind = record { dirty = λ x low. refl; pending = λ x c low. refl; parts = λ x low part h. h }

pub unchanged_on : (p : Plan) (first then_ last : List Line) (g : Gfid) (kind : Kind) → IsUnchanged p first then_ g kind → IsUnchanged p then_ last g kind → IsUnchanged p first last g kind
unchanged_on p first then_ last g kind a b = record {
  dirty = λ x low. b.dirty x low ∙ a.dirty x low;
  pending = λ x c low. b.pending x c low ∙ a.pending x c low;
  parts = λ x low part h. b.parts x low part (a.parts x low part h);
}

pub clear_still : (p : Plan) (was log : List Line) (g : Gfid) (kind : Kind) → IsUnchanged p was log g kind → IsClear p was g kind → IsClear p log g kind
clear_still p was log g kind u clear x low = (u.dirty x low ∙ (clear x low).0, λ c near. u.pending x c low ∙ (clear x low).1 c near)

pub clear_was : (p : Plan) (was log : List Line) (g : Gfid) (kind : Kind) → IsUnchanged p was log g kind → IsClear p log g kind → IsClear p was g kind
clear_was p was log g kind u clear x low = (sym (u.dirty x low) ∙ (clear x low).0, λ c near. sym (u.pending x c low) ∙ (clear x low).1 c near)

-- ---- along a line
abbrev Counts : Plan → Gfid → Kind → Line → List Line → Type 0
Counts p g kind line older = (x : ℕ) → (opens_op p x g kind line older ≡ 0) × (closes_op p x g kind line older ≡ 0) × (settles_dirty p x g kind line older ≡ 0) × ((c : ℕ) → (blames p x c g kind line older ≡ 0) × (settles_pending p x c g kind line older ≡ 0))

apart : (i g : Gfid) (k kind : Kind) → (i.0 ≡ g.0 → k ≡ kind → ⊥) → ((i.0 == g.0) && same_kind k kind) ≡ false
apart i g k kind other = go ((i.0 == g.0) && same_kind k kind) refl
  where
    go : (b : Bool) → ((i.0 == g.0) && same_kind k kind) ≡ b → b ≡ false
    go true m = absurd (other (eqb-true i.0 g.0 (and_left _ _ m)) (same_kind_yes k kind (and_right _ _ m)))
    go false m = refl

counts_none : (p : Plan) (g : Gfid) (kind : Kind) (line : Line) (older : List Line) → Spares g kind line → Counts p g kind line older
counts_none p g kind (Ask x y (request.Apply q) told took) older s z = absurd s
counts_none p g kind (Ask x y (request.Post attempt i k missed) told took) older s z = absurd s
counts_none p g kind (Ask x y (request.Pre i k) told took) older s z = (counted_none p z g kind y.0 i k took older 1 (apart i g k kind s), refl, refl, λ c. (refl, refl))
counts_none p g kind (Ask x y (request.Settle i k less) told took) older s z = (refl, refl, counted_none p z g kind y.0 i k took older less.dirty (apart i g k kind s), λ c. (refl, counted_none p z g kind y.0 i k took older (slice_index less.pending c) (apart i g k kind s)))
counts_none p g kind (Ask x y (request.Mend repair) told took) older s z = (refl, refl, refl, λ c. (refl, refl))
counts_none p g kind (Ask x y (request.Lock domain area) told took) older s z = (refl, refl, refl, λ c. (refl, refl))
counts_none p g kind (Ask x y (request.Unlock domain area) told took) older s z = (refl, refl, refl, λ c. (refl, refl))
counts_none p g kind (Ask x y (request.Look i) told took) older s z = (refl, refl, refl, λ c. (refl, refl))
counts_none p g kind (Ask x y (request.ReadBytes i at len) told took) older s z = (refl, refl, refl, λ c. (refl, refl))
counts_none p g kind (Ask x y (request.ReadName i name) told took) older s z = (refl, refl, refl, λ c. (refl, refl))
counts_none p g kind (Ask x y (request.List i) told took) older s z = (refl, refl, refl, λ c. (refl, refl))
counts_none p g kind (Ask x y (request.ReadAttr i key) told took) older s z = (refl, refl, refl, λ c. (refl, refl))
counts_none p g kind (Ask x y (request.ReadAttrs i) told took) older s z = (refl, refl, refl, λ c. (refl, refl))
counts_none p g kind (Ask x y request.Index told took) older s z = (refl, refl, refl, λ c. (refl, refl))
counts_none p g kind (Begin x change) older s z = (refl, refl, refl, λ c. (refl, refl))
counts_none p g kind (HealBegin x i k) older s z = (refl, refl, refl, λ c. (refl, refl))
counts_none p g kind (End x said) older s z = (refl, refl, refl, λ c. (refl, refl))
counts_none p g kind (HealEnd x i k said) older s z = (refl, refl, refl, λ c. (refl, refl))
counts_none p g kind (Event e) older s z = (refl, refl, refl, λ c. (refl, refl))

pub spared : (p : Plan) (g : Gfid) (kind : Kind) (line : Line) (older : List Line) → Spares g kind line → IsUnchanged p older (line ∷ older) g kind
spared p g kind line older s = record {
  dirty = λ x low. (let w = counts_none p g kind line older s x in let a = w.0 in let b = w.1 in let c = w.2 in omega (arith, a, b, c));
  pending = λ x c low. (let w = (counts_none p g kind line older s x).3 c in let a = w.0 in let b = w.1 in omega (arith, a, b));
  parts = λ x low part h. part_on p line older g kind x part s h;
}

-- ---- who has the object
abbrev HasSome : Plan → List Line → ℕ → Gfid → Type 0
HasSome p log b g = (o : Object) × (copy_at g (holds p log b) ≡ Some o)

pub has_some : (p : Plan) (log : List Line) (b : ℕ) (g : Gfid) → has_object p log g b ≡ true → HasSome p log b g
has_some p log b g e = some_is (copy_at g (holds p log b)) e
  where
    some_is : (o : Option Object) → is_some o ≡ true → (x : Object) × (o ≡ Some x)
    some_is None e = absurd (cc e)
    some_is (Some x) e = (x, refl)

pub everywhere_still : (p : Plan) (was log : List Line) (g : Gfid) (kind : Kind) → IsUnchanged p was log g kind → IsEverywhere p was g → IsEverywhere p log g
everywhere_still p was log g kind u every b low = (
    let w = has_some p was b g (every b low) in
    let v = u.parts b low (part_in kind w.0) (w.0, w.1, refl) in
    ap (λ (o : Option Object). is_some o) v.1
    )

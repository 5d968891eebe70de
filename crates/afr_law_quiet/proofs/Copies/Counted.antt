-- In an undisturbed heal the numbers of a copy are no more than its first look showed, with the heal's own pre-op; once settled they are 0.
use Rattle.std.proofs.Common.{Bool, arith, false, inl, inr, not, refl, subst, sym, true, true≢false, ℕ, ◌&&◌, ◌+◌, ◌<◌, ◌∙◌, ◌≡◌, ◌≤◌, ◌⊎◌, ◌∷◌}
use Rattle.std.specs.Prelude.{List as Seq, None, Option, Some, if◌then◌else◌, slice_index, ◌==◌}
use Rattle.std.proofs.lemmas.Bool.{eqb-true}
use Rattle.std.proofs.lemmas.Bool.Decides.{nat_tests}
use Rattle.afr_base.specs.declared.ids.Gfid.{Gfid}
use Rattle.afr_base.specs.declared.ids.Kind.{Kind}
use Rattle.afr_base.specs.declared.ids.Kind.TheVariants.{Attrs, Bytes, Names}
use Rattle.afr_object.specs.declared.entry.View.{View}
use Rattle.afr_lines.specs.declared.line.Line.{Line}
use Rattle.afr_plan.specs.declared.plan.Plan.{Plan}
use Rattle.afr_model.specs.Sums.{blames, dirty_of, opens_op, pending_of}
use Rattle.afr_law_tables.specs.Clear.{IsClearOn}
use Rattle.afr_model_moves.specs.Honest.{view_marks}
use Rattle.afr_model_moves.specs.Register.{Exact, Opening, Finish, Piece, HealPart, Settles, Step, holder, rank}
use Rattle.afr_model_moves.specs.Rules as weak
use Rattle.afr_model_moves.specs.Rules.{Register, is_none, one_if}
use Rattle.afr_model_moves.specs.Sets.{with}
use Rattle.afr_model_moves.specs.Steps.{changed, raised, settles_at}
use Rattle.afr_law.proofs.Discipline.AskFields.{Rest}
use Rattle.afr_law.proofs.Heals.Holds.{is_last}
use Rattle.afr_law_quiet.proofs.Copies.Looked.{gfid}
use Rattle.afr_law_quiet.proofs.Copies.Sums.{dirty_same, pending_same}

-- the numbers of brick x are no more than its first look showed, and the heal's pre-op
pub record Few (p : Plan) (older : Seq Line) (object : ℕ) (kind : Kind) (x : ℕ) (own : Bool) (view : View) : Type 0 where
  pub dirty : dirty_of p older x (gfid object) kind ≤ (view_marks view kind).dirty + one_if own
  pub pending : (c : ℕ) → c < p.shape.n → pending_of p older x c (gfid object) kind ≤ slice_index (view_marks view kind).pending c

-- a copy that wasn't settled has few numbers, a settled one none; and at the end each holder has settled
pub record Counted (p : Plan) (older : Seq Line) (step : Step) (part : HealPart) (asked : ℕ → Bool) (first_views : ℕ → Option View) (kind : Kind) (object : ℕ) (first : ℕ → Option View) (raises settles : ℕ → Bool) : Type 0 where
  pub fresh : (x : ℕ) (view : View) → first x ≡ Some view → settles x ≡ false → Few p older object kind x (raises x) view
  pub clear : (x : ℕ) → settles x ≡ true → ((y : ℕ) → y < p.shape.n → holder first_views y ≡ true) → IsClearOn p older (gfid object) kind x
  pub settling : step ≡ Settles → (x : ℕ) → asked x ≡ true → settles x ≡ true
  pub over : 12 ≤ rank step → is_last kind part ≡ true → (x : ℕ) → x < p.shape.n → holder first_views x ≡ true → settles x ≡ true

-- the same of a register
abbrev pub CountedIn : Plan → Seq Line → Exact → Register → Type 0
CountedIn p older r w = Counted p older r.step r.part r.asked r.first_views w.kind w.object w.first w.raised w.settled

-- the same of a register that is alike in these fields
pub law_on : (p : Plan) (older : Seq Line) (step : Step) (part : HealPart) (asked : ℕ → Bool) (views : ℕ → Option View) (w s : Register) → Rest w s → s.object ≡ w.object
    → Counted p older step part asked views w.kind w.object w.first w.raised w.settled → Counted p older step part asked views s.kind s.object s.first s.raised s.settled
law_on p older step part asked views w s k e h =
    subst (λ o. Counted p older step part asked views s.kind o s.first s.raised s.settled) (sym e)
    (subst (λ o. Counted p older step part asked views o w.object s.first s.raised s.settled) (sym k.kind)
    (subst (λ o. Counted p older step part asked views w.kind w.object o s.raised s.settled) (sym k.first)
    (subst (λ o. Counted p older step part asked views w.kind w.object w.first o s.settled) (sym k.raised)
    (subst (λ o. Counted p older step part asked views w.kind w.object w.first w.raised o) (sym k.settled) h))))

-- the first views that a look adds to
pub first_cases : (w : Register) (b g : ℕ) (view : View) (x : ℕ) (v : View) → (weak.looking w b g view).first x ≡ Some v → (w.first x ≡ Some v) ⊎ ((x ≡ b) × (v ≡ view))
first_cases w b g view x v e = go w.heal (not (w.number == 0) && w.seen b && not (w.closed b) && (g == w.object) && w.healing b && not (w.settled b)) ((w.number == w.start) && is_none (w.first b)) e
  where
    put_cases : (c : Bool) → (if c then weak.put_view w.first b view else w.first) x ≡ Some v → (w.first x ≡ Some v) ⊎ ((x ≡ b) × (v ≡ view))
    put_cases false e = inl e
    put_cases true e = here (x == b) refl e
      where
        here : (hit : Bool) → (x == b) ≡ hit → (if hit then Some view else w.first x) ≡ Some v → (w.first x ≡ Some v) ⊎ ((x ≡ b) × (v ≡ view))
        here true k m = inr (eqb-true x b k, cc m)
        here false k m = inl m

    go : (heal c d : Bool) → (if heal then (if c then record w { view = weak.put_view w.view b view; first = if d then weak.put_view w.first b view else w.first } else w) else (if (w.number == 0) && w.held b then record w { seen = with w.seen b } else w)).first x ≡ Some v
        → (w.first x ≡ Some v) ⊎ ((x ≡ b) × (v ≡ view))
    go true true d m = put_cases d m
    go true false d m = inl m
    go false c d m = under ((w.number == 0) && w.held b) m
      where
        under : (u : Bool) → (if u then record w { seen = with w.seen b } else w).first x ≡ Some v → (w.first x ≡ Some v) ⊎ ((x ≡ b) × (v ≡ view))
        under true m = inl m
        under false m = inl m

pub view_here : (o : Option View) → not (is_none o) ≡ true → (v : View) × (o ≡ Some v)
view_here None e = absurd (true≢false (sym e))
view_here (Some v) e = (v, refl)

pub last_set : (r : Exact) (kind : Kind) (part : HealPart) (x : ℕ) → is_last kind part ≡ true → holder r.first_views x ≡ true → settles_at r kind part x ≡ true
last_set r Bytes Finish x e h = h
last_set r Bytes Opening x e h = absurd (true≢false (sym e))
last_set r Bytes Piece x e h = absurd (true≢false (sym e))
last_set r Attrs part x e h = h
last_set r Names part x e h = h

-- a holder that isn't changed is the source
pub unchanged : (r : Exact) (s : ℕ) (kind : Kind) (c : ℕ) → holder r.first_views c ≡ true → changed r s kind c ≡ false → c ≡ s
unchanged r s Names c h e = absurd (true≢false (sym h ∙ e))
unchanged r s Bytes c h e = only (holder r.first_views c) c s h e
  where
    only : (x : Bool) (c s : ℕ) → x ≡ true → (x && not (c == s)) ≡ false → c ≡ s
    only x c s h e = grind (arith, nat_tests)
unchanged r s Attrs c h e = only (holder r.first_views c) c s h e
  where
    only : (x : Bool) (c s : ℕ) → x ≡ true → (x && not (c == s)) ≡ false → c ≡ s
    only x c s h e = grind (arith, nat_tests)

-- a line that raises no number
module _ (p : Plan) (older : Seq Line) (line : Line) (opens : (x : ℕ) (g : Gfid) (kind : Kind) → opens_op p x g kind line older ≡ 0) (blame : (x c : ℕ) (g : Gfid) (kind : Kind) → blames p x c g kind line older ≡ 0) where
  pub few_on : (object : ℕ) (kind : Kind) (x : ℕ) (own : Bool) (view : View) → Few p older object kind x own view → Few p (line ∷ older) object kind x own view
  few_on object kind x own view h = record {
    dirty = (let d = h.dirty in let e = dirty_same p x (gfid object) kind line older (opens x (gfid object) kind) in omega (arith, d, e));
    pending = λ c low. (let d = h.pending c low in let e = pending_same p x (gfid object) kind line older c (blame x c (gfid object) kind) in omega (arith, d, e));
  }

  pub clear_on : (g : Gfid) (kind : Kind) (x : ℕ) → IsClearOn p older g kind x → IsClearOn p (line ∷ older) g kind x
  clear_on g kind x h = (
    (let d = h.0 in let e = dirty_same p x g kind line older (opens x g kind) in omega (arith, d, e)),
    λ c low. (let d = h.1 c low in let e = pending_same p x g kind line older c (blame x c g kind) in omega (arith, d, e)),
  )

  -- a step that changes none of the marks that the heal keeps
  pub plain_on : (r : Exact) (next : Step) (part : HealPart) (asks : ℕ → Bool) → (next ≡ Settles → ⊥) → rank next ≤ 11 → CountedIn p older r r.law
      → Counted p (line ∷ older) next part asks r.first_views r.law.kind r.law.object r.law.first r.law.raised r.law.settled
  plain_on r next part asks other up h = record {
    fresh = λ x v e u. few_on r.law.object r.law.kind x (r.law.raised x) v (h.fresh x v e u);
    clear = λ x e every. clear_on (gfid r.law.object) r.law.kind x (h.clear x e every);
    settling = λ e. absurd (other e);
    over = λ k. absurd (omega (arith, k, up));
  }

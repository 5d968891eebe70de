-- What the lines of a heal tell once its first looks are over: which copies were raised, who has settled, its source, and why it fails.
use Rattle.std.proofs.Common.{◌≡◌, ℕ, ◌<◌, ◌≤◌, ◌&&◌, ◌||◌, not, ◌==◌, nat_lt, nat_le, Bool, true, false, refl, sym, ◌∙◌, ap, subst, arith}
use Rattle.std.proofs.lemmas.Bool.Decides.{nat_tests}
use Rattle.afr_base.specs.Bricks.{lowest, member, minus}
use Rattle.afr_base.specs.declared.ids.Gfid.{Gfid}
use Rattle.afr_base.specs.declared.ids.Kind.{Kind}
use Rattle.afr_base.specs.declared.ids.Kind.TheVariants.{Attrs, Bytes, Names}
use Rattle.afr_base.specs.declared.ids.Shape.{Shape}
use Rattle.afr_choice.specs.Verdict.{copies_of, holders_of}
use Rattle.afr_choice.specs.declared.looked.Looked.{Looked}
use Rattle.afr_heal.specs.Engine.{has_part}
use Rattle.afr_heal.specs.Standing.{AfterLooks, OfKind, behind}
use Rattle.afr_heal.proofs.Finding.{passed_behind}
use Rattle.afr_law_heal.proofs.GoingLooks.{copy_low, only_left, same_copy, same_holder}
use Rattle.afr_heal.proofs.Parts.{both, pair}
use Rattle.afr_heal.proofs.StagesForms.{going_at}
use Rattle.afr_law_heal.specs.Stages.{IsShown, TellsAfter, raises}
use Rattle.afr_lines.specs.Work.{Work}
use Rattle.afr_lines.specs.declared.request.Area.{Area}
use Rattle.afr_model.specs.Healing.{holders_in, source_of}
use Rattle.afr_model.specs.Showing.{among, prepared}
use Rattle.afr_model_moves.specs.Keeps.{keeps_in}
use Rattle.afr_model_moves.specs.Register.{Exact, Finish, HealPart, HealPres, Looks, Opening, Piece, Settles, Step, WorkLocks, asked_in, good, holder, is_opening, rank, same_step, unaccused}
use Rattle.afr_model_moves.specs.Steps.{passed, pres_at, settles_at}

-- a step that is to come is not behind
pub not_behind : (r : Exact) (step : Step) (x : ℕ) → nat_lt (rank r.step) (rank step) ≡ true → behind r step x ≡ false
not_behind r step x h =
    let low : nat_lt (rank step) (rank r.step) ≡ false = grind (arith, nat_tests, h) in
    let apart : (rank r.step == rank step) ≡ false = grind (arith, nat_tests, h) in
    rw (low, apart) refl

-- a step that is over is behind
pub is_behind : (r : Exact) (step : Step) (x : ℕ) → nat_lt (rank step) (rank r.step) ≡ true → behind r step x ≡ true
is_behind r step x h = rw h refl

-- the step and those who were asked in it
pub behind_here : (r : Exact) (step : Step) (x : ℕ) → nat_le (rank r.step) (rank step) ≡ true → behind r step x ≡ asked_in r step x
behind_here r step x h = let low : nat_lt (rank step) (rank r.step) ≡ false = grind (arith, nat_tests, h) in rw low refl

module _ (shape : Shape) (few : shape.n ≤ 5) (p : Exact) (seen looked : Looked) (s : ℕ) (g : Gfid) (kind : Kind) (area : Area) where
  abbrev n : ℕ
  n = shape.n

  abbrev keeps : ℕ → Kind → Bool
  keeps = keeps_in shape

  abbrev r : Exact
  r = going_at p g kind area

  module _ (k : AfterLooks n keeps r s g kind) where
    -- the looks of the part are over, so its Work locks are
    pub past_locks : same_step r.step WorkLocks ≡ false
    past_locks = let low = (both (nat_le 7 (rank r.step)) (passed n keeps r s Looks) k.looked).0 in grind (arith, nat_tests, low)

    -- the source is a good copy
    pub source_good : good n keeps kind r.first_views s ≡ true
    source_good = (both (good n keeps kind r.first_views s) _ k.onwards).0

    pub source_copy : (holder r.first_views s ≡ true) × (keeps s kind ≡ true)
    source_copy = both (holder r.first_views s) (keeps s kind) (both (holder r.first_views s && keeps s kind) (unaccused n kind r.first_views s) source_good).0

    -- ---- the pre-ops
    -- those that raise in the opening are those that the register asks
    pub raise_set : (of : Kind) (x : ℕ) → raises shape r s of x ≡ pres_at keeps r s of Opening x
    raise_set Bytes x = refl
    raise_set Attrs x = refl
    raise_set Names x = refl

    -- once they are over all of them have
    pub raised_all : passed n keeps r s HealPres ≡ true → (x : ℕ) → x < n → (raises shape r s kind x && (not (is_opening p.part) || behind r HealPres x)) ≡ raises shape r s kind x
    raised_all h x l = go p.part refl (raises shape r s kind x) refl
      where
        go : (part : HealPart) → p.part ≡ part → (f : Bool) → raises shape r s kind x ≡ f → (f && (not (is_opening part) || behind r HealPres x)) ≡ f
        go part e false i = refl
        go Opening e true i =
            let set : pres_at keeps r s kind p.part x ≡ true = rw e (sym (raise_set kind x) ∙ i) in
            passed_behind n keeps r s HealPres h x l set
        go Piece e true i = refl
        go Finish e true i = refl

    -- ---- the settling
    pub settle_set : (of : Kind) (part : HealPart) → OfKind of part → (x : ℕ) → (not (has_part of part) && holder r.first_views x) ≡ settles_at r of part x
    settle_set Bytes Opening e x = refl
    settle_set Bytes Piece e x = refl
    settle_set Bytes Finish e x = refl
    settle_set Attrs Opening e x = refl
    settle_set Names Opening e x = refl
    settle_set Attrs Piece e x = absurd e
    settle_set Attrs Finish e x = absurd e
    settle_set Names Piece e x = absurd e
    settle_set Names Finish e x = absurd e

    -- once it is over every holder has settled, if this was the last part
    pub settled_all : passed n keeps r s Settles ≡ true → (x : ℕ) → x < n → (not (has_part kind p.part) && holder r.first_views x && behind r Settles x) ≡ (not (has_part kind p.part) && holder r.first_views x)
    settled_all h x l = go (not (has_part kind p.part) && holder r.first_views x) refl
      where
        go : (f : Bool) → (not (has_part kind p.part) && holder r.first_views x) ≡ f → (f && behind r Settles x) ≡ f
        go false e = refl
        go true e = passed_behind n keeps r s Settles h x l (sym (settle_set kind p.part k.of_kind x) ∙ e)

    module _ (w : Work) (shown : IsShown r seen looked) (ta : TellsAfter shape r seen looked s g kind w) where
      -- ---- lists and tests
      holder_same : (x : ℕ) → x < n → member (holders_of seen) x ≡ holder r.first_views x
      holder_same x l = same_holder shape seen few ta.low ta.shown x l ∙ sym (ap (λ (f : ℕ → _). holder f x) shown.first_views)

      pub holder_is : (x : ℕ) → x < n → member (holders_in w) x ≡ holder r.first_views x
      holder_is x l = subst (λ (looks : Looked). member (holders_of looks) x ≡ holder r.first_views x) (sym ta.first) (holder_same x l)

      pub copy_is : (of : Kind) (x : ℕ) → x < n → member (copies_of shape seen of) x ≡ (holder r.first_views x && keeps x of)
      copy_is of x l = same_copy shape seen few ta.low ta.shown of x l ∙ sym (ap (λ (f : ℕ → _). holder f x && keeps x of) shown.first_views)

      -- ---- the source
      -- the one copy that isn't raised, but for names
      raises_all_but : (of : Kind) → (of ≡ Names → ⊥) → (x : ℕ) → (holder r.first_views x && keeps x of) ≡ true → raises shape r s of x ≡ not (x == s)
      raises_all_but Bytes never x h = let two = both (holder r.first_views x) (keeps x Bytes) h in rw (two.0, two.1) (tidy (not (x == s)))
        where
          tidy : (f : Bool) → (f && true) ≡ f
          tidy true = refl
          tidy false = refl
      raises_all_but Attrs never x h = rw (both (holder r.first_views x) (keeps x Attrs) h).0 refl
      raises_all_but Names never x h = absurd (never refl)

      pub source_is : (kind ≡ Names → ⊥) → ((x : ℕ) → x < n → member (among prepared w) x ≡ raises shape r s kind x) → source_of shape kind w ≡ s
      source_is never all = subst (λ (looks : Looked). lowest (minus (copies_of shape looks kind) (among prepared w)) ≡ s) (sym ta.first)
          (only_left (copies_of shape seen kind) (among prepared w) s (copy_is kind s k.below ∙ source_here) (all s k.below ∙ raises_all_but kind never s source_here ∙ out) only)
        where
          source_here : (holder r.first_views s && keeps s kind) ≡ true
          source_here = pair _ _ source_copy.0 source_copy.1

          out : not (s == s) ≡ false
          out = grind (arith, nat_tests)

          only : (x : ℕ) → member (copies_of shape seen kind) x ≡ true → member (among prepared w) x ≡ false → x ≡ s
          only x m o =
              let l = copy_low shape seen few ta.low ta.shown kind x m in
              let same : (not (x == s)) ≡ false = sym (raises_all_but kind never x (sym (copy_is kind x l) ∙ m)) ∙ sym (all x l) ∙ o in
              grind (arith, nat_tests, same)

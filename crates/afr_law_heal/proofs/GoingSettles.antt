-- A settling takes back what the lines of its heal show.
use Rattle.std.proofs.Common.{◌≡◌, ℕ, ◌+◌, ◌<◌, ◌≤◌, ◌&&◌, ◌||◌, not, ◌==◌, nat_lt, Bool, true, false, List, [], ◌∷◌, refl, sym, ◌∙◌, ap, subst, arith, length, Option, None, Some, if◌then◌else◌, slice_index}
use Rattle.std.proofs.lemmas.Bool.Decides.{nat_tests}
use Rattle.afr_base.specs.Bricks.{below, is_nothing, member, minus}
use Rattle.afr_base.specs.Marks.{marks_of}
use Rattle.afr_base.specs.SetLemmas.{below_all, member_minus, no_member, none_left, within_below}
use Rattle.afr_base.specs.declared.ids.Gfid.{Gfid}
use Rattle.afr_base.specs.declared.ids.Kind.{Kind}
use Rattle.afr_base.specs.declared.ids.Kind.TheVariants.{Attrs, Bytes, Names}
use Rattle.afr_base.specs.declared.ids.Shape.{Shape}
use Rattle.afr_base.specs.declared.marks.Marks.{Marks}
use Rattle.afr_base.proofs.TestLemmas.{same_test}
use Rattle.afr_choice.specs.Looks.{view_at}
use Rattle.afr_choice.specs.Verdict.{holders_of}
use Rattle.afr_choice.specs.declared.looked.Looked.{Looked}
use Rattle.afr_discipline.specs.Turns as turns
use Rattle.afr_discipline.specs.Turns.{dirty_less, less_by, less_in, pending_less}
use Rattle.afr_heal.proofs.Finding.{turn_low, turn_new, turn_set}
use Rattle.afr_heal.proofs.Parts.{both, not_both}
use Rattle.afr_heal.proofs.StagesForms.{going_at}
use Rattle.afr_heal.specs.Engine.{has_part}
use Rattle.afr_heal.specs.Standing.{AfterLooks}
use Rattle.afr_law_heal.proofs.GoingAfter.{behind_here, holder_is, raised_all, settle_set, source_is}
use Rattle.afr_law_heal.proofs.GoingLooks.{and_false, all_of, holder_low, left_in, no_way}
use Rattle.afr_law_heal.specs.Stages.{IsShown, TellsAfter, raises}
use Rattle.afr_lines.specs.Work.{Work}
use Rattle.afr_lines.specs.declared.request.Area.{Area}
use Rattle.afr_model.specs.Healing as healing
use Rattle.afr_model.specs.Healing.{changed_by, first_by, holders_in, kept_of, less_at, source_of}
use Rattle.afr_model.specs.HealReplies.{IsSettling}
use Rattle.afr_model.specs.Showing.{among, prepared}
use Rattle.afr_model_moves.specs.Keeps.{keeps_in}
use Rattle.afr_model_moves.specs.Register.{Exact, HealPres, Settles, all, holder}
use Rattle.afr_model_moves.specs.Rules.{is_none}
use Rattle.afr_model_moves.specs.Steps.{changed, mends_over, passed, pres_over, raised, reads_over, turn}
use Rattle.afr_model_moves.proofs.Tests.{all_yes}
use Rattle.afr_object.specs.declared.entry.View.{View}

-- five numbers, each kept where its brick is in the set
five_kept : (l : List ℕ) → length l ≡ 5 → (s : List ℕ) (test : ℕ → Bool) → ((c : ℕ) → c < 5 → member s c ≡ test c)
    → (if test 0 then slice_index l 0 else 0) ∷ (if test 1 then slice_index l 1 else 0) ∷ (if test 2 then slice_index l 2 else 0) ∷ (if test 3 then slice_index l 3 else 0) ∷ (if test 4 then slice_index l 4 else 0) ∷ [] ≡ kept_of 0 s l
five_kept (a ∷ b ∷ c ∷ d ∷ e ∷ []) h s test k = rw (k 0 (omega arith), k 1 (omega arith), k 2 (omega arith), k 3 (omega arith), k 4 (omega arith)) refl
five_kept [] h s test k = absurd (cc h)
five_kept (a ∷ []) h s test k = absurd (grind (arith, h))
five_kept (a ∷ b ∷ []) h s test k = absurd (grind (arith, h))
five_kept (a ∷ b ∷ c ∷ []) h s test k = absurd (grind (arith, h))
five_kept (a ∷ b ∷ c ∷ d ∷ []) h s test k = absurd (grind (arith, h))
five_kept (a ∷ b ∷ c ∷ d ∷ e ∷ f ∷ fs) h s test k = absurd (grind (arith, h))

module _ (shape : Shape) (few : shape.n ≤ 5) (p : Exact) (seen looked : Looked) (s : ℕ) (g : Gfid) (kind : Kind) (area : Area) where
  abbrev n : ℕ
  n = shape.n

  abbrev keeps : ℕ → Kind → Bool
  keeps = keeps_in shape

  abbrev r : Exact
  r = going_at p g kind area

  module _ (k : AfterLooks n keeps r s g kind) (w : Work) (shown : IsShown r seen looked) (ta : TellsAfter shape r seen looked s g kind w) where
    holder_there : (x : ℕ) → x < n → member (holders_in w) x ≡ holder r.first_views x
    holder_there x l = holder_is shape few p seen looked s g kind area k w shown ta x l

    holder_under : (x : ℕ) → member (holders_in w) x ≡ true → x < n
    holder_under x m = holder_low shape seen few ta.low ta.shown x (subst (λ (f : Looked). member (holders_of f) x ≡ true) ta.first m)

    -- every brick of the volume is a holder
    all_hold : all n (holder r.first_views) ≡ is_nothing (minus (below n) (holders_in w))
    all_hold = same_test _ _ there back
      where
        there : all n (holder r.first_views) ≡ true → is_nothing (minus (below n) (holders_in w)) ≡ true
        there h = no_member (minus (below n) (holders_in w)) (λ x m.
            let two = left_in (below n) (holders_in w) x m in
            let l = within_below n x two.0 in
            not_both (member (holders_in w) x) (holder_there x l ∙ all_yes n (holder r.first_views) h x l) two.1)

        back : is_nothing (minus (below n) (holders_in w)) ≡ true → all n (holder r.first_views) ≡ true
        back h = all_of n (holder r.first_views) (λ x l. sym (holder_there x l) ∙ none_left (below n) (holders_in w) h x (below_all n x few l))

    -- the bricks that were changed
    changed_same : (of : Kind) → ((of ≡ Names → ⊥) → source_of shape of w ≡ s) → (c : ℕ) → c < 5 → member (changed_by shape of w) c ≡ (nat_lt c n && changed r s of c)
    changed_same of is c five = go (nat_lt c n) refl
      where
        away : nat_lt c n ≡ false → member (holders_in w) c ≡ false
        away e = no_way (member (holders_in w) c) (λ m. let l = holder_under c m in grind (arith, nat_tests, e, l))

        but_source : (source_of shape of w ≡ s) → member (minus (holders_in w) (source_of shape of w ∷ [])) c ≡ (not (s == c) && member (holders_in w) c)
        but_source e = member_minus (holders_in w) (source_of shape of w ∷ []) c ∙ rw e (tidy (s == c) (member (holders_in w) c))
          where
            tidy : (a b : Bool) → (not (a || false) && b) ≡ (not a && b)
            tidy true b = refl
            tidy false b = refl

        flip : (h : Bool) → (not (s == c) && h) ≡ (h && not (c == s))
        flip h = let e : (s == c) ≡ (c == s) = grind (arith, nat_tests) in rw e (turned (not (c == s)) h)
          where
            turned : (a b : Bool) → (a && b) ≡ (b && a)
            turned true true = refl
            turned true false = refl
            turned false true = refl
            turned false false = refl

        by : (kind' : Kind) → ((kind' ≡ Names → ⊥) → member (minus (holders_in w) (source_of shape kind' w ∷ [])) c ≡ (not (s == c) && member (holders_in w) c)) → (f : Bool) → nat_lt c n ≡ f → member (changed_by shape kind' w) c ≡ (f && changed r s kind' c)
        by Names e true i = let l : c < n = grind (arith, nat_tests, i) in holder_there c l
        by Names e false i = away i
        by Bytes e true i = let l : c < n = grind (arith, nat_tests, i) in e (λ h. cc h) ∙ rw (holder_there c l) (flip (holder r.first_views c))
        by Bytes e false i = e (λ h. cc h) ∙ rw (away i) (and_false (not (s == c)))
        by Attrs e true i = let l : c < n = grind (arith, nat_tests, i) in e (λ h. cc h) ∙ rw (holder_there c l) (flip (holder r.first_views c))
        by Attrs e false i = e (λ h. cc h) ∙ rw (away i) (and_false (not (s == c)))

        go : (f : Bool) → nat_lt c n ≡ f → member (changed_by shape of w) c ≡ (f && changed r s of c)
        go f e = by of (λ never. but_source (is never)) f e

    module _ (o : passed n keeps r s HealPres ≡ true) (b : ℕ) (l : b < n) (held : holder r.first_views b ≡ true) where
      all_raised : (x : ℕ) → x < n → member (among prepared w) x ≡ raises shape r s kind x
      all_raised x lx = ta.opened x lx ∙ raised_all shape few p seen looked s g kind area k o x lx

      raised_same : (of : Kind) → raises shape r s of b ≡ raised keeps r s of b
      raised_same Bytes = refl
      raised_same Attrs = refl
      raised_same Names = held

      -- what is taken back
      less_same : (marks : Marks) → length marks.pending ≡ 5 → less_by n keeps r s b kind marks ≡ record {
        dirty = if is_nothing (minus (below n) (holders_in w)) then marks.dirty + (if member (among prepared w) b then 1 else 0) else 0;
        pending = kept_of 0 (changed_by shape kind w) marks.pending;
      }
      less_same marks five = λ i. record { dirty = dirty i; pending = pending i }
        where
          dirty : dirty_less n keeps r s b kind marks ≡ (if is_nothing (minus (below n) (holders_in w)) then marks.dirty + (if member (among prepared w) b then 1 else 0) else 0)
          dirty = ap (λ (f : Bool). if f then marks.dirty + (if raised keeps r s kind b then 1 else 0) else 0) all_hold
              ∙ ap (λ (f : Bool). if is_nothing (minus (below n) (holders_in w)) then marks.dirty + (if f then 1 else 0) else 0) (sym (raised_same kind) ∙ sym (all_raised b l))

          pending : pending_less n r s kind marks 0 ∷ pending_less n r s kind marks 1 ∷ pending_less n r s kind marks 2 ∷ pending_less n r s kind marks 3 ∷ pending_less n r s kind marks 4 ∷ [] ≡ kept_of 0 (changed_by shape kind w) marks.pending
          pending = five_kept marks.pending five (changed_by shape kind w) (λ c. nat_lt c n && changed r s kind c)
              (changed_same kind (λ never. source_is shape few p seen looked s g kind area k w shown ta never all_raised))

      -- by the view that the brick showed first
      less_of : (v u : Option View) → v ≡ u → not (is_none v) ≡ true → ((view : View) → u ≡ Some view → length (marks_of kind view.marks).pending ≡ 5)
          → less_by n keeps r s b kind (turns.marks_in kind v) ≡ record {
            dirty = if is_nothing (minus (below n) (holders_in w)) then (healing.marks_in kind u).dirty + (if member (among prepared w) b then 1 else 0) else 0;
            pending = kept_of 0 (changed_by shape kind w) (healing.marks_in kind u).pending;
          }
      less_of None u e h whole = absurd (cc h)
      less_of (Some view) None e h whole = absurd (cc e)
      less_of (Some view) (Some other) e h whole = let is : view ≡ other = cc e in subst (λ (x : View). less_by n keeps r s b kind (turns.marks_in kind (Some x)) ≡ less_there other) (sym is) (less_same (marks_of kind other.marks) (whole other refl))
        where
          less_there : View → Marks
          less_there x = record {
            dirty = if is_nothing (minus (below n) (holders_in w)) then (healing.marks_in kind (Some x)).dirty + (if member (among prepared w) b then 1 else 0) else 0;
            pending = kept_of 0 (changed_by shape kind w) (healing.marks_in kind (Some x)).pending;
          }

      less_is : less_in n keeps r s kind b ≡ less_at shape kind w b
      less_is = less_of (r.first_views b) (view_at b (first_by w).looked) first held whole
        where
          first : r.first_views b ≡ view_at b (first_by w).looked
          first = ap (λ (f : ℕ → Option View). f b) shown.first_views ∙ ap (λ (f : Looked). view_at b f) (sym ta.first)

          of_kind : (of : Kind) (view : View) → view_at b seen ≡ Some view → length (marks_of of view.marks).pending ≡ 5
          of_kind Bytes view e = (ta.numbers b view e).0.1
          of_kind Attrs view e = (ta.numbers b view e).1.1
          of_kind Names view e = (ta.numbers b view e).2.1

          whole : (view : View) → view_at b (first_by w).looked ≡ Some view → length (marks_of kind view.marks).pending ≡ 5
          whole view e = of_kind kind view (rw ta.first at e)

    -- the settling of a holder
    pub settling_seen : mends_over n keeps r s ≡ true → (b : ℕ) → b < n → turn n keeps r s Settles b ≡ true → IsSettling shape kind (less_in n keeps r s kind b) b w
    settling_seen o b l t = record {
      holder = holder_there b l ∙ held.1;
      once = ta.closing b l ∙ rw (behind_here r Settles b (turn_low n keeps r s Settles b t), turn_new n keeps r s Settles b t) (and_false (not (has_part kind p.part) && holder r.first_views b));
      seen = less_is over b l held.1;
    }
      where
        over : passed n keeps r s HealPres ≡ true
        over = (both (reads_over n keeps r s) (passed n keeps r s HealPres) (both (pres_over n keeps r s) _ o).0).1

        held : (not (has_part kind p.part) ≡ true) × (holder r.first_views b ≡ true)
        held = both (not (has_part kind p.part)) (holder r.first_views b) (settle_set shape few p seen looked s g kind area k kind p.part k.of_kind b ∙ turn_set n keeps r s Settles b t)

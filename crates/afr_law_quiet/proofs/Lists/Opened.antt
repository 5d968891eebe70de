-- A copy with a number above 0 is what is open on a brick.
use Rattle.std.proofs.Common.{◌≡◌, ℕ, ◌<◌, true, refl, sym, subst, ap, List, Option, Some, None, ◌⊎◌, inl, inr}
use Rattle.std.specs.Prelude.{is_some}
use Rattle.afr_base.specs.Marks.{marks_of}
use Rattle.afr_base.specs.declared.ids.Gfid.{Gfid}
use Rattle.afr_base.specs.declared.ids.Kind.{Kind}
use Rattle.afr_object.specs.Tables.{copy_at}
use Rattle.afr_object.specs.Object.{Object}
use Rattle.afr_lines.specs.Log.{EachLine}
use Rattle.afr_lines.specs.declared.line.Line.{Line}
use Rattle.afr_plan.specs.declared.plan.Plan.{Plan}
use Rattle.afr_model.specs.Sums.{dirty_of, pending_of}
use Rattle.afr_model.specs.Tables.{holds}
use Rattle.afr_law_tables.specs.Fits.{FitsSums}
use Rattle.afr_law_tables.specs.SumLaws.{numbers_are_sums}
use Rattle.afr_law_tables.specs.TableLaws.{five_pending}
use Rattle.afr_law_quiet.specs.Undisturbed.{IsOpenAt}
use Rattle.afr_law_quiet.proofs.Lists.Index.{IsOpen, Marked, kind_open, open_kind, open_marks, open_not_zero}

module _ (p : Plan) (log : List Line) (fits : EachLine (FitsSums p) log) (b : ℕ) (g : Gfid) where
  summed : (o : Object) → copy_at g (holds p log b) ≡ Some o → (kind : Kind) → IsOpen (marks_of kind o.marks) → (0 < dirty_of p log b g kind) ⊎ ((c : ℕ) × (c < 5) × (0 < pending_of p log b c g kind))
  summed o e kind some = (
      let sums = numbers_are_sums p log fits b g kind o e in
      elim some [ inl h ↦ inl (subst (λ (n : ℕ). 0 < n) sums.0 h) | inr w ↦ inr (w.0, w.1, subst (λ (n : ℕ). 0 < n) (sums.1 w.0 w.1) w.2) ]
      )

  unsummed : (o : Object) → copy_at g (holds p log b) ≡ Some o → (kind : Kind) → (0 < dirty_of p log b g kind) ⊎ ((c : ℕ) × (c < 5) × (0 < pending_of p log b c g kind)) → IsOpen (marks_of kind o.marks)
  unsummed o e kind some = (
      let sums = numbers_are_sums p log fits b g kind o e in
      elim some [ inl h ↦ inl (subst (λ (n : ℕ). 0 < n) (sym sums.0) h) | inr w ↦ inr (w.0, w.1, subst (λ (n : ℕ). 0 < n) (sym (sums.1 w.0 w.1)) w.2) ]
      )

  pub marked_open : Marked g (holds p log b) → IsOpenAt p log b g
  marked_open m = (
      let kind = open_kind m.copy.marks m.some in
      record {
        there = ap is_some m.there;
        kind = kind.0;
        above = summed m.copy m.there kind.0 (open_marks (marks_of kind.0 m.copy.marks) (five_pending p log b g kind.0 m.copy m.there) kind.1);
      }
      )

  pub open_marked : IsOpenAt p log b g → Marked g (holds p log b)
  open_marked w = go (copy_at g (holds p log b)) refl w.there
    where
      go : (o : Option Object) → copy_at g (holds p log b) ≡ o → is_some o ≡ true → Marked g (holds p log b)
      go None e k = absurd (cc k)
      go (Some o) e k = record { copy = o; there = e; some = kind_open o.marks w.kind (open_not_zero (marks_of w.kind o.marks) (unsummed o e w.kind w.above)) }

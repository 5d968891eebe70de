-- The register of no line stands for the untouched one; sets and views of the five bricks as tests.
use Rattle.std.proofs.Common.{◌≡◌, ℕ, zero, suc, ◌≤◌, List, [], ◌∷◌, refl, sym, Option, None, slice_index_or}
use Rattle.std.proofs.Math.Path.{fun_ext}
use Rattle.afr_base.specs.SetLemmas.{below_all}
use Rattle.afr_base.specs.declared.ids.Shape.{Shape}
use Rattle.afr_object.specs.declared.entry.View.{View}
use Rattle.afr_choice.specs.Looks.{no_looks}
use Rattle.afr_model_moves.specs.Rules.{no_views}
use Rattle.afr_model_moves.specs.Register.{Exact, untouched, no_reads}
use Rattle.afr_discipline.specs.declared.register.Register.{Register}
use Rattle.afr_discipline.specs.Stands.{Stands, no_lines, seen_as, views_of, reads_of}

abbrev nones : (A : Type 0) → List (Option A)
nones A = None ∷ None ∷ None ∷ None ∷ None ∷ []

none_at : (A : Type 0) (x : ℕ) → None ≡ slice_index_or (nones A) x None
none_at A zero = refl
none_at A (suc zero) = refl
none_at A (suc (suc zero)) = refl
none_at A (suc (suc (suc zero))) = refl
none_at A (suc (suc (suc (suc zero)))) = refl
none_at A (suc (suc (suc (suc (suc x))))) = refl

pub no_views_shown : no_views ≡ views_of no_looks
no_views_shown = fun_ext (λ x. none_at View x)

pub no_reads_kept : no_reads ≡ reads_of (None ∷ None ∷ None ∷ None ∷ None ∷ [])
no_reads_kept = fun_ext (λ x. none_at ℕ x)

pub stands_untouched : (shape : Shape) → shape.n ≤ 5 → Stands (no_lines shape) untouched
stands_untouched shape few = record {
  number = refl;
  area = refl;
  held = refl;
  second = refl;
  second_held = refl;
  pre = refl;
  done = refl;
  post = refl;
  inside = refl;
  object = refl;
  kind = refl;
  healing = refl;
  settled = refl;
  step = refl;
  asked = refl;
  unlocked = refl;
  reached = refl;
  views = no_views_shown;
  first_reached = refl;
  first_views = no_views_shown;
  part = refl;
  possible = λ s l. sym (below_all shape.n s few l);
  reads = no_reads_kept;
  upto = refl;
  broken = refl;
}

-- the exact register with the fields of the program, and the proof's own as they are
abbrev pub filled : Register → Exact → Exact
filled p r =
    record (seen_as p) { law = record (seen_as p).law { seen = r.law.seen; closed = r.law.closed; start = r.law.start; view = r.law.view; first = r.law.first; mended = r.law.mended; raised = r.law.raised }; possible = r.possible }

pub is_filled : (p : Register) (r : Exact) → Stands p r → r ≡ filled p r
is_filled p r s =
    rw (← s.number, ← s.area, ← s.held, ← s.second, ← s.second_held, ← s.pre, ← s.done, ← s.post, ← s.inside, ← s.object, ← s.kind, ← s.healing, ← s.settled, ← s.step, ← s.asked, ← s.unlocked, ← s.reached, ← s.views, ← s.first_reached, ← s.first_views, ← s.part, ← s.reads, ← s.upto, ← s.broken) refl

-- The discipline in full over a list of lines, the newest first: each line is judged by those before it.
use Rattle.afr_model_moves.specs.ByList.{MayExactlyNext, IsExactlyLawful}
use Rattle.afr_base.specs.declared.ids.Kind.{Kind}
use Rattle.afr_base.specs.declared.ids.What.{What}
use Rattle.afr_law.proofs.Safety.Agree.{place_same, value_same}
use Rattle.afr_model_moves.specs.Past.{Beginning, Log, is_of, opens, place}
use Rattle.afr_model_moves.proofs.ByPosition.{IsPast, none_at, past_at, past_whole}
use Rattle.afr_model_moves.specs.Positions.{by_position}
use Rattle.afr_lines.specs.declared.line.Line.{Line}
use Rattle.afr_lines.specs.declared.line.Line.TheVariants.{Ask, Begin, End, Event, HealBegin, HealEnd}
use Rattle.afr_object.specs.declared.change.Change.{Change}
use Rattle.afr_object.specs.declared.change.Change.TheVariants.{Cut, Make, Remove, SetAttr, Write}
use Rattle.std.proofs.Common.{Bool, [], arith, false, inl, inr, length, refl, subst, suc, sym, true, zero, ℕ, ◌<◌, ◌∙◌, ◌∷◌, ◌≡◌, ◌≤◌}
use Rattle.std.proofs.lemmas.Bool.Decides.{nat_tests}
use Rattle.std.specs.Prelude.{None, Option, Some, nat_lt, ◌==◌, List as Seq}
use Rattle.afr_model_moves.specs.Cells.{Entry}
use Rattle.afr_model_moves.specs.Discipline.{exact, exact_after, present, in_force, MayExactly, HasRead, EndsWork, MakesKnown, BeginsKnown, NumbersInRange, LawfulExactly}
use Rattle.std.proofs.lemmas.Bool.{eqb-true, ltb-true, ltb-false}

module _ (log other : Log) (m : ℕ) (agree : (u : ℕ) → u < m → log u ≡ other u) where
  pub exact_same : (n : ℕ) (keeps : ℕ → Kind → Bool) (a t : ℕ) → t ≤ m → exact n keeps log t a ≡ exact n keeps other t a
  unfolding exact
  exact_same n keeps a zero h = refl
  exact_same n keeps a (suc t) h = λ i. exact_after n keeps (is_of a (agree t h i)) (opens (place_same log other m agree a t (omega (arith, h)) i) (agree t h i)) (exact_same n keeps a t (omega (arith, h)) i) t (agree t h i)

  -- a read that gave an entry gave it in any log with the same lines so far
  read_same : (files : Beginning) (a g : ℕ) (what : What) → HasRead files log m a g what → HasRead files other m a g what
  read_same files a g what w = record {
    r = w.r;
    b = w.b;
    dir = w.dir;
    name = w.name;
    past = w.past;
    is = sym (agree w.r w.past) ∙ w.is;
    same_work = λ u from low e. w.same_work u from low (subst (EndsWork a) (sym (agree u low)) e);
    gave = sym (value_same log other m agree files w.b (Entry w.dir w.name) w.r (let p = w.past in omega (arith, p))) ∙ w.gave;
  }

  makes_same : (files : Beginning) (a : ℕ) (change : Change) → MakesKnown files log m a change → MakesKnown files other m a change
  makes_same files a (Make dir name g what) k = elim k [ inl e ↦ inl e | inr w ↦ inr (read_same files a g.0 what w) ]
  makes_same files a (Write g at bytes) k = k
  makes_same files a (Cut g len) k = k
  makes_same files a (SetAttr g key v) k = k
  makes_same files a (Remove dir name what) k = k

  known_same : (files : Beginning) (line : Option Line) → BeginsKnown files log m line → BeginsKnown files other m line
  known_same files None k = k
  known_same files (Some (Ask a b request told took)) k = k
  known_same files (Some (Begin a change)) k = makes_same files a.0 change k
  known_same files (Some (HealBegin a g kind)) k = k
  known_same files (Some (End a reply)) k = k
  known_same files (Some (HealEnd a g kind reply)) k = k
  known_same files (Some (Event e)) k = k

  next_same : (n : ℕ) (keeps : ℕ → Kind → Bool) (line : Line) → other m ≡ Some line → MayExactlyNext n keeps log m line → MayExactly n keeps (present n keeps other m) (other m)
  next_same n keeps line is may =
      subst (λ (l : Option Line). MayExactly n keeps (λ a. in_force (opens (place other m a) l) (exact n keeps other m a)) l) (sym is)
      (subst (λ (X : Type 0). X) (λ i. MayExactly n keeps (λ a. in_force (opens (place_same log other m agree a m (omega arith) i) (Some line)) (exact_same n keeps a m (omega arith) i)) (Some line)) may)

-- the lines of the list, at their positions, keep the discipline
at_each : (n : ℕ) (files : Beginning) (L : Log) (log : Seq Line) → IsPast L log → IsExactlyLawful n files log → (t : ℕ) → t < length log → NumbersInRange (L t) × MayExactly n files.keeps (present n files.keeps L t) (L t) × BeginsKnown files L t (L t)
at_each n files L [] past lawful t low = absurd (omega (arith, low))
at_each n files L (line ∷ older) past lawful t low = go (t == length older) refl (λ less. at_each n files L older past.1 lawful.1 t less)
  where
    agree : (u : ℕ) → u < length older → by_position older u ≡ L u
    agree u less = sym (past_at L older past.1 u less)

    here : NumbersInRange (L (length older)) × MayExactly n files.keeps (present n files.keeps L (length older)) (L (length older)) × BeginsKnown files L (length older) (L (length older))
    here = (
      subst NumbersInRange (sym past.0) (lawful.0).0,
      next_same (by_position older) L (length older) agree n files.keeps line past.0 (lawful.0).1,
      known_same (by_position older) L (length older) agree files (L (length older)) (subst (BeginsKnown files (by_position older) (length older)) (sym past.0) (lawful.0).2),
    )

    less : (q m : ℕ) → (q == m) ≡ false → q < suc m → q < m
    less q m e low = grind (arith, nat_tests)

    go : (new : Bool) → (t == length older) ≡ new → (t < length older → NumbersInRange (L t) × MayExactly n files.keeps (present n files.keeps L t) (L t) × BeginsKnown files L t (L t)) → NumbersInRange (L t) × MayExactly n files.keeps (present n files.keeps L t) (L t) × BeginsKnown files L t (L t)
    go true e rest = subst (λ (u : ℕ). NumbersInRange (L u) × MayExactly n files.keeps (present n files.keeps L u) (L u) × BeginsKnown files L u (L u)) (sym (eqb-true t (length older) e)) here
    go false e rest = rest (less t (length older) e low)

-- so a list whose lines keep the discipline, each by those before it, is lawful by its positions
pub exactly_lawful : (n : ℕ) (files : Beginning) (log : Seq Line) → IsExactlyLawful n files log → LawfulExactly n files (by_position log)
exactly_lawful n files log lawful = record {
  ranges = λ t. (each t).0;
  moves = λ t. (each t).1;
  makes = λ t. (each t).2;
}
  where
    each : (t : ℕ) → NumbersInRange (by_position log t) × MayExactly n files.keeps (present n files.keeps (by_position log) t) (by_position log t) × BeginsKnown files (by_position log) t (by_position log t)
    each t = go (nat_lt t (length log)) refl
      where
        go : (inside : Bool) → nat_lt t (length log) ≡ inside → NumbersInRange (by_position log t) × MayExactly n files.keeps (present n files.keeps (by_position log) t) (by_position log t) × BeginsKnown files (by_position log) t (by_position log t)
        go true e = at_each n files (by_position log) log (past_whole log) lawful t (ltb-true t (length log) e)
        go false e = subst (λ (l : Option Line). NumbersInRange l × MayExactly n files.keeps (present n files.keeps (by_position log) t) l × BeginsKnown files (by_position log) t l) (sym (none_at log t (ltb-false t (length log) e))) (tt, tt, tt)

-- In honest and lawful logs of the model each accusation has its cause.
use Rattle.std.proofs.Common.{◌≡◌, ℕ, ◌<◌, true, refl, sym, ◌∙◌, subst, arith, List, [], ◌∷◌, length}
use Rattle.std.specs.Prelude.{nat_lt}
use Rattle.std.proofs.lemmas.Bool.Decides.{nat_tests}
use Rattle.afr_base.specs.declared.ids.Gfid.{Gfid}
use Rattle.afr_base.specs.declared.ids.Kind.{Kind}
use Rattle.afr_object.specs.Tables.{object_of}
use Rattle.afr_lines.specs.Log.{EveryPrefix}
use Rattle.afr_lines.specs.declared.line.Line.{Line}
use Rattle.afr_plan.specs.declared.plan.Plan.{Plan}
use Rattle.afr_model.specs.Honest.{fault_in}
use Rattle.afr_model.specs.Sums.{pending_of}
use Rattle.afr_law.proofs.Model.Discipline.{weakly_lawful}
use Rattle.afr_law.specs.Beginning.{start_of}
use Rattle.afr_law.proofs.Model.Settles.{all_honest, all_lawful, take_within, within_before}
use Rattle.afr_law.proofs.Model.SoundLog.{LawfulBelow, lawful_below, name_limit}
use Rattle.afr_law.proofs.Model.Sums.{pending_is}
use Rattle.afr_law.proofs.Causes.Posted.{has_cause}
use Rattle.afr_law.specs.Causes.{Cause}
use Rattle.afr_model_moves.specs.Honest.{Honest}
use Rattle.afr_law.specs.ModelCauses.{HaveCauses, IsCause, ModelAccusationsHaveCauses, ModelExactAccusations}
use Rattle.afr_model_moves.specs.Past.{Log, pending}
use Rattle.afr_model_moves.specs.Positions.{by_position}
use Rattle.afr_model_moves.proofs.ByPosition.{IsPast, past_at, past_whole}
use Rattle.afr_law_tables.specs.CopyLaws.{gfid_is}
use Rattle.afr_model_moves.proofs.Changes.{object_same, kind_same}

pub some_is : (m : ℕ) → nat_lt 0 m ≡ true → 0 < m
some_is m e = grind (arith, nat_tests)

-- a cause by positions, in the words of the model
pub cause_is : (L : Log) (older : List Line) → IsPast L older → (x c : ℕ) (g : Gfid) (kind : Kind) → Cause L (length older) x c g.0 kind → IsCause older x c g kind
cause_is L older h x c g kind w = record {
  position = w.p;
  actor = record { 0 = w.a };
  attempt = w.q;
  missed = w.missed;
  told = w.told;
  posted = sym (past_at L older h w.p w.past) ∙ w.posted;
  heard = w.heard;
  named = w.named;
  change = w.change;
  earlier = w.earlier;
  begun = sym (past_at L older h w.q (omega (arith, w.earlier, w.past))) ∙ w.begun;
  object_same = gfid_is (object_of w.change) g (sym (object_same w.change) ∙ w.object_same);
  kind_same = sym (kind_same w.change) ∙ w.kind_same;
  not_done = λ m other early is. w.not_done m other.0 early (past_at L older h m (omega (arith, early, w.past)) ∙ is);
}

pub cause_position : (L : Log) (older : List Line) (h : IsPast L older) (x c : ℕ) (g : Gfid) (kind : Kind) (w : Cause L (length older) x c g.0 kind) → (cause_is L older h x c g kind w).position ≡ w.p
unfolding cause_is
cause_position L older h x c g kind w = refl

module _ (p : Plan) (n : ℕ) (L : Log) (all : (t x c g : ℕ) (kind : Kind) → 0 < pending (start_of p n) L t x c g kind → Cause L t x c g kind) where
  causes_at : (older : List Line) → IsPast L older → LawfulBelow p n older → HaveCauses p older
  causes_at older h lawful x c g kind hit = cause_is L older h x c g kind (all (length older) x c g.0 kind (subst (λ (m : ℕ). 0 < m) (sym (pending_is p n L x c g kind older h lawful)) (some_is (pending_of p older x c g kind) hit)))

  each_moment : (older : List Line) → IsPast L older → LawfulBelow p n older → EveryPrefix (HaveCauses p) older
  each_moment [] h lawful = causes_at [] h lawful
  each_moment (line ∷ older) h lawful = (causes_at (line ∷ older) h lawful, each_moment older h.1 lawful.1)

-- in the words of the model
pub model_causes : ModelAccusationsHaveCauses
model_causes p log five honest lawful = each_moment p n (by_position log) (has_cause p.shape.n (start_of p n) (fault_in p.faults) (by_position log) all_told (all_lawful p n five log below)) log (past_whole log) below
  where
    n : ℕ
    n = name_limit p log

    below : LawfulBelow p n log
    below = lawful_below p n log (omega arith) lawful

    all_told : Honest (start_of p n) (fault_in p.faults) (by_position log)
    all_told = all_honest p n five log below honest (within_before p log (take_within p n five log below honest))

-- over the discipline in full
pub exact_causes : ModelExactAccusations
exact_causes p log five short honest lawful = model_causes p log five honest (weakly_lawful p log five short honest lawful)

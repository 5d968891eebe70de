-- Causes since a moment, and splits, in the words of the model.
use Rattle.std.proofs.Common.{◌≡◌, ℕ, zero, suc, ◌-◌, ◌<◌, ◌≤◌, true, false, inl, inr, sym, ◌∙◌, ap, subst, arith, List, [], ◌∷◌, length, length-drop, drop, true≢false}
use Rattle.std.specs.Prelude.{nat_lt}
use Rattle.std.proofs.lemmas.Bool.{cases_lt}
use Rattle.std.proofs.lemmas.Bool.Decides.{nat_tests}
use Rattle.afr_base.specs.Bricks.{member}
use Rattle.afr_base.specs.declared.ids.Gfid.{Gfid}
use Rattle.afr_base.specs.declared.ids.Kind.{Kind}
use Rattle.afr_lines.specs.Log.{EveryPrefix, before}
use Rattle.afr_lines.specs.declared.line.Line.{Line}
use Rattle.afr_plan.specs.declared.plan.Plan.{Plan}
use Rattle.afr_model.specs.Honest.{Honest as IsHonestLog, fault_in}
use Rattle.afr_model.specs.Safe.{accuses}
use Rattle.afr_model.specs.Sums.{pending_of}
use Rattle.afr_model_moves.specs.Honest.{Honest}
use Rattle.afr_model_moves.specs.Past.{Log, pending}
use Rattle.afr_model_moves.specs.Positions.{by_position}
use Rattle.afr_model_moves.proofs.ByPosition.{IsPast, past_whole}
use Rattle.afr_law.specs.Beginning.{start_of}
use Rattle.afr_law.specs.Exactly.{IsLawfulExactly}
use Rattle.afr_law.proofs.Model.Causes.{cause_is, cause_position, some_is}
use Rattle.afr_law.proofs.Model.Discipline.{weakly_lawful}
use Rattle.afr_law.proofs.Model.Fits.{exact_sums}
use Rattle.afr_law.proofs.Model.Settles.{all_honest, all_lawful, take_within, within_before}
use Rattle.afr_law.proofs.Model.SoundLog.{LawfulBelow, lawful_below, name_limit}
use Rattle.afr_law.proofs.Model.Sums.{pending_is}
use Rattle.afr_law_promises.specs.Missed.ByPosition.{CauseSince}
use Rattle.afr_law_promises.specs.Missed.Missed.{AreAllMissed, HaveCausesSince, IsCauseSince, IsMissed, ModelExactMissed, ModelHaveCausesSince}
use Rattle.afr_law_promises.proofs.Missed.Posted.{cause_since}
use Rattle.afr_law_promises.proofs.Missed.Views.{split_accused}
use Rattle.afr_law_quiet.proofs.Moves.Unmoved.{not_below}

none_is : (m : ℕ) → nat_lt 0 m ≡ false → m ≡ 0
none_is m e = grind (arith, nat_tests)

-- what holds of a log and of each that is shorter by a line holds of its first lines
drop_keeps : (P : List Line → Type 0) → ((line : Line) (older : List Line) → P (line ∷ older) → P older) → (k : ℕ) (log : List Line) → P log → P (drop k log)
drop_keeps P down zero log h = h
drop_keeps P down (suc k) [] h = h
drop_keeps P down (suc k) (line ∷ older) h = drop_keeps P down k older (down line older h)

module _ (p : Plan) (n : ℕ) (L : Log) (all : (s t x c g : ℕ) (kind : Kind) → s ≤ t → pending (start_of p n) L s x c g kind ≡ 0 → 0 < pending (start_of p n) L t x c g kind → CauseSince L s t x c g kind) where
  cause_after : (older : List Line) → IsPast L older → (since s x c : ℕ) (g : Gfid) (kind : Kind) → since ≤ s → CauseSince L s (length older) x c g.0 kind → IsCauseSince older since x c g kind
  cause_after older h since s x c g kind low k = (let after = k.after in record { cause = cause_is L older h x c g kind k.cause; after = omega (arith, low, after, cause_position L older h x c g kind k.cause) })

  since_is : (older : List Line) → IsPast L older → LawfulBelow p n older → HaveCausesSince p older
  since_is older h lawful since x c g kind none hit = elim (cases_lt (length older) since) [
    | inl over ↦ absurd (true≢false (sym hit ∙ sym (ap (λ (k : ℕ). accuses p (drop k older) g kind x c) (nothing_left (length older) since over)) ∙ none))
    | inr under ↦ cause_after older h since s x c g kind (omega (arith, short, under)) (all s (length older) x c g.0 kind (omega (arith, short)) was now)
  ]
    where
      nothing_left : (m k : ℕ) → m < k → m - k ≡ 0
      nothing_left m k l = omega arith

      first : List Line
      first = drop (length older - since) older

      s : ℕ
      s = length first

      short : s ≡ length older - (length older - since)
      short = length-drop (length older - since) older

      first_past : IsPast L first
      first_past = drop_keeps (IsPast L) (λ line rest k. k.1) (length older - since) older h

      first_lawful : LawfulBelow p n first
      first_lawful = drop_keeps (LawfulBelow p n) (λ line rest k. k.1) (length older - since) older lawful

      was : pending (start_of p n) L s x c g.0 kind ≡ 0
      was = pending_is p n L x c g kind first first_past first_lawful ∙ none_is (pending_of p first x c g kind) none

      now : 0 < pending (start_of p n) L (length older) x c g.0 kind
      now = subst (λ (m : ℕ). 0 < m) (sym (pending_is p n L x c g kind older h lawful)) (some_is (pending_of p older x c g kind) hit)

  each_moment : (older : List Line) → IsPast L older → LawfulBelow p n older → EveryPrefix (HaveCausesSince p) older
  each_moment [] h lawful = since_is [] h lawful
  each_moment (line ∷ older) h lawful = (since_is (line ∷ older) h lawful, each_moment older h.1 lawful.1)

-- in the words of the model
pub model_since : ModelHaveCausesSince
model_since p log five honest lawful = each_moment p n (by_position log) (cause_since p.shape.n (start_of p n) (fault_in p.faults) (by_position log) all_told (all_lawful p n five log below)) log (past_whole log) below
  where
    n : ℕ
    n = name_limit p log

    below : LawfulBelow p n log
    below = lawful_below p n log (omega arith) lawful

    all_told : Honest (start_of p n) (fault_in p.faults) (by_position log)
    all_told = all_honest p n five log below honest (within_before p log (take_within p n five log below honest))

-- ---- splits
-- one moment
missed_now : (p : Plan) (log : List Line) → p.shape.n ≤ 5 → length log ≤ 4000000 → IsHonestLog p log → IsLawfulExactly p log → HaveCausesSince p log → AreAllMissed p log
missed_now p log five short honest lawful causes since among within g kind clear split c inside there kept = go (split_accused p log (exact_sums p log five short honest lawful).1 five among within g kind split c inside there kept)
  where
    go : ((x : ℕ) × (member among x ≡ true) × (accuses p log g kind x c ≡ true)) → IsMissed log among since c g kind
    go w = record {
      brick = w.0;
      inside = w.1;
      cause = causes since w.0 c g kind (not_below (pending_of p (before since log) w.0 c g kind) ((clear w.0 (within w.0 w.1)).1 c (within c inside))) w.2;
    }

all_missed : (p : Plan) (log : List Line) → p.shape.n ≤ 5 → length log ≤ 4000000 → IsHonestLog p log → IsLawfulExactly p log → EveryPrefix (HaveCausesSince p) log → EveryPrefix (AreAllMissed p) log
all_missed p [] five short honest lawful causes = missed_now p [] five short honest lawful causes
all_missed p (line ∷ older) five short honest lawful causes = (missed_now p (line ∷ older) five short honest lawful causes.0, all_missed p older five (omega (arith, short)) honest.1 lawful.1 causes.1)

-- over the discipline in full
pub exact_missed : ModelExactMissed
exact_missed p log five short honest lawful =
    let causes = model_since p log five honest (weakly_lawful p log five short honest lawful) in
    (causes, all_missed p log five short honest lawful causes)

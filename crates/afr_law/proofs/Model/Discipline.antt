-- Honest logs that keep the discipline in full keep the one that the laws use, in the words of the model.
use Rattle.afr_law.proofs.Model.Alike.{model_alike}
use Rattle.afr_law.proofs.Model.Honest.{honest_ask}
use Rattle.afr_law.specs.Beginning.{start_of}
use Rattle.afr_law.proofs.Model.Safe.{model_safe}
use Rattle.afr_law.proofs.Model.Settles.{honest_at, make_known, take_within, within_before}
use Rattle.afr_law.proofs.Model.SoundLog.{LawfulBelow, NameIsBelow}
use Rattle.afr_law_tables.proofs.Sound.{NameFits}
use Rattle.afr_law.proofs.Model.Sums.{TakeWithin}
use Rattle.afr_law_tables.specs.Codes.{kept_by}
use Rattle.afr_model_moves.specs.Discipline.{LawfulExactly}
use Rattle.afr_law.proofs.Discipline.Known.{line_known}
use Rattle.afr_model_moves.specs.ByList.{IsExactLine, IsExactlyLawful}
use Rattle.afr_law.proofs.Discipline.ByList.{exactly_lawful}
use Rattle.afr_model_moves.specs.Ranges.{ChangeInRange, InRange}
use Rattle.afr_law.specs.Exactly.{IsLawfulExactly, name_bound}
use Rattle.afr_model_moves.specs.Honest.{Honest, HonestLine}
use Rattle.afr_law.proofs.Discipline.Implies.{implies}
use Rattle.afr_model_moves.specs.Rules.{Lawful, Register, present}
use Rattle.afr_law.specs.ModelExact.{ModelExactIsAlike, ModelExactIsSafe}
use Rattle.afr_law.specs.ModelLaw.{IsKnown, IsLawful, IsLawfulLine}
use Rattle.afr_model_moves.specs.Past.{Log}
use Rattle.afr_model_moves.proofs.ByPosition.{IsPast, none_at, past_at, past_whole}
use Rattle.afr_model_moves.specs.Positions.{by_position}
use Rattle.afr_law.proofs.Discipline.Projection.{present_law}
use Rattle.afr_law.proofs.Discipline.SameMoves.{may_next}
use Rattle.afr_law.proofs.Discipline.Untouched.{newest_now}
use Rattle.afr_lines.specs.Log.{from_oldest}
use Rattle.afr_lines.specs.declared.line.Line.{Line}
use Rattle.afr_lines.specs.declared.line.Line.TheVariants.{Ask, Begin, End, Event, HealBegin, HealEnd}
use Rattle.afr_model.specs.Honest.{Honest as IsHonestLog, IsHonest, fault_in}
use Rattle.afr_object.specs.declared.change.Change.{Change}
use Rattle.afr_object.specs.declared.change.Change.TheVariants.{Cut, Make, Remove, SetAttr, Write}
use Rattle.afr_plan.specs.declared.plan.Plan.{Plan}
use Rattle.std.proofs.Common.{List, [], arith, inl, inr, length, subst, suc, sym, ℕ, ◌<◌, ◌^◌, ◌∷◌, ◌≡◌, ◌≤◌}
use Rattle.std.specs.Prelude.{Some}
use Rattle.std.proofs.lemmas.Bool.{cases_lt}
use Rattle.afr_base.specs.SetLemmas.{below_all}

-- the newest line is honest by positions: a request went to a brick of the plan, and what is made is known
newest_told : (p : Plan) (n : ℕ) (five : p.shape.n ≤ 5) (L : Log) (older : List Line) → IsPast L older → LawfulBelow p n older → TakeWithin p older → (line : Line) → L (length older) ≡ Some line → IsKnown p line older
    → IsExactLine p.shape.n (start_of p n) line older → IsHonest p line older → HonestLine (start_of p n) (fault_in p.faults) L (length older) (Some line)
newest_told p n five L older h below within (Ask a b r told took) is known here said = honest_ask p n L a b r told took older (below_all p.shape.n b.0 five (here.1).0) is h below within said
newest_told p n five L older h below within (Begin a c) is known here said = make_known p n L older h below c known.1
newest_told p n five L older h below within (HealBegin a g kind) is known here said = tt
newest_told p n five L older h below within (End a reply) is known here said = tt
newest_told p n five L older h below within (HealEnd a g kind reply) is known here said = tt
newest_told p n five L older h below within (Event e) is known here said = tt

-- the newest line, after lines that keep the discipline that the laws use
module _ (p : Plan) (n : ℕ) (five : p.shape.n ≤ 5) (line : Line) (older : List Line) (short : length older ≤ 4000000) (honest : IsHonestLog p (line ∷ older)) (lawful : IsExactlyLawful p.shape.n (start_of p n) (line ∷ older)) (below : LawfulBelow p n older) where
  -- the log by its positions
  abbrev L : Log
  L = by_position (line ∷ older)

  within : TakeWithin p older
  within = take_within p n five older below honest.1

  past : IsPast L (line ∷ older)
  past = past_whole (line ∷ older)

  exactly : LawfulExactly p.shape.n (start_of p n) L
  exactly = exactly_lawful p.shape.n (start_of p n) (line ∷ older) lawful

  agree : (q : ℕ) → q < length older → L q ≡ from_oldest q older
  agree q less = past_at L older past.1 q less

  known : IsKnown p line older
  known = line_known p n older below short L exactly.moves agree line past.0 lawful.0

  newest : HonestLine (start_of p n) (fault_in p.faults) L (length older) (L (length older))
  newest = subst (HonestLine (start_of p n) (fault_in p.faults) L (length older)) (sym past.0) (newest_told p n five L older past.1 below within line past.0 known lawful.0 honest.0)

  told : Honest (start_of p n) (fault_in p.faults) L
  told t = elim (cases_lt t (length older)) [
    | inl early ↦ honest_at p n L five older past.1 below (within_before p older within) honest.1 t early
    | inr late ↦ elim (cases_lt t (suc (length older))) [
      | inl here ↦ subst (λ (k : ℕ). HonestLine (start_of p n) (fault_in p.faults) L k (L k)) (omega (arith, late, here)) newest
      | inr high ↦ subst (HonestLine (start_of p n) (fault_in p.faults) L t) (sym (none_at (line ∷ older) t high)) tt
    ]
  ]

  weakly : Lawful p.shape.n (kept_by p) L
  weakly = implies p.shape.n (start_of p n) (fault_in p.faults) L exactly told

  number_low : (a : ℕ) → (present p.shape.n L (length older) a).number ≤ length older
  number_low a = subst (λ (w : Register). w.number ≤ length older) (present_law p.shape.n (kept_by p) L (length older) a) (newest_now p.shape.n (kept_by p) L exactly.moves (length older) a).past

  newest_lawful : IsLawfulLine p line older
  newest_lawful = (may_next p.shape.n (kept_by p) L (by_position older) (length older) agree line past.0 number_low (weakly (length older)), known)

-- names of four bytes are below
change_below : (n : ℕ) → 2 ^ 32 ≤ n → (c : Change) → ChangeInRange c → NameFits n c
change_below n wide (Make dir name g what) h = (let w = h.1 in omega (arith, wide, w))
change_below n wide (Write g at bytes) h = tt
change_below n wide (Cut g len) h = tt
change_below n wide (SetAttr g key value) h = tt
change_below n wide (Remove dir name what) h = tt

line_below : (n : ℕ) → 2 ^ 32 ≤ n → (line : Line) → InRange line → NameIsBelow n line
line_below n wide (Begin a c) h = change_below n wide c h.1
line_below n wide (Ask a b r said took) h = tt
line_below n wide (HealBegin a g kind) h = tt
line_below n wide (End a reply) h = tt
line_below n wide (HealEnd a g kind reply) h = tt
line_below n wide (Event e) h = tt

all_below : (p : Plan) (n : ℕ) → p.files ≤ n → 2 ^ 32 ≤ n → (log : List Line) → IsExactlyLawful p.shape.n (start_of p n) log → IsLawful p log → LawfulBelow p n log
all_below p n files wide [] lawful kept = files
all_below p n files wide (line ∷ older) lawful kept = ((kept.0, line_below n wide line (lawful.0).0), all_below p n files wide older lawful.1 kept.1)

-- each line by those before it
exact_lawful : (p : Plan) (n : ℕ) → p.shape.n ≤ 5 → p.files ≤ n → 2 ^ 32 ≤ n → (log : List Line) → length log ≤ 4000000 → IsHonestLog p log → IsExactlyLawful p.shape.n (start_of p n) log → IsLawful p log
exact_lawful p n five files wide [] short honest lawful = tt
exact_lawful p n five files wide (line ∷ older) short honest lawful = (
    let before = exact_lawful p n five files wide older (omega (arith, short)) honest.1 lawful.1 in
    (newest_lawful p n five line older (omega (arith, short)) honest lawful (all_below p n files wide older lawful.1 before), before)
    )

-- lines that keep the discipline in full keep the one that the laws use
pub weakly_lawful : (p : Plan) (log : List Line) → p.shape.n ≤ 5 → length log ≤ 4000000 → IsHonestLog p log → IsLawfulExactly p log → IsLawful p log
weakly_lawful p log five short honest lawful = exact_lawful p (name_bound p) five (omega arith) (omega arith) log short honest lawful

-- and all their names are below the bound
pub exactly_below : (p : Plan) (log : List Line) → p.shape.n ≤ 5 → length log ≤ 4000000 → IsHonestLog p log → IsLawfulExactly p log → LawfulBelow p (name_bound p) log
exactly_below p log five short honest lawful = all_below p (name_bound p) (omega arith) (omega arith) log lawful (weakly_lawful p log five short honest lawful)

-- so both laws hold of them
pub exact_safe : ModelExactIsSafe
exact_safe p log five short honest lawful = model_safe p log five honest (weakly_lawful p log five short honest lawful)

pub exact_alike : ModelExactIsAlike
exact_alike p log five short honest lawful = model_alike p log five honest (weakly_lawful p log five short honest lawful)

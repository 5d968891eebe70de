-- What a check read, a text of it that was cut off, and what a source that tells its bytes is answered with.
use Rattle.std.proofs.Common.{◌≡◌, ◌∙◌, ◌≤◌, ◌⊎◌, ℕ, List, Option, Some, Result, Ok, Err, drop, length, take, sym, ap, inl, inr, arith}
use Rattle.std.specs.Prelude.{String}
use Rattle.std.specs.Global.{Global}
use Rattle.std.specs.Io.KnownBytes.{Appends}
use Rattle.afr_text.specs.Parts.{AppendsFront}
use Rattle.afr_law_runnable.specs.Runnable.{IsRunnable}
use Rattle.afr_plan.specs.declared.plan.Plan.{Plan}
use Rattle.afr_plan.specs.declared.plan.PlanFault.{PlanFault}
use Rattle.afr_plan.specs.Judging.{first_fault}
use Rattle.afr_plan.specs.Spells.{Spells}
use Rattle.afr_plan_read.proofs.PlanLemmas.{faulty-spells, same-plan}
use Rattle.afr_trace_check.specs.Right.{IsFound, IsPastLimit}
use Rattle.afr_trace_check.specs.declared.finding.CheckStop.{CheckStop}
use Rattle.afr_trace_check.specs.declared.finding.Finding.{Finding}
use Rattle.afr_trace_follow.specs.Following.{HasFewActors}
use Rattle.afr_volume.specs.State.{State, no_volume}
use Rattle.afr_words.specs.Forms.{AskCheck}
use Rattle.afr_cli.specs.Checking.{HasPartFault, HasTrace, IsChecked, IsFaultyPart, IsGivenTrace, IsPartRefused, IsSaidOf, IsToldOf, StopsTelling, finding_line, finding_status, limit_line}
use Rattle.afr_cli.specs.Parts.{IsPlanPart}
use Rattle.afr_cli.specs.Reading.{WasRead}
use Rattle.afr_cli.specs.Statuses.{IsText, StopsWriting, refusal_line}
use Rattle.afr_cli.proofs.PartLemmas.{one_part}
use Rattle.afr_cli.proofs.ToldLemmas.{all_bytes, more_bytes}

-- ---- what was read
module _ (left left' : Option (List ℕ)) (bytes part : List ℕ) (len : ℕ) (read : WasRead 16777216 left left' bytes) (whole : IsPlanPart bytes len) (front : part ≡ take len bytes) where
  pub is_faulty_part : (fault : PlanFault) → (first_fault part ≡ Some fault) × ((plan : Plan) → Spells part plan → ⊥) → IsPartRefused left left' fault
  is_faulty_part fault (first, none) = inl (record { bytes = bytes; len = len; read = read; part = whole; first = rw front at first; none = rw front at none })

-- ---- what is said of it
pub has_few_actors : (plan : Plan) → IsRunnable plan → HasFewActors plan
has_few_actors plan can = record { clients = can.clients; healers = can.healers }

-- what was found is no stop
pub within : (found : Finding) (stop : CheckStop) → ◌≡◌ {A = Result Finding CheckStop} (Ok found) (Err stop) → ⊥
within found stop same = cc

-- a status that tells what came of a check is no other
pub has_status : (r s : ℕ) → (r ≡ 0) ⊎ (r ≡ 11) ⊎ (r ≡ 12) → (r ≡ s) ⊎ (r ≡ 5) ⊎ (r ≡ 6) → r ≡ s
has_status r s ended (inl e) = e
has_status r s ended (inr other) = absurd (omega (arith, ended, other))

pub not_five : (r : ℕ) → (r ≡ 0) ⊎ (r ≡ 11) ⊎ (r ≡ 12) → r ≡ 5 → ⊥
not_five r ended five = omega (arith, ended, five)

module _ (plan : Plan) (trace : List ℕ) (taken taken' : Option (List ℕ)) where
  pub tells_found : (found : Finding) → (IsPastLimit plan trace → ⊥) → IsFound plan trace found → (r : ℕ) → r ≡ finding_status found → Appends taken taken' (finding_line found)
      → IsToldOf plan trace r taken taken'
  tells_found found within is r e line = rw e (record { text = finding_line found; said = IsSaidOf.Finds within found is; line = line })

  pub stops_found : (found : Finding) → (IsPastLimit plan trace → ⊥) → IsFound plan trace found → AppendsFront taken taken' (finding_line found) → StopsTelling plan trace taken taken'
  stops_found found within is front = record { status = finding_status found; text = finding_line found; said = IsSaidOf.Finds within found is; front = front }

  pub tells_limit : IsPastLimit plan trace → (r : ℕ) → r ≡ 12 → Appends taken taken' limit_line → IsToldOf plan trace r taken taken'
  tells_limit past r e line = rw e (record { text = limit_line; said = IsSaidOf.PastLimit past; line = line })

  pub stops_at_limit : IsPastLimit plan trace → AppendsFront taken taken' limit_line → StopsTelling plan trace taken taken'
  stops_at_limit past front = record { status = 12; text = limit_line; said = IsSaidOf.PastLimit past; front = front }

-- ---- a text that was cut off
module _ {S : Type 0} (words : List (String Global)) (left : S → Option (List ℕ)) (source source' : S) (taken taken' : Option (List ℕ)) (now : State) (asked : AskCheck words) (none : now ≡ no_volume) where
  pub stops_at_part_refusal : (fault : PlanFault) → IsPartRefused (left source) (left source') fault → AppendsFront taken taken' (refusal_line fault)
      → StopsWriting words left source source' taken taken' now
  stops_at_part_refusal fault cause front = record { text = refusal_line fault; known = IsText.PartRefusal asked fault cause none; front = front }

  pub stops_at_finding : (plan : Plan) (trace : List ℕ) → IsGivenTrace (left source) (left source') plan trace → StopsTelling plan trace taken taken'
      → StopsWriting words left source source' taken taken' now
  stops_at_finding plan trace given stops = record { text = stops.text; known = IsText.Checked asked plan trace given stops.status stops.text stops.said none; front = stops.front }

-- ---- a source that tells its bytes
-- bytes have one plan and one trace
module _ (bytes : List ℕ) (plan other : Plan) (trace rest : List ℕ) (one : HasTrace bytes plan trace) (two : HasTrace bytes other rest) where
  one_len : one.len ≡ two.len
  one_len = one_part bytes one.len two.len one.part two.part

  one_plan : plan ≡ other
  one_plan = same-plan (take one.len bytes) plan other one.spells (rw one_len two.spells)

  one_trace : trace ≡ rest
  one_trace = one.rest ∙ ap (λ (n : ℕ). drop n bytes) one_len ∙ sym two.rest

module _ (bytes : List ℕ) (left' : Option (List ℕ)) where
  given_few : (plan : Plan) (trace : List ℕ) → IsGivenTrace (Some bytes) left' plan trace → length bytes ≤ 16777216
  given_few plan trace g = rw (← all_bytes bytes g.bytes left' g.read) g.read.few

  given_parts : (plan : Plan) (trace : List ℕ) → IsGivenTrace (Some bytes) left' plan trace → HasTrace bytes plan trace
  given_parts plan trace g = rw (← all_bytes bytes g.bytes left' g.read) g.parts

  faulty_few : (fault : PlanFault) → IsFaultyPart (Some bytes) left' fault → length bytes ≤ 16777216
  faulty_few fault r = rw (← all_bytes bytes r.bytes left' r.read) r.read.few

  faulty_whole : (fault : PlanFault) (r : IsFaultyPart (Some bytes) left' fault) → IsPlanPart bytes r.len
  faulty_whole fault r = rw (← all_bytes bytes r.bytes left' r.read) r.part

  -- the plan part of the bytes has the fault
  faulty_first : (fault : PlanFault) (len : ℕ) → IsPlanPart bytes len → IsFaultyPart (Some bytes) left' fault → first_fault (take len bytes) ≡ Some fault
  faulty_first fault len part r =
      let same : r.len ≡ len = one_part bytes r.len len (faulty_whole fault r) part in
      rw (← same, ← all_bytes bytes r.bytes left' r.read) r.first

  -- bytes whose plan part has a fault are no trace of a plan
  faulty_untraced : (fault : PlanFault) (plan : Plan) (trace : List ℕ) → HasPartFault bytes fault → IsGivenTrace (Some bytes) left' plan trace → ⊥
  faulty_untraced fault plan trace (HasPartFault.Long more) g = omega (arith, more, given_few plan trace g)
  faulty_untraced fault plan trace (HasPartFault.Faulty few len part f first) g =
      let h = given_parts plan trace g in
      faulty-spells (take len bytes) f plan first (rw (one_part bytes len h.len part h.part) h.spells)

  -- they are refused with that fault alone
  one_fault : (fault other : PlanFault) → HasPartFault bytes fault → IsPartRefused (Some bytes) left' other → other ≡ fault
  one_fault fault other (HasPartFault.Long more) (inl r) = absurd (omega (arith, more, faulty_few other r))
  one_fault fault other (HasPartFault.Long more) (inr (e, long)) = e
  one_fault fault other (HasPartFault.Faulty few len part f first) (inl r) = let e : Some other ≡ Some f = sym (faulty_first other len part r) ∙ first in cc
  one_fault fault other (HasPartFault.Faulty few len part f first) (inr (e, long)) = absurd (omega (arith, few, more_bytes 16777216 bytes left' long))

  -- a plan and a trace aren't refused
  trace_whole : (fault : PlanFault) (plan : Plan) (trace : List ℕ) → length bytes ≤ 16777216 → HasTrace bytes plan trace → IsPartRefused (Some bytes) left' fault → ⊥
  trace_whole fault plan trace few h (inl r) = faulty-spells (take h.len bytes) fault plan (faulty_first fault h.len h.part r) h.spells
  trace_whole fault plan trace few h (inr (e, long)) = omega (arith, few, more_bytes 16777216 bytes left' long)

abbrev IsCheckStatus : ℕ → Type 0
IsCheckStatus r = (r ≡ 0) ⊎ (r ≡ 3) ⊎ (r ≡ 4) ⊎ (r ≡ 5) ⊎ (r ≡ 6) ⊎ (r ≡ 11) ⊎ (r ≡ 12)

abbrev IsToldRefusal : (left left' taken taken' : Option (List ℕ)) → Type 0
IsToldRefusal left left' taken taken' = (fault : PlanFault) × IsPartRefused left left' fault × Appends taken taken' (refusal_line fault)

module _ (bytes : List ℕ) (left left' taken taken' : Option (List ℕ)) (status : ℕ) (told : left ≡ Some bytes)
    (checked : (status ≡ 0) ⊎ (status ≡ 11) ⊎ (status ≡ 12) → IsChecked left left' taken taken' status) (read : status ≡ 4 → ⊥) (refused : status ≡ 3 → IsToldRefusal left left' taken taken') where
  untold : (fault : PlanFault) → HasPartFault bytes fault → (status ≡ 0) ⊎ (status ≡ 11) ⊎ (status ≡ 12) → ⊥
  untold fault wrong ended = let r = checked ended in faulty_untraced bytes left' fault r.plan r.trace wrong (rw told at r.given)

  -- a fault is refused, unless the sink failed or memory was wanting
  pub refuses_part : (fault : PlanFault) → HasPartFault bytes fault → IsCheckStatus status → ((status ≡ 3) × Appends taken taken' (refusal_line fault)) ⊎ (status ≡ 5) ⊎ (status ≡ 6)
  refuses_part fault wrong (inl zero) = absurd (untold fault wrong (inl zero))
  refuses_part fault wrong (inr (inl three)) =
      let r = refused three in inl (three, rw (one_fault bytes left' fault r.0 wrong (rw told at r.1)) at r.2)
  refuses_part fault wrong (inr (inr (inl four))) = absurd (read four)
  refuses_part fault wrong (inr (inr (inr (inl five)))) = inr (inl five)
  refuses_part fault wrong (inr (inr (inr (inr (inl six))))) = inr (inr six)
  refuses_part fault wrong (inr (inr (inr (inr (inr late))))) = absurd (untold fault wrong (inr late))

  tells : (plan : Plan) (trace : List ℕ) → HasTrace bytes plan trace → (status ≡ 0) ⊎ (status ≡ 11) ⊎ (status ≡ 12) → IsToldOf plan trace status taken taken'
  tells plan trace h ended =
      let r = checked ended in
      let parts = given_parts bytes left' r.plan r.trace (rw told at r.given) in
      rw (one_plan bytes plan r.plan trace r.trace h parts, one_trace bytes plan r.plan trace r.trace h parts) r.told

  -- of a trace is said what it is, unless the sink failed or memory was wanting
  pub answers : (plan : Plan) (trace : List ℕ) → length bytes ≤ 16777216 → HasTrace bytes plan trace → IsCheckStatus status → IsToldOf plan trace status taken taken' ⊎ (status ≡ 5) ⊎ (status ≡ 6)
  answers plan trace few h (inl zero) = inl (tells plan trace h (inl zero))
  answers plan trace few h (inr (inl three)) = let r = refused three in absurd (trace_whole bytes left' r.0 plan trace few h (rw told at r.1))
  answers plan trace few h (inr (inr (inl four))) = absurd (read four)
  answers plan trace few h (inr (inr (inr (inl five)))) = inr (inl five)
  answers plan trace few h (inr (inr (inr (inr (inl six))))) = inr (inr six)
  answers plan trace few h (inr (inr (inr (inr (inr late))))) = inl (tells plan trace h (inr late))

-- What a source that tells its bytes is answered with.
use Rattle.std.proofs.Common.{◌≡◌, ◌<◌, ◌≤◌, ◌⊎◌, ◌++◌, ◌∙◌, ℕ, List, Option, None, Some, length, length-append, append-nil, sym, ap, inl, inr, arith}
use Rattle.std.specs.Io.KnownBytes.{Appends}
use Rattle.afr_text.specs.Parts.{CameMore}
use Rattle.afr_plan.specs.declared.plan.Plan.{Plan}
use Rattle.afr_plan.specs.declared.plan.PlanFault.{PlanFault}
use Rattle.afr_plan.specs.Judging.{first_fault}
use Rattle.afr_plan.specs.Spells.{Spells}
use Rattle.afr_plan_read.proofs.PlanLemmas.{faulty-spells}
use Rattle.afr_cli.specs.Statuses.{HasFault, IsFaulty, IsRefused, IsRefusal, IsSpelled, refusal_line}
use Rattle.afr_cli.specs.Reading.{WasRead}

-- read to its end it gave just these
pub all_bytes : {most : ℕ} (bytes seen : List ℕ) (left' : Option (List ℕ)) → WasRead most (Some bytes) left' seen → seen ≡ bytes
all_bytes bytes seen None r = absurd r.came
all_bytes bytes seen (Some ys) r = sym (r.came ∙ ap (λ zs. seen ++ zs) r.end ∙ append-nil seen)

module _ (bytes : List ℕ) (left' : Option (List ℕ)) where
  spelled_few : (plan : Plan) → IsSpelled (Some bytes) left' plan → length bytes ≤ 16777216
  spelled_few plan s = rw (← all_bytes bytes s.bytes left' s.read) s.read.few

  pub spelled_bytes : (plan : Plan) → IsSpelled (Some bytes) left' plan → Spells bytes plan
  spelled_bytes plan s = rw (← all_bytes bytes s.bytes left' s.read) s.spells

pub more_bytes : (most : ℕ) (bytes : List ℕ) (left' : Option (List ℕ)) → CameMore (Some bytes) left' most → most < length bytes
more_bytes most bytes None m = absurd m.1
more_bytes most bytes (Some ys) m = rw (m.1, length-append) (omega (arith, m.2))

module _ (bytes : List ℕ) (left' : Option (List ℕ)) where
  faulty_few : (fault : PlanFault) → IsFaulty (Some bytes) left' fault → length bytes ≤ 16777216
  faulty_few fault r = rw (← all_bytes bytes r.bytes left' r.read) r.read.few

  faulty_first : (fault : PlanFault) → IsFaulty (Some bytes) left' fault → first_fault bytes ≡ Some fault
  faulty_first fault r = rw (← all_bytes bytes r.bytes left' r.read) r.first

  -- bytes with a fault spell no plan of a run
  pub faulty_unspelled : (fault : PlanFault) (plan : Plan) → HasFault bytes fault → IsSpelled (Some bytes) left' plan → ⊥
  faulty_unspelled fault plan (HasFault.Long more) s = omega (arith, more, spelled_few bytes left' plan s)
  faulty_unspelled fault plan (HasFault.Faulty few f first) s = faulty-spells bytes f plan first (spelled_bytes bytes left' plan s)

  -- they are refused with that fault alone
  one_fault : (fault other : PlanFault) → HasFault bytes fault → IsRefused (Some bytes) left' other → other ≡ fault
  one_fault fault other (HasFault.Long more) (inl r) = absurd (omega (arith, more, faulty_few other r))
  one_fault fault other (HasFault.Long more) (inr (e, long)) = e
  one_fault fault other (HasFault.Faulty few f first) (inl r) = let e : Some other ≡ Some f = sym (faulty_first other r) ∙ first in cc
  one_fault fault other (HasFault.Faulty few f first) (inr (e, long)) = absurd (omega (arith, few, more_bytes 16777216 bytes left' long))

  -- bytes that spell a plan have no fault
  spelled_whole : (fault : PlanFault) (plan : Plan) → length bytes ≤ 16777216 → Spells bytes plan → IsRefused (Some bytes) left' fault → ⊥
  spelled_whole fault plan few spells (inl r) = faulty-spells bytes fault plan (faulty_first fault r) spells
  spelled_whole fault plan few spells (inr (e, long)) = omega (arith, few, more_bytes 16777216 bytes left' long)

module _ (bytes : List ℕ) (left left' taken taken' : Option (List ℕ)) (status : ℕ) (plan : Plan) (told : left ≡ Some bytes) where
  -- a fault is refused, unless the sink failed or memory was wanting
  pub refuses : (fault : PlanFault) → HasFault bytes fault
      → (status ≡ 0) ⊎ (status ≡ 3) ⊎ (status ≡ 4) ⊎ (status ≡ 5) ⊎ (status ≡ 6) ⊎ (status ≡ 7)
      → (status ≡ 0 → IsSpelled left left' plan) → (status ≡ 3 → IsRefusal left left' taken taken') → (status ≡ 4 → ⊥) → (status ≡ 7 → IsSpelled left left' plan)
      → ((status ≡ 3) × Appends taken taken' (refusal_line fault)) ⊎ (status ≡ 5) ⊎ (status ≡ 6)
  refuses fault wrong (inl zero) ok refused read unfinished = absurd (faulty_unspelled bytes left' fault plan wrong (rw (← told) (ok zero)))
  refuses fault wrong (inr (inl three)) ok refused read unfinished =
      let r = refused three in inl (three, rw (← one_fault bytes left' fault r.fault wrong (rw (← told) r.cause)) r.line)
  refuses fault wrong (inr (inr (inl four))) ok refused read unfinished = absurd (read four)
  refuses fault wrong (inr (inr (inr (inl five)))) ok refused read unfinished = inr (inl five)
  refuses fault wrong (inr (inr (inr (inr (inl six))))) ok refused read unfinished = inr (inr six)
  refuses fault wrong (inr (inr (inr (inr (inr seven))))) ok refused read unfinished = absurd (faulty_unspelled bytes left' fault plan wrong (rw (← told) (unfinished seven)))

  -- a plan that is spelled is run, unless the sink failed or memory was wanting
  pub runs : (other : Plan) → length bytes ≤ 16777216 → Spells bytes other
      → (status ≡ 0) ⊎ (status ≡ 3) ⊎ (status ≡ 4) ⊎ (status ≡ 5) ⊎ (status ≡ 6) ⊎ (status ≡ 7)
      → (status ≡ 3 → IsRefusal left left' taken taken') → (status ≡ 4 → ⊥)
      → (status ≡ 0) ⊎ (status ≡ 7) ⊎ (status ≡ 5) ⊎ (status ≡ 6)
  runs other few spells (inl zero) refused read = inl zero
  runs other few spells (inr (inl three)) refused read = let r = refused three in absurd (spelled_whole bytes left' r.fault other few spells (rw (← told) r.cause))
  runs other few spells (inr (inr (inl four))) refused read = absurd (read four)
  runs other few spells (inr (inr (inr (inl five)))) refused read = inr (inr (inl five))
  runs other few spells (inr (inr (inr (inr (inl six))))) refused read = inr (inr (inr six))
  runs other few spells (inr (inr (inr (inr (inr seven))))) refused read = inr (inl seven)

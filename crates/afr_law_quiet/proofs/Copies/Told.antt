-- What a line tells that was told no fault: what its brick's tables and locks give.
use Rattle.std.proofs.Common.{◌≡◌, ℕ, Bool, true, false, refl, sym, ◌∙◌, ap, subst, List, Option, None, Some, true≢false}
use Rattle.std.specs.Prelude.{drop, is_some, suc, take}
use Rattle.afr_base.specs.declared.ids.ActorId.{ActorId}
use Rattle.afr_base.specs.declared.ids.BrickId.{BrickId}
use Rattle.afr_lines.specs.declared.fault.Fault.{Fault}
use Rattle.afr_lines.specs.declared.fault.Fault.TheVariants.{Fail, Lost}
use Rattle.afr_lines.specs.Told.{told_by}
use Rattle.afr_lines.specs.declared.answer.Answer.TheVariants as answer
use Rattle.afr_lines.specs.declared.answer.Told.{Told}
use Rattle.afr_lines.specs.declared.answer.Told.TheVariants.{Granted, Held, Seen, Done, Given, NoObject}
use Rattle.afr_lines.specs.declared.line.Line.{Line}
use Rattle.afr_lines.specs.declared.line.Line.TheVariants.{Ask}
use Rattle.afr_lines.specs.declared.request.Request.{Request}
use Rattle.afr_lines.specs.declared.request.Request.TheVariants.{Lock, Unlock, Look, ReadBytes, ReadAttrs, Pre, Mend, Settle}
use Rattle.afr_lines.specs.declared.request.Request.TheVariants as request
use Rattle.afr_object.specs.Repairs.{repaired}
use Rattle.afr_object.specs.Tables.{copy_at, view_of}
use Rattle.afr_object.specs.Object.{Object}
use Rattle.afr_plan.specs.declared.plan.Plan.{Plan}
use Rattle.afr_model.specs.Honest.{IsHonest, RequestOutcome, over_session, is_live, fault_in, requests_to, tells, copy_answer, lock_answer, in_the_way}
use Rattle.afr_model.specs.Showing.{is_fault}
use Rattle.afr_model.specs.Sums.{has_object}
use Rattle.afr_model.specs.Tables.{holds}

module _ (p : Plan) (older : List Line) (b : ℕ) where
  -- what a request of a heal is told
  abbrev pub Hears : Request → Told → Type 0
  Hears (Lock domain area) Granted = Unit {0}
  Hears (Lock domain area) (Held owner) = Unit {0}
  Hears (Unlock domain area) Done = Unit {0}
  Hears (Look g) (Seen view) = (o : Object) × (copy_at g (holds p older b) ≡ Some o) × (view ≡ view_of o)
  Hears (Look g) NoObject = has_object p older g b ≡ false
  Hears (ReadBytes g at len) Given = Unit {0}
  Hears (ReadBytes g at len) NoObject = Unit {0}
  Hears (ReadAttrs g) Given = Unit {0}
  Hears (ReadAttrs g) NoObject = Unit {0}
  Hears (request.List g) Given = Unit {0}
  Hears (request.List g) NoObject = Unit {0}
  Hears (Pre g kind) Done = Unit {0}
  Hears (Pre g kind) NoObject = has_object p older g b ≡ false
  Hears (Mend repair) Done = Unit {0}
  Hears (Mend repair) NoObject = has_object p older (repaired repair) b ≡ false
  Hears (Settle g kind less) Done = has_object p older g b ≡ true
  Hears (Settle g kind less) NoObject = has_object p older g b ≡ false
  Hears (request.ReadName g name) told = Unit {0}
  Hears (request.ReadAttr g key) told = Unit {0}
  Hears (request.Apply q) told = Unit {0}
  Hears (request.Post q g kind missed) told = Unit {0}
  Hears request.Index told = Unit {0}
  Hears asked told = ⊥

  answered : (a : ActorId) (asked : Request) → Hears asked (tells a asked b (holds p older b) older)
  answered a (Lock domain area) = go (in_the_way a (Lock domain area) b older)
    where
      go : (way : Option ActorId) → Hears (Lock domain area) (told_by (lock_answer way))
      go None = tt
      go (Some owner) = tt
  answered a (Unlock domain area) = tt
  answered a (Look g) = go (copy_at g (holds p older b)) refl
    where
      go : (o : Option Object) → copy_at g (holds p older b) ≡ o → Hears (Look g) (told_by (copy_answer (λ o. answer.Seen (view_of o)) o))
      go None e = ap (λ (o : Option Object). is_some o) e
      go (Some o) e = (o, e, refl)
  answered a (ReadBytes g at len) = go (copy_at g (holds p older b))
    where
      go : (o : Option Object) → Hears (ReadBytes g at len) (told_by (copy_answer (λ o. answer.Bytes (take len (drop at o.content))) o))
      go None = tt
      go (Some o) = tt
  answered a (ReadAttrs g) = go (copy_at g (holds p older b))
    where
      go : (o : Option Object) → Hears (ReadAttrs g) (told_by (copy_answer (λ o. answer.Attrs o.attrs) o))
      go None = tt
      go (Some o) = tt
  answered a (request.List g) = go (copy_at g (holds p older b))
    where
      go : (o : Option Object) → Hears (request.List g) (told_by (copy_answer (λ o. answer.Names o.names) o))
      go None = tt
      go (Some o) = tt
  answered a (Pre g kind) = go (copy_at g (holds p older b)) refl
    where
      go : (o : Option Object) → copy_at g (holds p older b) ≡ o → Hears (Pre g kind) (told_by (copy_answer (λ o. answer.Done) o))
      go None e = ap (λ (o : Option Object). is_some o) e
      go (Some o) e = tt
  answered a (Mend repair) = go (copy_at (repaired repair) (holds p older b)) refl
    where
      go : (o : Option Object) → copy_at (repaired repair) (holds p older b) ≡ o → Hears (Mend repair) (told_by (copy_answer (λ o. answer.Done) o))
      go None e = ap (λ (o : Option Object). is_some o) e
      go (Some o) e = tt
  answered a (Settle g kind less) = go (copy_at g (holds p older b)) refl
    where
      go : (o : Option Object) → copy_at g (holds p older b) ≡ o → Hears (Settle g kind less) (told_by (copy_answer (λ o. answer.Done) o))
      go None e = ap (λ (o : Option Object). is_some o) e
      go (Some o) e = ap (λ (o : Option Object). is_some o) e
  answered a (request.ReadName g name) = tt
  answered a (request.ReadAttr g key) = tt
  answered a (request.Apply q) = tt
  answered a (request.Post q g kind missed) = tt
  answered a request.Index = tt

-- without a fault the line tells just that
told_fine : (told said : Told) (took live : Bool) (fault : Option Fault) → Path RequestOutcome (record { told = told; took = took }) (over_session live fault said) → is_fault told ≡ false → (told ≡ said) × (took ≡ true)
told_fine told said took false fault h fine = absurd (true≢false (sym (ap (λ (o : RequestOutcome). is_fault o.told) h) ∙ fine))
told_fine told said took true (Some Fail) h fine = absurd (true≢false (sym (ap (λ (o : RequestOutcome). is_fault o.told) h) ∙ fine))
told_fine told said took true (Some Lost) h fine = absurd (true≢false (sym (ap (λ (o : RequestOutcome). is_fault o.told) h) ∙ fine))
told_fine told said took true None h fine = (ap (λ (o : RequestOutcome). o.told) h, ap (λ (o : RequestOutcome). o.took) h)

pub hears : (p : Plan) (a : ActorId) (b : BrickId) (asked : Request) (told : Told) (took : Bool) (older : List Line) → IsHonest p (Ask a b asked told took) older → is_fault told ≡ false → Hears p older b.0 asked told × (took ≡ true)
hears p a b asked told took older h fine = (
    let w = told_fine told (tells a asked b.0 (holds p older b.0) older) took (is_live p a b.0 (Ask a b asked told took) older) (fault_in p.faults b.0 (suc (requests_to b.0 older))) h fine in
    (subst (λ d. Hears p older b.0 asked d) (sym w.0) (answered p older b.0 a asked), w.1)
    )

-- What a request was given is what the log has for it.
use Rattle.std.proofs.Common.{◌≡◌, Bool, true, false, List, Option, None, Some, refl, sym, ap, subst}
use Rattle.afr_base.specs.declared.ids.ActorId.{ActorId}
use Rattle.afr_base.specs.declared.ids.BrickId.{BrickId}
use Rattle.afr_lines.specs.declared.fault.Fault.{Fault}
use Rattle.afr_lines.specs.declared.fault.Fault.TheVariants.{Fail, Lost}
use Rattle.afr_lines.specs.Log.{change_at}
use Rattle.afr_lines.specs.Told.{told_by}
use Rattle.afr_lines.specs.declared.answer.Answer.TheVariants as answer_of
use Rattle.afr_lines.specs.declared.answer.Told.{Told}
use Rattle.afr_lines.specs.declared.answer.Told.TheVariants as as_told
use Rattle.afr_lines.specs.declared.line.Line.{Line}
use Rattle.afr_lines.specs.declared.line.Line.TheVariants.{Ask}
use Rattle.afr_lines.specs.declared.request.Request.{Request}
use Rattle.afr_lines.specs.declared.request.Request.TheVariants as request
use Rattle.afr_model.specs.Honest.{IsHonest, RequestOutcome, answer_by, copy_answer, copy_for, in_the_way, lock_answer, over_session}
use Rattle.afr_model.specs.Tables.{holds}
use Rattle.afr_object.specs.Repairs.{repaired}
use Rattle.afr_object.specs.Tables.{copy_at, view_of}
use Rattle.afr_object.specs.Object.{Object}
use Rattle.afr_plan.specs.declared.plan.Plan.{Plan}
use Rattle.afr_server.specs.declared.server.Served.{Served}
use Rattle.afr_servers.specs.Needs.{IsReadOfTables}

-- ---- requests that read nothing are never told that something was given
not_given : (live : Bool) (fault : Option Fault) (said : Told) (took : Bool) → (said ≡ as_told.Given → ⊥) → (record { told = as_told.Given; took = took }) ≡ over_session live fault said → ⊥
not_given false fault said took other e = absurd (cc (ap (λ (o : RequestOutcome). o.told) e))
not_given true (Some Fail) said took other e = absurd (cc (ap (λ (o : RequestOutcome). o.told) e))
not_given true (Some Lost) said took other e = absurd (cc (ap (λ (o : RequestOutcome). o.told) e))
not_given true None said took other e = other (sym (ap (λ (o : RequestOutcome). o.told) e))

lock_other : (way : Option ActorId) → told_by (lock_answer way) ≡ as_told.Given → ⊥
lock_other None e = absurd (cc e)
lock_other (Some owner) e = absurd (cc e)

look_other : (copy : Option Object) → told_by (copy_answer (λ o. answer_of.Seen (view_of o)) copy) ≡ as_told.Given → ⊥
look_other None e = absurd (cc e)
look_other (Some o) e = absurd (cc e)

done_other : (copy : Option Object) → told_by (copy_answer (λ o. answer_of.Done) copy) ≡ as_told.Given → ⊥
done_other None e = absurd (cc e)
done_other (Some o) e = absurd (cc e)

-- what is given is what the brick's tables show
pub given_is : (p : Plan) (a : ActorId) (b : BrickId) (asked : Request) (given : Served) (log : List Line) → IsHonest p (Ask a b asked (told_by given.answer) given.took) log → IsReadOfTables p log b asked given
    → told_by given.answer ≡ as_told.Given → given.answer ≡ answer_by None asked (holds p log b.0) log
given_is p a b (request.ReadBytes g at len) given log honest k e = k refl e
given_is p a b (request.ReadName g name) given log honest k e = k refl e
given_is p a b (request.List g) given log honest k e = k refl e
given_is p a b (request.ReadAttr g key) given log honest k e = k refl e
given_is p a b (request.ReadAttrs g) given log honest k e = k refl e
given_is p a b request.Index given log honest k e = k refl e
given_is p a b (request.Lock domain area) given log honest k e =
    absurd (not_given _ _ _ given.took (lock_other (in_the_way a (request.Lock domain area) b.0 log)) (subst (λ (told : Told). IsHonest p (Ask a b (request.Lock domain area) told given.took) log) e honest))
given_is p a b (request.Unlock domain area) given log honest k e =
    absurd (not_given _ _ as_told.Done given.took (λ same. absurd (cc same)) (subst (λ (told : Told). IsHonest p (Ask a b (request.Unlock domain area) told given.took) log) e honest))
given_is p a b (request.Look g) given log honest k e =
    absurd (not_given _ _ _ given.took (look_other (copy_at g (holds p log b.0))) (subst (λ (told : Told). IsHonest p (Ask a b (request.Look g) told given.took) log) e honest))
given_is p a b (request.Pre g kind) given log honest k e =
    absurd (not_given _ _ _ given.took (done_other (copy_at g (holds p log b.0))) (subst (λ (told : Told). IsHonest p (Ask a b (request.Pre g kind) told given.took) log) e honest))
given_is p a b (request.Apply attempt) given log honest k e =
    absurd (not_given _ _ _ given.took (done_other (copy_for (change_at attempt log) (holds p log b.0))) (subst (λ (told : Told). IsHonest p (Ask a b (request.Apply attempt) told given.took) log) e honest))
given_is p a b (request.Post attempt g kind missed) given log honest k e =
    absurd (not_given _ _ _ given.took (done_other (copy_at g (holds p log b.0))) (subst (λ (told : Told). IsHonest p (Ask a b (request.Post attempt g kind missed) told given.took) log) e honest))
given_is p a b (request.Mend repair) given log honest k e =
    absurd (not_given _ _ _ given.took (done_other (copy_at (repaired repair) (holds p log b.0))) (subst (λ (told : Told). IsHonest p (Ask a b (request.Mend repair) told given.took) log) e honest))
given_is p a b (request.Settle g kind less) given log honest k e =
    absurd (not_given _ _ _ given.took (done_other (copy_at g (holds p log b.0))) (subst (λ (told : Told). IsHonest p (Ask a b (request.Settle g kind less) told given.took) log) e honest))

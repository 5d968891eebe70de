-- What a call may answer where the brick has the object.
use Rattle.std.proofs.Common.{◌≡◌, ◌≢◌, ◌↔◌, Option, Some, None, Result, Ok, Err, refl}
use Rattle.std.specs.Prelude.{OnErr}
use Rattle.std.specs.Result.{IsErrAnd}
use Rattle.afr_brick.specs.declared.refused.Refused.{Refused}
use Rattle.afr_brick.specs.declared.refused.Refused.TheVariants.{NoObject, NoMemory}

-- A call that answers something else agrees that the object is there.
pub found : {A X : Type 0} (r : Result A Refused) (o : Option X) (x : X) → o ≡ Some x → r ≢ Err NoObject → (r ≡ Err NoObject) ↔ (o ≡ None)
found r o x e n = (λ h. absurd (n h), λ h. absurd (cc))

-- Want of memory is something else.
pub no_memory : {A : Type 0} (r : Result A Refused) → IsErrAnd r (λ e. e ≡ NoMemory) → r ≢ Err NoObject
no_memory (Ok x) h = absurd h
no_memory (Err e) h = λ k. absurd (cc)

-- What isn't absent is there.
pub present : {X : Type 0} (o : Option X) → (o ≡ None → ⊥) → (x : X) × (o ≡ Some x)
present None n = absurd (n refl)
present (Some x) n = (x, refl)

-- What holds whatever a call answers holds where it is refused.
pub on_err : {A E : Type 0} {P : Type 0} (r : Result A E) → P → OnErr r P
on_err (Ok x) h = tt
on_err (Err e) h = h

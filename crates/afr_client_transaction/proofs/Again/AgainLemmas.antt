-- The first lock of a second transaction clears all that the first has left.
use Rattle.std.proofs.Common.{◌≡◌, ℕ, ◌||◌, Bool, true, false, List, [], ◌∷◌, refl, sym, ◌∙◌, ap, subst, None}
use Rattle.afr_base.specs.Bricks.{member, is_nothing}
use Rattle.afr_base.specs.declared.ids.Shape.{Shape}
use Rattle.afr_lines.specs.declared.lock.Domain.TheVariants.{Work}
use Rattle.afr_lines.specs.declared.answer.Told.{Told}
use Rattle.afr_lines.specs.declared.answer.Told.TheVariants as as_told
use Rattle.afr_lines.specs.declared.request.Area.{Area}
use Rattle.afr_lines.specs.declared.request.Request.TheVariants as request
use Rattle.afr_model_moves.specs.Rules.{busy, is_area}
use Rattle.afr_model_moves.specs.Sets.{any}
use Rattle.afr_discipline.specs.Notes.{noted_ask}
use Rattle.afr_discipline.specs.Stands.{no_lines, seen_as}
use Rattle.afr_discipline.specs.declared.register.Register.{Register}
use Rattle.afr_client_transaction.proofs.Parts.{any_nothing}
use Rattle.afr_client_transaction.proofs.Requests.{after_outside, locked_w, noted_is}
use Rattle.afr_client_transaction.specs.Progress.{is_over}
use Rattle.afr_client_transaction.specs.declared.stage.Stage.{Stage}
use Rattle.afr_client_transaction.specs.declared.stage.Stage.TheVariants.{Closing}
use Rattle.afr_client_transaction.specs.Again.Again.{AgainSame, EndsPlain, IsRested, PlainFirst, but_for_transaction, opened}

pub plain_first : PlainFirst
plain_first shape = record { none = record { only = refl; outside = refl }; free = record { only = refl; outside = refl } }

-- a register that holds no lock isn't at work
pub unbusy : (n : ℕ) (r : Register) → r.held ≡ [] → r.second_held ≡ [] → busy n (seen_as r).law ≡ false
unbusy n r e f =
    ap (λ (s : List ℕ). any n (member s) || any n (member r.second_held)) e
    ∙ ap (λ (s : List ℕ). any n (member []) || any n (member s)) f
    ∙ rw (any_nothing n) refl

-- what the first lock leaves has no trace of what was before it
cleared : (q : Register) (s t : Bool) (area : Area) (b : ℕ) (told : Told) → locked_w false s (but_for_transaction q) area b told ≡ locked_w false t (opened q.shape) area b told
cleared q s t area b as_told.Granted = refl
cleared q s t area b as_told.NotConnected = refl
cleared q s t area b told = refl

-- by whether the actor is at work
by_work : (r : Register) (w : Bool) (area : Area) (b : ℕ) (told : Told) → busy r.shape.n (seen_as r).law ≡ w → after_outside r b (request.Lock Work area) told ≡ locked_w w (is_area r.area area) r area b told
by_work r w area b told e = subst (λ (x : Bool). after_outside r b (request.Lock Work area) told ≡ locked_w x (is_area r.area area) r area b told) e refl

pub again_same : AgainSame
again_same r at b area told plain rest =
    noted_is r at b (request.Lock Work area) told rest.outside
    ∙ by_work r false area b told (unbusy r.shape.n r rest.held rest.second_held)
    ∙ ap (λ (x : Register). locked_w false (is_area r.area area) x area b told) plain.only
    ∙ cleared r (is_area r.area area) (is_area None area) area b told
    ∙ sym (by_work (opened r.shape) false area b told (unbusy r.shape.n (opened r.shape) refl refl))
    ∙ sym (noted_is (opened r.shape) at b (request.Lock Work area) told refl)

-- a transaction that is over holds no lock
pub rests : EndsPlain
rests m s over = go m.stage over
  where
    nothing : (s : List ℕ) → is_nothing s ≡ true → s ≡ []
    nothing [] e = refl
    nothing (x ∷ xs) e = absurd (cc e)

    go : (stage : Stage) → is_over stage m ≡ true → IsRested m.register
    go Closing e = record { held = nothing m.register.held e; second_held = s.base.none_second; outside = s.base.outside }
    go stage e = absurd (cc e)

-- a new register is cleared to the same
cleared_new : (q : Shape) (s t : Bool) (area : Area) (b : ℕ) (told : Told) → locked_w false s (opened q) area b told ≡ locked_w false t (no_lines q) area b told
cleared_new q s t area b as_told.Granted = refl
cleared_new q s t area b as_told.NotConnected = refl
cleared_new q s t area b told = refl

pub new_same : (shape : Shape) (at b : ℕ) (area : Area) (told : Told) → noted_ask (opened shape) at b (request.Lock Work area) told ≡ noted_ask (no_lines shape) at b (request.Lock Work area) told
new_same shape at b area told =
    noted_is (opened shape) at b (request.Lock Work area) told refl
    ∙ by_work (opened shape) false area b told (unbusy shape.n (opened shape) refl refl)
    ∙ cleared_new shape (is_area None area) (is_area None area) area b told
    ∙ sym (by_work (no_lines shape) false area b told (unbusy shape.n (no_lines shape) refl refl))
    ∙ sym (noted_is (no_lines shape) at b (request.Lock Work area) told refl)

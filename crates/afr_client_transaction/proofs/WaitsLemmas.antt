-- An actor that waits for another is told the same again: its transaction stays as it is.
use Rattle.std.proofs.Common.{◌≡◌, ℕ, ◌||◌, Bool, true, false, refl, sym, ap, ap₂, subst, ◌∙◌, if◌then◌else◌}
use Rattle.afr_base.specs.Bricks.{is_nothing, lowest}
use Rattle.afr_base.specs.declared.ids.ActorId.{ActorId}
use Rattle.afr_base.specs.declared.ids.BrickId.{BrickId}
use Rattle.afr_base.specs.declared.ids.Kind.{Kind}
use Rattle.afr_base.specs.declared.ids.Shape.{Shape}
use Rattle.afr_lines.specs.Areas.{area_for}
use Rattle.afr_lines.specs.declared.answer.Told.{Told}
use Rattle.afr_lines.specs.declared.answer.Told.TheVariants as as_told
use Rattle.afr_lines.specs.declared.line.Next.TheVariants as next
use Rattle.afr_lines.specs.declared.lock.Domain.TheVariants.{Work}
use Rattle.afr_lines.specs.declared.request.Area.{Area}
use Rattle.afr_lines.specs.declared.request.Request.{Request}
use Rattle.afr_lines.specs.declared.request.Request.TheVariants as request
use Rattle.afr_model_moves.specs.Keeps.{keeps_in}
use Rattle.afr_model_moves.specs.Note.{is_held, stops_at}
use Rattle.afr_model_moves.specs.Register as exact
use Rattle.afr_model_moves.specs.Register.{Exact, same_step}
use Rattle.afr_model_moves.specs.Rules.{is_area}
use Rattle.afr_discipline.specs.Notes.{is_working, joined, noted_ask, stopped}
use Rattle.afr_discipline.specs.Stands.{seen_as, step_of}
use Rattle.afr_discipline.specs.declared.register.Register.{Register}
use Rattle.afr_discipline.specs.declared.register.Step.TheVariants as step
use Rattle.afr_client_transaction.specs.Made.{Waits, meets_another}
use Rattle.afr_client_transaction.specs.Progress.{TransactionProgress, after, answered, answered_by, asked_by, left, next_at, on_stage, request_at}
use Rattle.afr_client_transaction.specs.Sound.{Ready, Sound}
use Rattle.afr_client_transaction.specs.declared.stage.LocksAndLooks.{LocksAndLooks}
use Rattle.afr_client_transaction.specs.declared.stage.Stage.{Stage}
use Rattle.afr_client_transaction.specs.declared.stage.Stage.TheVariants.{Locking}
use Rattle.afr_client_transaction.proofs.Heard.{heard_outside, request_is}
use Rattle.afr_client_transaction.proofs.Parts.{any_nothing}
use Rattle.afr_client_transaction.proofs.Requests.{locked_w, named_w, noted_is}

or_again : (a b : Bool) → ((a || b) || b) ≡ (a || b)
or_again true b = refl
or_again false true = refl
or_again false false = refl

-- whether a step ends a heal doesn't read whether one was ended
stops_same : (n : ℕ) (keeps : ℕ → Kind → Bool) (r : Exact) (broken : Bool) (s : exact.Step) → stops_at n keeps (record r { broken = broken }) s ≡ stops_at n keeps r s
stops_same n keeps r broken exact.HealLocks = refl
stops_same n keeps r broken exact.WorkLocks = refl
stops_same n keeps r broken exact.Looks = refl
stops_same n keeps r broken s = refl

-- an answer that another actor holds the area, whoever it is
abbrev held : Told
held = as_told.Held (record { 0 = 0 })

module _ (area : Area) where
  -- what it leaves of a register: where no lock is held, and where one is, by whether there was a line before
  abbrev anew_met : Register → Register
  anew_met r = locked_w false false r area 0 held

  abbrev stayed_by : Bool → Register → Register
  stayed_by u r = record r { step = if u then step.Open else r.step }

  abbrev busy_met : Bool → Bool → Register → Register
  busy_met u s r = stopped (joined (stayed_by u r) (named_w true s r area))

  abbrev met : Register → Register
  met r = locked_w (is_working r) (is_area r.area area) r area 0 held

  module _ (r : Register) where
    abbrev untouched : Bool
    untouched = same_step (step_of r.step) exact.Untouched

    abbrev before : Bool → Bool → Register
    before u s = joined (stayed_by u r) (named_w true s r area)

    abbrev ends : Bool → Bool → Bool
    ends u s = stops_at r.shape.n (keeps_in r.shape) (seen_as (before u s)) (step_of (before u s).step)

    twice : (u s : Bool) → busy_met false s (busy_met u s r) ≡ busy_met u s r
    twice u true =
        ap (λ (v : Bool). record (busy_met u true r) { broken = v })
        (ap (λ (a : Bool). (r.broken || ends u true) || a) (stops_same r.shape.n (keeps_in r.shape) (seen_as (before u true)) (r.broken || ends u true) (step_of (before u true).step)) ∙ or_again r.broken (ends u true))
    twice u false =
        ap (λ (v : Bool). record (busy_met u false r) { broken = v })
        (ap (λ (a : Bool). (r.broken || ends u false) || a) (stops_same r.shape.n (keeps_in r.shape) (seen_as (before u false)) (r.broken || ends u false) (step_of (before u false).step)) ∙ or_again r.broken (ends u false))

    anew_twice : anew_met (anew_met r) ≡ anew_met r
    anew_twice = ap (λ (v : Bool). record (anew_met r) { broken = v }) (or_again r.broken false)

    nobody : is_working (anew_met r) ≡ false
    nobody = ap₂ (λ (a b : Bool). a || b) (any_nothing r.shape.n) (any_nothing r.shape.n)

    open_now : (u : Bool) → untouched ≡ u → (s : Bool) → same_step (step_of (busy_met u s r).step) exact.Untouched ≡ false
    open_now true e s = refl
    open_now false e s = e

    busy_again : (u s : Bool) → untouched ≡ u → is_working r ≡ true → is_area r.area area ≡ s → met (met r) ≡ met r
    busy_again u s eu ew es =
        let is : met r ≡ busy_met u s r = ap₂ (λ (w t : Bool). locked_w w t r area 0 held) ew es ∙ ap (λ (v : Bool). busy_met v s r) eu in
        let x : Register = busy_met u s r in
        ap met is
        ∙ ap₂ (λ (w t : Bool). locked_w w t x area 0 held) (same_work u s ∙ ew) (same_area u s ∙ es)
        ∙ ap (λ (v : Bool). busy_met v s x) (open_now u eu s)
        ∙ twice u s
        ∙ sym is
      where
        same_work : (u s : Bool) → is_working (busy_met u s r) ≡ is_working r
        same_work u s = refl

        same_area : (u s : Bool) → is_area (busy_met u s r).area area ≡ is_area r.area area
        same_area u s = refl

    anew_again : is_working r ≡ false → met (met r) ≡ met r
    anew_again ew =
        let is : met r ≡ anew_met r = ap (λ (w : Bool). locked_w w (is_area r.area area) r area 0 held) ew in
        ap met is ∙ ap (λ (w : Bool). locked_w w (is_area (anew_met r).area area) (anew_met r) area 0 held) nobody ∙ anew_twice ∙ sym is

    met_again : met (met r) ≡ met r
    met_again = go (is_working r) refl
      where
        go : (w : Bool) → is_working r ≡ w → met (met r) ≡ met r
        go true e = busy_again untouched (is_area r.area area) refl e refl
        go false e = anew_again e

held_again : (area : Area) (r : Register) (at b : ℕ) (o : ActorId) → r.inside ≡ false → (x : Register) → x ≡ noted_ask r at b (request.Lock Work area) (as_told.Held o) → x.inside ≡ false
    → (c t : ℕ) (owner : ActorId) → noted_ask x t c (request.Lock Work area) (as_told.Held owner) ≡ x
held_again area r at b o out x ex outside c t owner =
    let is : x ≡ met area r = ex ∙ noted_is r at b (request.Lock Work area) (as_told.Held o) out in
    noted_is x t c (request.Lock Work area) (as_told.Held owner) outside ∙ ap (met area) is ∙ met_again area r ∙ sym is

-- ---- what a transaction keeps of it
-- one that waits stays as it is
pub stays_waiting : (waits : Bool) (m : TransactionProgress) → Waits waits m → waits ≡ true → Sound m → (told : Told) → is_held told ≡ true → (at : ℕ) → m ≡ answered m.stage told at m
stays_waiting false m w off s told h at = absurd (cc off)
stays_waiting true m w on s (as_told.Held o) h at = sym (subst (λ (stage : Stage). answered stage (as_told.Held o) at m ≡ m) (sym w.0) waiting)
  where
    ready : is_nothing (left Locking m) ≡ false
    ready = subst (λ (stage : Stage). Ready stage m) w.0 s.ready

    same : answered_by Locking (lowest (left Locking m)) (as_told.Held o) at m ≡ m
    same = ap (λ (r : Register). record { change = m.change; register = r; stage = m.stage; asked = m.asked }) (w.1 (lowest (left Locking m)) at o)

    waiting : answered Locking (as_told.Held o) at m ≡ m
    waiting = ap (λ (x : TransactionProgress). on_stage (after Locking x) x) same ∙ rw ready (ap (λ (stage : Stage). on_stage stage m) (sym w.0))
stays_waiting true m w on s told h at = absurd (cc h)

-- and one that has met another waits
pub has_met : (m : TransactionProgress) (at : ℕ) (b : BrickId) (q : Request) → next_at m.stage at m ≡ next.Ask b q → Sound m → (told : Told) (x : Register) (stage : Stage) (s : LocksAndLooks)
    → x ≡ noted_ask m.register at b.0 q told → x.shape ≡ m.register.shape → s ≡ asked_by m.stage b.0 told m.asked → stage ≡ after m.stage (record { change = m.change; register = x; stage = m.stage; asked = s })
    → Waits (meets_another m.stage told) (record { change = m.change; register = x; stage = stage; asked = s })
has_met m at b q e sound told x stage s ex shape es est = go m.stage refl told refl
  where
    y : TransactionProgress
    y = record { change = m.change; register = x; stage = stage; asked = s }

    go : (now : Stage) → m.stage ≡ now → (t : Told) → told ≡ t → Waits (meets_another now t) (record { change = m.change; register = x; stage = stage; asked = s })
    go Locking is (as_told.Held o) t = (on, held_again (area_for m.change) m.register at b.0 o sound.base.outside x lock (heard_outside m at b q e sound told x ex))
      where
        ready : is_nothing (left Locking m) ≡ false
        ready = subst (λ (stage : Stage). Ready stage m) is sound.ready

        lock : x ≡ noted_ask m.register at b.0 (request.Lock Work (area_for m.change)) (as_told.Held o)
        lock =
            ex ∙ ap (λ (z : Request). noted_ask m.register at b.0 z told) (request_is m at b q e sound ∙ ap (λ (now : Stage). request_at now m) is)
            ∙ ap (λ (z : Told). noted_ask m.register at b.0 (request.Lock Work (area_for m.change)) z) t

        asked : s ≡ m.asked
        asked = es ∙ ap₂ (λ (now : Stage) (z : Told). asked_by now b.0 z m.asked) is t

        on : stage ≡ Locking
        on =
            est ∙ ap (λ (now : Stage). after now (record { change = m.change; register = x; stage = m.stage; asked = s })) is
            ∙ ap₂ (λ (shape : Shape) (asked : LocksAndLooks). after Locking (record { change = m.change; register = record x { shape = shape }; stage = m.stage; asked = asked })) shape asked ∙ rw ready refl
    go Locking is other t = tt
    go now is other t = tt

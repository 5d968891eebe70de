-- The first lock of another transaction is allowed, and the transaction is sound after it.
use Rattle.std.proofs.Common.{◌≡◌, ℕ, ◌<◌, ◌||◌, ◌&&◌, not, Bool, true, false, [], refl, ◌∙◌, ap, if◌then◌else◌, inr}
use Rattle.std.proofs.lemmas.Bool.{or_right}
use Rattle.afr_base.specs.Bricks.{below, lowest}
use Rattle.afr_base.specs.SetLemmas.{lowest_left, within_below}
use Rattle.afr_object.specs.declared.change.Change.{Change}
use Rattle.afr_lines.specs.Areas.{area_for}
use Rattle.afr_lines.specs.declared.answer.Told.{Told}
use Rattle.afr_model_moves.specs.Rules.{busy}
use Rattle.afr_discipline.specs.Stands.{seen_as}
use Rattle.afr_discipline.specs.Tests.{last_posted, one_of}
use Rattle.afr_discipline.specs.declared.register.Register.{Register}
use Rattle.afr_client_transaction.specs.Laws.{AcknowledgedExactly, StaysSound}
use Rattle.afr_client_transaction.specs.Progress.{TransactionProgress, after, asked_by, left, on_stage, starting}
use Rattle.afr_client_transaction.specs.Sound.{Sound}
use Rattle.afr_client_transaction.specs.declared.stage.Stage.TheVariants.{Locking}
use Rattle.afr_client_transaction.proofs.Kept.{sound_first}
use Rattle.afr_client_transaction.proofs.Parts.{lt_test, pair}
use Rattle.afr_client_transaction.specs.Again.Again.{AgainAllowed, AgainNew, AgainSound, EndsPlain, opened}
use Rattle.afr_client_transaction.proofs.Again.AgainLemmas.{again_same, new_same, rests, unbusy}

-- somebody is there to ask
first_below : (m : TransactionProgress) (change : Change) → Sound (starting change (opened m.register.shape)) → lowest (left Locking (starting change m.register)) < m.register.shape.n
first_below m change s = within_below m.register.shape.n _ (lowest_left (below m.register.shape.n) [] s.ready).1

by_busy : (w x y : Bool) → w ≡ false → y ≡ true → (if w then x else y) ≡ true
by_busy true x y e f = absurd (cc e)
by_busy false x y e f = f

pub again_allowed : EndsPlain → AcknowledgedExactly → AgainAllowed
again_allowed ends acknowledged m change at s some over said suits =
    let rest = ends m s over in
    let first = sound_first (opened m.register.shape) change (inr refl) s.base.few some suits in
    pair _ _ (lt_test _ _ (first_below m change first))
    (pair _ _ suits.valid
    (by_busy (busy m.register.shape.n (seen_as m.register).law) (not m.register.unlocked && one_of (seen_as m.register).law (area_for change)) (last_posted m.register.shape.n (seen_as m.register).law)
    (unbusy m.register.shape.n m.register rest.held rest.second_held) (or_right _ _ ((acknowledged m s).1 said))))

-- the transaction by its register after the lock
abbrev locking : Change → Told → ℕ → Register → TransactionProgress
locking change told b x = record { change = change; register = x; stage = Locking; asked = asked_by Locking b told (record { lock_asked = []; locked_on = []; looked_at = [] }) }

abbrev heard : Change → Told → ℕ → Register → TransactionProgress
heard change told b x = on_stage (after Locking (locking change told b x)) (locking change told b x)

pub again_sound : EndsPlain → StaysSound → AgainSound
again_sound ends stays m change told at s plain some over suits =
    let rest = ends m s over in
    let first = sound_first (opened m.register.shape) change (inr refl) s.base.few some suits in
    let b = lowest (left Locking (starting change m.register)) in
    let same = again_same m.register at b (area_for change) told plain rest in
    record {
      sound = stays (starting change (opened m.register.shape)) first refl told at;
      register = same;
      alike = ap (heard change told b) same;
    }

pub again_new : AgainNew
again_new m change told at s plain over =
    let rest = rests m s over in
    let b = lowest (left Locking (starting change m.register)) in
    ap (heard change told b) (again_same m.register at b (area_for change) told plain rest ∙ new_same m.register.shape at b (area_for change) told)

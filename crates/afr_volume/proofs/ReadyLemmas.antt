-- An actor that is made ready for its turn.
use Rattle.std.proofs.Common.{◌≡◌, ◌∙◌, ℕ, zero, suc, ◌∷◌, ◌-◌, ◌<◌, true, false, List, [], sym, ap, refl, subst, length, Some, slice_get, set, get_or, inl, inr}
use Rattle.std.proofs.lemmas.Option.{slice_get-get_or, get_or_from_slice_get}
use Rattle.afr_plan.specs.declared.command.Command.{Command}
use Rattle.afr_plan.specs.declared.command.Command.TheVariants as command
use Rattle.afr_plan.specs.declared.plan.Plan.{Plan}
use Rattle.afr_model.specs.Actors.{script_of}
use Rattle.afr_client.specs.Begin.{has_machine, work_from}
use Rattle.afr_client.specs.Work.{IsBusy, IsWork, is_idle}
use Rattle.afr_client.specs.declared.work.WorkMachine.{WorkMachine}
use Rattle.afr_client.specs.declared.work.WorkMachine.TheVariants.{Entry, Idle, Lookup, Rename, Write}
use Rattle.afr_volume.specs.Turning.{ReadiedAt}
use Rattle.afr_volume.specs.declared.actor.Actor.{Actor}

-- ---- works
busy_is : (w : WorkMachine) → is_idle w ≡ false → IsBusy w
busy_is Idle e = absurd (cc e)
busy_is (Lookup m) e = tt
busy_is (Write m) e = tt
busy_is (Entry m) e = tt
busy_is (Rename m) e = tt

idle_is : (w : WorkMachine) → is_idle w ≡ true → w ≡ Idle
idle_is Idle e = refl
idle_is (Lookup m) e = absurd (cc e)
idle_is (Write m) e = absurd (cc e)
idle_is (Entry m) e = absurd (cc e)
idle_is (Rename m) e = absurd (cc e)

busy_from : (p : Plan) (c : Command) → has_machine c ≡ true → IsBusy (work_from p.shape c)
busy_from p (command.Write path at bytes) e = tt
busy_from p (command.Cut path len) e = tt
busy_from p (command.Read path at len) e = tt
busy_from p (command.Create path) e = tt
busy_from p (command.Mkdir path) e = tt
busy_from p (command.Unlink path) e = tt
busy_from p (command.Rmdir path) e = tt
busy_from p (command.Ls path) e = tt
busy_from p (command.Stat path) e = tt
busy_from p (command.SetAttr path key value) e = tt
busy_from p (command.GetAttr path key) e = tt
busy_from p (command.Rename from to) e = tt

-- ---- actors
pub found_at : (l : List Actor) (i : ℕ) (x : Actor) → i < length l → x ≡ get_or l i x → slice_get l i ≡ Some x
found_at l i x small e = slice_get-get_or l i x small ∙ ap Some (sym e)

pub same_at : (l : List Actor) (i : ℕ) (x y : Actor) → i < length l → x ≡ get_or l i x → y ≡ get_or l i y → x ≡ y
same_at l i x y small e f = e ∙ get_or_from_slice_get l i y x (found_at l i y small f)

set_same : (l : List Actor) (i : ℕ) (x : Actor) → slice_get l i ≡ Some x → l ≡ set l i x
set_same [] i x e = absurd (cc e)
set_same (y ∷ l) zero x e = ap (λ (z : Actor). z ∷ l) (cc e)
set_same (y ∷ l) (suc i) x e = ap (λ (m : List Actor). y ∷ m) (set_same l i x e)

-- an actor that had its work is as it was
pub still_busy : (p : Plan) (a : ℕ) (l : List Actor) (seen x : Actor) → a - 1 < length l → seen ≡ get_or l (a - 1) seen → x ≡ get_or l (a - 1) x → is_idle seen.work ≡ false → IsWork x.work → ReadiedAt p a l l
still_busy p a l seen x small e f busy sound = record {
  before = x;
  after = x;
  was = found_at l (a - 1) x small f;
  readies = inl refl;
  busy = subst (λ (y : Actor). IsBusy y.work) (same_at l (a - 1) seen x small e f) (busy_is seen.work busy);
  sound = sound;
  set_is = set_same l (a - 1) x (found_at l (a - 1) x small f);
}

-- the script of a client
pub script_is : (p : Plan) (a : ℕ) (script : List Command) → slice_get p.clients (a - 1) ≡ Some script → script_of p a ≡ script
script_is p a script h = get_or_from_slice_get p.clients (a - 1) script [] h

-- an idle actor has the work of its next command
pub begins_next : (p : Plan) (a : ℕ) (l : List Actor) (seen counted x : Actor) (script : List Command) (c : Command) (w : WorkMachine) → a - 1 < length l → seen ≡ get_or l (a - 1) seen → counted ≡ get_or l (a - 1) counted → x ≡ get_or l (a - 1) x → is_idle seen.work ≡ true
    → slice_get p.clients (a - 1) ≡ Some script → slice_get script counted.ended ≡ Some c → has_machine c ≡ true → w ≡ work_from p.shape c → IsWork w
    → ReadiedAt p a l (set l (a - 1) (record { ended = x.ended; killed = x.killed; visit = x.visit; picked = x.picked; work = w }))
begins_next p a l seen counted x script c w small e g f idle own present has is sound = record {
  before = x;
  after = record { ended = x.ended; killed = x.killed; visit = x.visit; picked = x.picked; work = w };
  was = found_at l (a - 1) x small f;
  readies = inr (
    subst (λ (y : Actor). y.work ≡ Idle) (same_at l (a - 1) seen x small e f) (idle_is seen.work idle),
    c,
    subst (λ (commands : List Command). slice_get commands x.ended ≡ Some c) (sym (script_is p a script own)) (subst (λ (y : Actor). slice_get script y.ended ≡ Some c) (same_at l (a - 1) counted x small g f) present),
    ap (λ (w : WorkMachine). record { ended = x.ended; killed = x.killed; visit = x.visit; picked = x.picked; work = w }) is,
  );
  busy = subst IsBusy (sym is) (busy_from p c has);
  sound = sound;
  set_is = refl;
}

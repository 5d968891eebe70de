-- What was picked for a client's reads, and the lines that it was picked by.
use Rattle.std.proofs.Common.{◌≡◌, ◌∙◌, ℕ, ◌<◌, Bool, true, false, List, [], ◌∷◌, Option, None, Some, refl, sym, ap, arith, subst, length, slice_get, if◌then◌else◌}
use Rattle.afr_base.specs.declared.ids.BrickId.{BrickId}
use Rattle.afr_law_client.specs.Read.Lines.{is_look}
use Rattle.afr_lines.specs.Work.{Work as Lines, ended, is_of, work}
use Rattle.afr_lines.specs.declared.line.Line.{Line}
use Rattle.afr_lines.specs.declared.request.Request.{Request}
use Rattle.afr_model.specs.Actors.{script_of}
use Rattle.afr_plan.specs.declared.command.Command.{Command}
use Rattle.afr_plan.specs.declared.command.Command.TheVariants as command
use Rattle.afr_plan.specs.declared.plan.Plan.{Plan}
use Rattle.afr_law_picks.specs.Laws.{KeepsPicked, number_in, picked_then}
use Rattle.afr_law_picks.specs.Readings.{asked_for_command, asked_in, asked_of, command_by, latest}
use Rattle.afr_client.specs.declared.work.WorkMachine.{WorkMachine}
use Rattle.afr_volume.specs.Acting.{picked_after, still_picked}
use Rattle.afr_volume.specs.Keeping.{IsReading}

-- ---- what is picked after a request
pub picked_same : (met : Bool) (request : Request) (now kept : Option BrickId) → (is_look request ≡ false → now ≡ None) → picked_then request now (number_in (still_picked met kept)) ≡ number_in (picked_after met request now kept)
picked_same true request now kept none = by (is_look request)
  where
    by : (look : Bool) → (if look then number_in now else number_in kept) ≡ number_in (if look then now else kept)
    by true = refl
    by false = refl
picked_same false request now kept none = by (is_look request) none
  where
    by : (look : Bool) → (look ≡ false → now ≡ None) → (if look then number_in now else None) ≡ number_in now
    by true none = refl
    by false none = sym (ap number_in (none refl))

-- ---- what was asked for, after a line
-- a line of another leaves it
other_latest : (c : ℕ) (line : Line) (log : List Line) → is_of c line ≡ false → latest c (line ∷ log) ≡ latest c log
other_latest c line log other = rw other refl

pub other_asked : (p : Plan) (c : ℕ) (line : Line) (log : List Line) → is_of c line ≡ false → asked_of p c (line ∷ log) ≡ asked_of p c log
other_asked p c line log other = ap (λ (lines : Lines). asked_in p (command_by p c lines) lines) (other_latest c line log other)

-- one of its own adds itself to its work
own_latest : (a : ℕ) (line : Line) (log : List Line) → is_of a line ≡ true → latest a (line ∷ log) ≡ (line, log) ∷ work a log
own_latest a line log own = rw own refl

pub own_asked : (p : Plan) (a : ℕ) (line : Line) (log : List Line) → is_of a line ≡ true → asked_of p a (line ∷ log) ≡ asked_in p (slice_get (script_of p a) (ended a log)) ((line, log) ∷ work a log)
own_asked p a line log own = ap (λ (lines : Lines). asked_in p (command_by p a lines) lines) (own_latest a line log own)

pub asked_is : (p : Plan) (a : ℕ) (line : Line) (log : List Line) (command : Command) → is_of a line ≡ true → slice_get (script_of p a) (ended a log) ≡ Some command → asked_of p a (line ∷ log) ≡ asked_for_command p command ((line, log) ∷ work a log)
asked_is p a line log command own present = own_asked p a line log own ∙ ap (λ (c : Option Command). asked_in p c ((line, log) ∷ work a log)) present

-- ---- a client whose line it isn't reads as it did
pub reading_stays : (p : Plan) (c : ℕ) (line : Line) (log : List Line) (met : Bool) (picked : Option BrickId) (w : WorkMachine) → is_of c line ≡ false → work c (line ∷ log) ≡ work c log → ended c (line ∷ log) ≡ ended c log
    → IsReading p c log met picked w → IsReading p c (line ∷ log) met picked w
reading_stays p c line log met picked w other same_work same_ended k = record {
  keeps = λ command is. subst (λ (lines : Lines). KeepsPicked p command w lines (number_in (still_picked met picked))) (sym same_work) (k.keeps command (ap (slice_get (script_of p c)) (sym same_ended) ∙ is));
  fresh = λ e. same_work ∙ k.fresh e;
  within = λ e. other_asked p c line log other ∙ k.within e ∙ ap (λ (n : ℕ). asked_in p (slice_get (script_of p c) n) (work c log)) (sym same_ended) ∙ ap (asked_in p (slice_get (script_of p c) (ended c (line ∷ log)))) (sym same_work);
}

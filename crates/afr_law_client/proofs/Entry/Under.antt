-- The transaction that locks a name: what its lines tell, and what each is about.
use Rattle.std.proofs.Common.{◌≡◌, Bool, true, false, List, ◌∷◌, Option, Some, None, length, refl, sym, ap, ◌∙◌, subst, if◌then◌else◌}
use Rattle.afr_base.specs.declared.ids.ActorId.{ActorId}
use Rattle.afr_base.specs.declared.ids.BrickId.{BrickId}
use Rattle.afr_base.specs.declared.ids.NameId.{NameId}
use Rattle.afr_discipline.specs.Tests.{fits_view}
use Rattle.afr_lines.specs.Areas.{area_for, kind_for}
use Rattle.afr_lines.specs.Work.{Work}
use Rattle.afr_lines.specs.declared.answer.Told.{Told}
use Rattle.afr_lines.specs.declared.answer.Told.TheVariants as as_told
use Rattle.afr_lines.specs.declared.line.Line.{Line}
use Rattle.afr_lines.specs.declared.line.Line.TheVariants.{Ask, Begin}
use Rattle.afr_lines.specs.declared.line.Next.{Next}
use Rattle.afr_lines.specs.declared.line.Next.TheVariants as next
use Rattle.afr_lines.specs.declared.reply.Reply.{Reply}
use Rattle.afr_lines.specs.declared.request.Request.{Request}
use Rattle.afr_object.specs.Tables.{is_dir}
use Rattle.afr_object.specs.declared.change.Change.{Change}
use Rattle.afr_object.specs.declared.entry.Entry.{Entry}
use Rattle.afr_object.specs.declared.entry.View.{View}
use Rattle.afr_plan.specs.declared.command.Command.{Command}
use Rattle.afr_plan.specs.declared.plan.Plan.{Plan}
use Rattle.afr_model.specs.Commands.{steps_of}
use Rattle.afr_model.specs.Refusals.{by_locks, by_name, or_else, read_refused, refusal}
use Rattle.afr_model.specs.Showing.{Path, At, begins_attempt, has, path_by, refuses_read}
use Rattle.afr_model.specs.Standing.{area_here, place_by}
use Rattle.afr_client_transaction.specs.Progress.{TransactionProgress, begun, fed, is_beginning, next_at as next_change}
use Rattle.afr_client_transaction.specs.Sound.{Sound}
use Rattle.afr_client_transaction.proofs.NoteLemmas.{fed_change}
use Rattle.afr_client_entry.specs.Job.{change_of}
use Rattle.afr_client_entry.specs.declared.job.EntryJob.{EntryJob}
use Rattle.afr_client_entry.specs.declared.stage.Found.{Found}
use Rattle.afr_client_entry.specs.declared.stage.Found.TheVariants.{Unread, Fits, Refused}
use Rattle.afr_law_client.specs.Read.ChangeLaws.{is_of_change}
use Rattle.afr_law_client.specs.Read.Lines.{is_look}
use Rattle.afr_law_client.specs.Fits.{LineFits, LineFitsPhase}
use Rattle.afr_law_client.specs.Laws.{IsNextLine}
use Rattle.afr_law_client.proofs.About.{excused_kept}
use Rattle.afr_law_client.proofs.Calm.{calm_kept}
use Rattle.afr_law_client.proofs.Kept.{tells_kept}
use Rattle.afr_law_client.proofs.Small.{self}
use Rattle.afr_law_client.specs.Write.WriteTelling.{AreFitting, CanTell}
use Rattle.afr_law_client.proofs.Write.Goes.{asked_stage, begun_fed, begun_stage, fitting_more, of_stage}
use Rattle.afr_law_client.specs.Entry.EntryTelling.{TransactionGoes, NameTells, ByFault, ByName, WasGiven, command_of}
use Rattle.afr_law_client.proofs.Entry.Names.{Quiet, upto_stays}
use Rattle.afr_law_client.proofs.Entry.Words.{area_is, place_upto, refused_there}

-- ---- what a line of the transaction leaves of the path
pub given_more : (p : Plan) (c : Command) (dir : Entry) (entry : Option Entry) (line : Line) (log : List Line) (w : Work) → Quiet p line log w → WasGiven p c dir entry w → WasGiven p c dir entry ((line, log) ∷ w)
given_more p c dir entry line log w q k = record { path = q.path ∙ k.path; unrefused = q.refused ∙ k.unrefused }

pub name_more : (found : Found) (p : Plan) (c : Command) (job : EntryJob) (dir : Entry) (line : Line) (log : List Line) (w : Work) → Quiet p line log w → ((copy : BrickId) → found ≡ Unread copy → begins_attempt line ≡ false) → NameTells found p c job dir w → NameTells found p c job dir ((line, log) ∷ w)
name_more (Unread copy) p c job dir line log w q quiet_line k = record { path = q.path ∙ k.path; unrefused = q.refused ∙ k.unrefused; unbegun = rw (quiet_line copy refl, k.unbegun) refl }
name_more Fits p c job dir line log w q quiet_line k = record { entry = k.entry; rule = k.rule; given = given_more p c dir k.entry line log w q k.given }
name_more (Refused why) p c job dir line log w q quiet_line (ByFault e f lost) = ByFault e (q.refused ∙ f) (q.path ∙ lost)
name_more (Refused why) p c job dir line log w q quiet_line (ByName entry e k) = ByName entry e (given_more p c dir entry line log w q k)

pub place_more : (p : Plan) (job : EntryJob) (path : List NameId) (dir : Entry) (line : Line) (log : List Line) (w : Work) → place_by p (command_of job path) w ≡ At (steps_of (command_of job path)) dir
    → place_by p (command_of job path) ((line, log) ∷ w) ≡ At (steps_of (command_of job path)) dir
place_more p job path dir line log w e =
    place_upto p job path ((line, log) ∷ w) ∙ upto_stays (steps_of (command_of job path)) p w line log dir (sym (place_upto p job path w) ∙ e)

-- ---- a line of the transaction
module _ (p : Plan) (lines : Work) (a : ActorId) (log : List Line) (t : TransactionProgress) (sound : Sound t) (k : TransactionGoes p t lines) where
  -- after a line that is told
  after_line : (told : Told) (line : Line) → IsNextLine a (next_change t.stage (length log) t) told line → LineFits line → LineFitsPhase line → AreFitting p.shape.n t.change ((line, log) ∷ lines)
      → TransactionGoes p (fed t.stage told (length log) t) ((line, log) ∷ lines)
  after_line told line is fits phase fitting = record {
    tells = tells_kept p lines t a told line log sound k.tells is;
    excused = excused_kept p lines t a told line log sound k.tells is fits phase k.excused;
    calm = calm_kept p lines t a told line log sound k.tells is phase k.calm;
    fitting = subst (λ (x : Change). AreFitting p.shape.n x ((line, log) ∷ lines)) (sym (fed_change t.stage told (length log) t)) fitting;
  }

  -- after a request, which is one of a change
  pub asked_more : (dir : Entry) (b : BrickId) (request : Request) (told : Told) (took : Bool) → ((view : View) → view.what ≡ dir.what → fits_view (Some view) t.change ≡ true) → next_change t.stage (length log) t ≡ next.Ask b request → CanTell dir request told
      → TransactionGoes p (fed t.stage told (length log) t) ((Ask a b request told took, log) ∷ lines) × (is_of_change (Ask a b request told took) ≡ true) × (is_beginning t.stage ≡ false)
  asked_more dir b request told took suits e can =
      let at_stage = asked_stage t.stage (length log) t b request e in (
        after_line told (Ask a b request told took) (subst (λ (n : Next). IsNextLine a n told (Ask a b request told took)) (sym e) (took, refl)) can.fits can.phase
            (subst (λ (r : Request). AreFitting p.shape.n t.change ((Ask a b r told took, log) ∷ lines)) at_stage.1
            (fitting_more p.shape.n t.stage t a b told took log lines (λ view seen look. suits view (can.shows view seen (subst (λ (r : Request). is_look r ≡ true) at_stage.1 look))) k.fitting)),
        subst (λ (r : Request). is_of_change (Ask a b r told took) ≡ true) at_stage.1 (of_stage t.stage t a b told took),
        at_stage.0,
      )

  pub begun_more : (change : Change) → next_change t.stage (length log) t ≡ next.Begin change → TransactionGoes p (if is_beginning t.stage then begun (length log) t else t) ((Begin a change, log) ∷ lines)
  begun_more change e =
      subst (λ (x : TransactionProgress). TransactionGoes p x ((Begin a change, log) ∷ lines)) (sym (begun_fed t.stage (length log) t (begun_stage t.stage (length log) t change e)))
      (after_line as_told.Done (Begin a change) (subst (λ (n : Next). IsNextLine a n as_told.Done (Begin a change)) (sym e) refl) tt tt k.fitting)

-- ---- where its command has led it
module _ (p : Plan) (job : EntryJob) (path : List NameId) (dir : Entry) (lines : Work) (place : place_by p (command_of job path) lines ≡ At (steps_of (command_of job path)) dir) (directory : is_dir dir.what ≡ true) where
  abbrev c : Command
  c = command_of job path

  abbrev change : Change
  change = change_of dir.gfid job

  at_steps : area_here c (At (steps_of c) dir) ≡ Some (area_for change)
  at_steps = rw (self (steps_of c)) (area_is job path dir.gfid)

  pub area_there : area_here c (place_by p c lines) ≡ Some (area_for change)
  area_there = subst (λ (x : Path). area_here c x ≡ Some (area_for change)) (sym place) at_steps

  -- what its name doesn't refuse, only its locks do
  refused_as : (said : Option Reply) → has refuses_read lines ≡ false → by_name p c dir (path_by p lines) lines ≡ said → refusal p c lines ≡ or_else (by_locks p.shape (kind_for change) (area_for change) lines) said
  refused_as said unrefused e =
      refused_there p job path dir lines place directory
      ∙ unread_none
      ∙ ap (λ (x : Option Reply). or_else (by_locks p.shape (kind_for change) (area_for change) lines) x) e
    where
      unread_none : or_else (read_refused lines) (or_else (by_locks p.shape (kind_for change) (area_for change) lines) (by_name p c dir (path_by p lines) lines)) ≡ or_else (by_locks p.shape (kind_for change) (area_for change) lines) (by_name p c dir (path_by p lines) lines)
      unread_none = rw unrefused refl

  or_none : (x : Option Reply) → or_else x None ≡ x
  or_none None = refl
  or_none (Some y) = refl

  pub refused_by_locks : has refuses_read lines ≡ false → by_name p c dir (path_by p lines) lines ≡ None → refusal p c lines ≡ by_locks p.shape (kind_for change) (area_for change) lines
  refused_by_locks unrefused e = refused_as None unrefused e ∙ or_none (by_locks p.shape (kind_for change) (area_for change) lines)

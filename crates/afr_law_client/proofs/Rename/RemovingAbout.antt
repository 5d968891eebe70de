-- While the old name is locked, read and removed: each line is about it.
use Rattle.std.proofs.Common.{◌≡◌, ℕ, suc, ◌+◌, ◌-◌, ◌<◌, Bool, true, false, List, [], ◌∷◌, ◌++◌, Some, length, slice_get, refl, sym, ap, ◌∙◌, subst, arith, if◌then◌else◌}
use Rattle.afr_base.specs.declared.ids.ActorId.{ActorId}
use Rattle.afr_base.specs.declared.ids.BrickId.{BrickId}
use Rattle.afr_base.specs.declared.ids.NameId.{NameId}
use Rattle.afr_base.specs.declared.ids.What.TheVariants.{File}
use Rattle.afr_lines.specs.Areas.{area_for}
use Rattle.afr_lines.specs.Work.{Work}
use Rattle.afr_lines.specs.declared.answer.Told.{Told}
use Rattle.afr_lines.specs.declared.line.Line.{Line}
use Rattle.afr_lines.specs.declared.line.Line.TheVariants.{Ask, Begin}
use Rattle.afr_lines.specs.declared.line.Next.TheVariants as next
use Rattle.afr_lines.specs.declared.request.Request.{Request}
use Rattle.afr_plan.specs.declared.command.Command.{Command}
use Rattle.afr_plan.specs.declared.command.Command.TheVariants as command
use Rattle.afr_plan.specs.declared.plan.Plan.{Plan}
use Rattle.afr_model.specs.Answered.{IsAbout}
use Rattle.afr_model.specs.Commands.{steps_of}
use Rattle.afr_model.specs.Keeping.{KeepsTo}
use Rattle.afr_model.specs.Parts.{Part, Removes as RemovesPart, is_again, part_at, the_removal}
use Rattle.afr_model.specs.Renamed.{HasFound, IsMade, IsOfPart, IsOfRename, KeepsToPart, KeepsToRename, StillLeads}
use Rattle.afr_model.specs.Showing.{At, begins_attempt, has, path_by}
use Rattle.afr_model.specs.Standing.{area_here, place_by}
use Rattle.afr_client_transaction.specs.Progress.{TransactionProgress, is_beginning, is_over, next_at as next_change, numbered, request_at}
use Rattle.afr_client_transaction.specs.declared.stage.Stage.TheVariants.{Beginning, Locking}
use Rattle.afr_law_client.specs.Laws.{IsNextLine}
use Rattle.afr_law_client.proofs.GivenUpLemmas.{given_up_about}
use Rattle.afr_law_client.proofs.Small.{self}
use Rattle.afr_client_walk.specs.declared.walk.Walk.{Walk}
use Rattle.afr_client_entry.specs.Job.{reply_to}
use Rattle.afr_client_entry.specs.declared.job.EntryJob.{EntryJob}
use Rattle.afr_client_entry.specs.declared.job.EntryJob.TheVariants.{Unlink}
use Rattle.afr_client_entry.specs.declared.stage.Found.{Found}
use Rattle.afr_client_entry.specs.declared.stage.Found.TheVariants.{Unread, Fits, Refused}
use Rattle.afr_law_client.specs.Entry.EntryTelling.{FitsName, IsUnread}
use Rattle.afr_law_client.proofs.Entry.Changing.{change_line, each_line, keeps_request, led_fits, led_unread, like_same, name_line}
use Rattle.afr_client_entry.specs.Renames.Paths.{IsPaths, front, reads_old, removal_of}
use Rattle.afr_client_entry.specs.Renames.Rename.{IsMaking, IsRemoving, is_done, turned}
use Rattle.afr_client_entry.specs.Renames.Under.{next_under}
use Rattle.afr_client_entry.specs.declared.renaming.paths.Paths.{Paths}
use Rattle.afr_law_client.specs.Rename.RenameTelling.{DropsOldName, LedToFile, MakesNewName, Removes, old_dir, to_of}
use Rattle.afr_law_client.proofs.Rename.RemovingBegins.{is_second, own, prefix, prefix_untouched}
use Rattle.afr_law_client.proofs.Rename.RemovingTurn.{made_done}

-- ---- the first path
-- it is the names before its last one, and that
ends_in : (path : List NameId) (name : NameId) → slice_get path (length path - 1) ≡ Some name → front path ++ name ∷ [] ≡ path
ends_in [] name e = absurd (cc e)
ends_in (x ∷ []) name e = let same : x ≡ name = cc e in ap (λ (y : NameId). y ∷ []) (sym same)
ends_in (x ∷ y ∷ ys) name e = let one : length (x ∷ y ∷ ys) - 1 ≡ suc (length (y ∷ ys) - 1) = omega arith in rw one (ap (λ (l : List NameId). x ∷ l) (ends_in (y ∷ ys) name (rw one at e)))

some_names : (path : List NameId) (name : NameId) → slice_get path (length path - 1) ≡ Some name → 0 < length path
some_names [] name e = absurd (cc e)
some_names (x ∷ xs) name e = omega arith

pub last_again : (n : ℕ) → 0 < n → n - 1 + 1 ≡ n
last_again n l = omega arith

-- ---- where a line belongs
removes_part : (from : List NameId) (line : Line) (lines : Work) → is_again line lines ≡ true → part_at from line lines ≡ RemovesPart
removes_part from line lines again = rw again refl

abbrev pub About : Plan → Paths → ℕ → Work → Line → Type 0
About p x at lines line = IsOfRename p x.first.path (to_of x) line lines × KeepsToRename p x.first.path (to_of x) line at lines

ask_about : (p : Plan) (x : Paths) (lines : Work) (at : ℕ) (a : ActorId) (b : BrickId) (request : Request) (told : Told) (took : Bool) → is_again (Ask a b request told took) lines ≡ true → IsMade p x.first.path lines
    → IsAbout p (command.Unlink x.first.path) (Ask a b request told took) (the_removal x.first.path lines) → KeepsTo p (command.Unlink x.first.path) (Ask a b request told took) at (the_removal x.first.path lines)
    → About p x at lines (Ask a b request told took)
ask_about p x lines at a b request told took again made about keeps =
    subst (λ (part : Part). IsOfPart part p x.first.path (to_of x) (Ask a b request told took) lines × KeepsToPart part p x.first.path (to_of x) (Ask a b request told took) at lines)
    (sym (removes_part x.first.path (Ask a b request told took) lines again)) ((made, tt, about), keeps)

module _ (p : Plan) (x : Paths) (paths : IsPaths x) (t : TransactionProgress) (lines : Work) (a : ActorId) (log : List Line) where
  abbrev from : List NameId
  from = x.first.path

  abbrev removal : Work
  removal = the_removal from lines

  abbrev job : EntryJob
  job = Unlink x.old_name

  -- the walk to the directory, as that of an unlink
  abbrev w : Walk
  w = record x.first { path = front x.first.path; object = old_dir x }

  abbrev c : Command
  c = command.Unlink (front from ++ x.old_name ∷ [])

  same : c ≡ command.Unlink from
  same = ap (λ (path : List NameId). command.Unlink path) (ends_in from x.old_name paths.old)

  place : (found : Found) → DropsOldName p x t found removal → place_by p c removal ≡ At (steps_of c) (old_dir x)
  place found k = subst (λ (q : Command). place_by p q removal ≡ At (steps_of q) (old_dir x)) (sym same) k.place

  not_read : IsUnread p (command.Unlink from) (old_dir x) removal → IsUnread p c (old_dir x) removal
  not_read k = subst (λ (q : Command). IsUnread p q (old_dir x) removal) (sym same) k

  fits : LedToFile p x removal → FitsName p c job (old_dir x) removal
  fits k = subst (λ (q : Command). FitsName p q job (old_dir x) removal) (sym same) (record { entry = Some (record { gfid = x.first.object.gfid; what = File }); rule = refl; given = k })

  -- a line is about the unlink
  abbrev Keeps : Line → Type 0
  Keeps line = IsAbout p (command.Unlink from) line removal × KeepsTo p (command.Unlink from) line (length log) removal

  keeps_so : (line : Line) → IsAbout p c line removal × KeepsTo p c line (length log) removal → Keeps line
  keeps_so line k = subst (λ (q : Command). IsAbout p q line removal × KeepsTo p q line (length log) removal) same k

  -- ---- what is shown of each line
  still_leads : LedToFile p x removal → HasFound p from x.first.object.gfid lines → StillLeads p from lines
  still_leads k found = record {
    file = x.first.object.gfid;
    found = found;
    still = k.path ∙ ap (λ (n : ℕ). At n (record { gfid = x.first.object.gfid; what = File })) (last_again (length from) (some_names from x.old_name paths.old));
  }

  module _ (found : Found) (k : Removes p x t found lines) (sound : IsRemoving x t found) where
    own_line : (told : Told) (line : Line) → (t.stage ≡ Beginning → StillLeads p from lines) → IsNextLine a (next_change t.stage (length log) t) told line → Keeps line → About p x (length log) lines line
    own_line told line still is keeps =
        each_line t a log (λ (y : Line). Keeps y → About p x (length log) lines y)
        (λ stage b told took now keeps. ask_about p x lines (length log) a b (request_at stage t) told took (k.again (Ask a b (request_at stage t) told took)) k.made keeps.0 keeps.1)
        (λ now keeps. subst (λ (part : Part). IsOfPart part p from (to_of x) (Begin a (numbered (length log) t.change)) lines × KeepsToPart part p from (to_of x) (Begin a (numbered (length log) t.change)) (length log) lines)
        (sym (removes_part from (Begin a (numbered (length log) t.change)) lines (k.again (Begin a (numbered (length log) t.change))))) ((k.made, still now, keeps.0), keeps.1))
        told line is keeps

-- ---- each line under the locks
pub removing_line : (p : Plan) (x : Paths) (paths : IsPaths x) (t : TransactionProgress) (found : Found) (lines : Work) (a : ActorId) (log : List Line) (told : Told) (line : Line) → Removes p x t found lines → IsRemoving x t found → IsNextLine a (next_under found (length log) (reads_old x) t) told line
    → About p x (length log) lines line
removing_line p x paths t (Unread copy) lines a log told line k sound is = go (is_beginning t.stage) refl is
  where
    read : (took : Bool) → is_beginning t.stage ≡ true → About p x (length log) lines (Ask a copy (reads_old x) told took)
    read took f =
        let l = keeps_so p x paths t lines a log (Ask a copy (reads_old x) told took)
        (name_line p (Unlink x.old_name) (w p x paths t lines a log) (the_removal x.first.path lines) t (place p x paths t lines a log (Unread copy) k.tells) refl k.tells.unread a log copy sound.under.sound (like_same t.change (removal_of x) sound.under.of) sound.under.reads k.tells.on.0
        (not_read p x paths t lines a log k.tells.name) f told took) in
        ask_about p x lines (length log) a copy (reads_old x) told took (k.again (Ask a copy (reads_old x) told took)) k.made l.0 l.1

    go : (y : Bool) → is_beginning t.stage ≡ y → IsNextLine a (if y then next.Ask copy (reads_old x) else next_change t.stage (length log) t) told line → About p x (length log) lines line
    go true f (took, e) = subst (λ (y : Line). About p x (length log) lines y) (sym e) (read took f)
    go false f is =
        own_line p x paths t lines a log (Unread copy) k sound told line (λ now. let g = ap is_beginning now in absurd (cc (f, g))) is
        (keeps_so p x paths t lines a log line
        (change_line p (Unlink x.old_name) (w p x paths t lines a log) (the_removal x.first.path lines) t (place p x paths t lines a log (Unread copy) k.tells) refl k.tells.unread a log sound.under.sound sound.under.of k.tells.on.0 told line
        (led_unread p (Unlink x.old_name) (w p x paths t lines a log) (the_removal x.first.path lines) t (place p x paths t lines a log (Unread copy) k.tells) refl k.tells.unread (not_read p x paths t lines a log k.tells.name) t.stage f) is))
removing_line p x paths t Fits lines a log told line k sound is =
    own_line p x paths t lines a log Fits k sound told line (λ now. still_leads p x paths t lines a log k.tells.name k.walked.found) is
    (keeps_so p x paths t lines a log line
    (change_line p (Unlink x.old_name) (w p x paths t lines a log) (the_removal x.first.path lines) t (place p x paths t lines a log Fits k.tells) refl k.tells.unread a log sound.under.sound sound.under.of k.tells.on told line
    (led_fits p (Unlink x.old_name) (w p x paths t lines a log) (the_removal x.first.path lines) t (place p x paths t lines a log Fits k.tells) refl k.tells.unread refl (fits p x paths t lines a log k.tells.name) t.stage sound.under.in_turn) is))
removing_line p x paths t (Refused why) lines a log told line k sound is = go (is_over t.stage t) is
  where
    go : (y : Bool) → IsNextLine a (if y then next.End (reply_to why) else next_change t.stage (length log) t) told line → About p x (length log) lines line
    go true is = absurd is
    go false is =
        own_line p x paths t lines a log (Refused why) k sound told line (λ now. let f = k.tells.on.closing in absurd (cc (now, f))) is (
          given_up_about p (command.Unlink x.first.path) (the_removal x.first.path lines) t a told line log k.tells.on is,
          each_line t a log (λ (y : Line). KeepsTo p (command.Unlink x.first.path) y (length log) (the_removal x.first.path lines))
              (λ stage b told took now. keeps_request p (command.Unlink x.first.path) (the_removal x.first.path lines) t a (length log) stage b told took)
              (λ now. let f = k.tells.on.closing in absurd (cc (now, f))) told line is,
        )

-- ---- the first lock
pub turn_line : (p : Plan) (x : Paths) (paths : IsPaths x) (t : TransactionProgress) (found : Found) (lines : Work) (a : ActorId) (log : List Line) (told : Told) (line : Line) → MakesNewName p x t found lines → IsMaking x t found → is_done t ≡ true
    → IsNextLine a (next_change Locking (length log) (turned x t)) told line → About p x (length log) lines line
turn_line p x paths t found lines a log told line k sound done (took, e) =
    subst (λ (y : Line). About p x (length log) lines y) (sym e)
    (ask_about p x lines (length log) a (own p x t found lines a log k sound done) (request_at Locking (turned x t)) told took (is_second p x t found lines a log k sound done told took) (made_done p x t found lines k sound done).0.made
    (subst (λ (v : Work). (has begins_attempt v ≡ false) × (area_here (command.Unlink x.first.path) (path_by p v) ≡ Some (area_for (removal_of x)))) (sym before) (unbegun, locks))
    tt)
  where
    before : the_removal x.first.path lines ≡ prefix p x lines k.on.walked
    before = ap (λ (v : Work). v ++ prefix p x lines k.on.walked) k.on.first

    unbegun : has begins_attempt (prefix p x lines k.on.walked) ≡ false
    unbegun = (prefix_untouched p x lines k.on.walked).unbegun

    locks : area_here (command.Unlink x.first.path) (path_by p (prefix p x lines k.on.walked)) ≡ Some (area_for (removal_of x))
    locks = let there = k.on.walked.in_dir in let named = paths.old in rw (there, self (length x.first.path - 1), named) refl

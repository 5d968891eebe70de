-- A whole log that every definition admits: a client lists the root, and nothing is left to do.
use Rattle.std.specs.Prelude.{◌≡◌, ℕ, ◌<◌, ◌≤◌, ◌==◌, Bool, true, false, List, [], ◌∷◌, Some, codes, length, slice_get, refl}
use Rattle.std.specs.Fmt.{digits}
use Rattle.std.proofs.Common.{ap, arith, subst, sym, ◌∙◌}
use Rattle.afr_base.specs.Bricks.{below}
use Rattle.afr_object.specs.Tables.{root}
use Rattle.afr_lines.specs.Work.{Work, ended, is_killed, work}
use Rattle.afr_lines.specs.declared.answer.Told.{Told}
use Rattle.afr_lines.specs.declared.answer.Told.TheVariants as told
use Rattle.afr_lines.specs.declared.line.Line.{Line}
use Rattle.afr_lines.specs.declared.reply.Good.TheVariants as good
use Rattle.afr_lines.specs.declared.reply.Reply.TheVariants as reply
use Rattle.afr_lines.specs.declared.request.Request.TheVariants as request
use Rattle.afr_plan.specs.declared.command.Command.{Command}
use Rattle.afr_plan.specs.declared.command.Command.TheVariants as command
use Rattle.afr_plan.specs.declared.plan.Plan.{Plan}
use Rattle.afr_model.specs.Actors.{IsActor, is_done, script_of}
use Rattle.afr_model.specs.Answered.{IsAbout, IsAnswered, IsCaused, LooksHere}
use Rattle.afr_model.specs.Blamed.{AreBlamed}
use Rattle.afr_model.specs.Chosen.{IsChosen}
use Rattle.afr_model.specs.Complete.{IsFinished}
use Rattle.afr_model.specs.Following.{Follows, IsTurnOf, KeepsToTask, NoneDue}
use Rattle.afr_model.specs.Keeping.{KeepsTo}
use Rattle.afr_model.specs.Honest.{Honest, RequestOutcome}
use Rattle.afr_model.specs.Replied.{IsOf, IsOfTask, Replied}
use Rattle.afr_model.specs.ReportHealers.{report_of}
use Rattle.afr_model.specs.Showing.{At, NotAsked, begins_attempt, has, path_by, reading_by, root_entry}
use Rattle.afr_model.specs.Standing.{area_here, looks_here}
use Rattle.afr_test_model.proofs.Answered.{is_ok}
use Rattle.afr_test_model.proofs.Blamed.{none_blamed}
use Rattle.afr_test_model.proofs.Chosen.{lowest}
use Rattle.afr_test_model.proofs.Means.{fails, from_none, from_some, three, told_apart, two}
use Rattle.afr_test_model.proofs.Skipping.{all_looked}
use Rattle.afr_test_model.proofs.Words.{ask, at_each, client, dir_view, ends, file_entry, file_name, look_root, plan_of, work_of}

-- the client lists the root
abbrev pub lists : Command
lists = command.Ls []

-- the plan of that command alone; there is no healer
abbrev pub listing : Plan
listing = record (plan_of lists) { healers = []; words = record { names = codes "f1" ∷ []; keys = []; values = [] } }

-- the root is listed on brick 0 after three looks
abbrev pub list_line : Line
list_line = ask 0 (request.List root) told.Given

-- it gave the file's name
abbrev pub end_line : Line
end_line = ends (reply.Ok (good.Names ((file_name, file_entry) ∷ [])))

-- the whole log
abbrev pub whole : List Line
whole = end_line ∷ list_line ∷ at_each look_root []

-- ---- the plan
-- a line of the client's only command
row : {line : Line} {older : List Line} → length older < 100 → is_killed 1 older ≡ false → slice_get (script_of listing 1) (ended 1 older) ≡ Some lists → KeepsTo listing lists line (length older) (work 1 older)
    → (length older < 100) × (IsTurnOf false listing 1 line older × NoneDue listing older)
row few alive first keeps = (few, (record { actor = IsActor.Client (omega arith) (omega arith); alive = alive; keeps = KeepsToTask.ToCommand lists first keeps }, λ planned same. from_none planned same))

-- each line is what the plan has for its moment
pub a_list_follows_its_plan : Follows false listing whole
a_list_follows_its_plan = two (row (omega arith) refl refl tt) (row (omega arith) refl refl tt) (three (row (omega arith) refl refl tt) (row (omega arith) refl refl tt) (row (omega arith) refl refl tt) tt)

-- each line was told what its brick then gave
pub a_list_is_honest : Honest listing whole
unfolding below
a_list_is_honest = (tt, (refl, (refl, (refl, (refl, tt)))))

-- a look that was told a longer view than the root's
abbrev pub long_look : Line
long_look = ask 0 (request.Look root) (told.Seen (record dir_view { len = 7 }))

-- an answer shows an empty object
abbrev pub is_empty_view : Told → Bool
is_empty_view (told.Seen view) = view.len == 0
is_empty_view said = false

-- isn't honest
pub a_wrong_view_is_not_honest : Honest listing (long_look ∷ []) → ⊥
unfolding below
a_wrong_view_is_not_honest honest = told_apart (λ (outcome : RequestOutcome). is_empty_view outcome.told) _ _ refl refl (sym honest.0)

-- ---- the command
-- a line of the client is of its only command
task : {line : Line} {older : List Line} → slice_get (script_of listing 1) (ended 1 older) ≡ Some lists → IsAbout listing lists line (work 1 older) → IsOfTask listing client line older
task {line = line} {older = older} first about = record { command = λ it same. from_some (λ c. IsOf listing c line (work 1 older)) lists it about (sym first ∙ same); round = λ healer. absurd (omega (arith, healer)) }

-- a look at the root, where nothing is locked
look : {b : ℕ} {w : Work} → has begins_attempt w ≡ false → reading_by listing w ≡ NotAsked → path_by listing w ≡ At 0 root_entry → LooksHere listing lists root b w
look {b = b} {w = w} unbegun unread led = record { unbegun = unbegun; unread = unread; object = ap (looks_here lists) led; locked = λ area locks. from_none area (sym (ap (area_here lists) led) ∙ locks) }

-- the list ends with what brick 0 showed
pub a_list_ends_with_what_was_shown : IsAnswered listing lists (work_of (list_line ∷ at_each look_root [])) (reply.Ok (good.Names ((file_name, file_entry) ∷ [])))
a_list_ends_with_what_was_shown = record {
  caused = IsCaused.Answers refl root_entry refl refl;
  asked = λ views. fails views;
  failed = λ same. absurd (told_apart is_ok _ _ refl refl same);
  undisturbed = λ begun calm. fails begun;
  whole = record { looked = all_looked 3 (work_of (list_line ∷ at_each look_root [])) refl; locked = λ area part locked. fails locked; child = λ rmdir. fails rmdir; carried = λ begun same. from_none begun same };
}

-- the root was looked at
every_look_is_of_the_list : Replied listing (at_each look_root [])
every_look_is_of_the_list = three (task refl (look refl refl refl)) (task refl (look refl refl refl)) (task refl (look refl refl refl)) tt

-- each line is of the command
pub every_line_is_of_the_list : Replied listing whole
every_line_is_of_the_list =
    two (task refl a_list_ends_with_what_was_shown) (task refl (record { unbegun = refl; goes_on = refl; answered = refl; good = refl }, record { object = root_entry; led = refl; named = refl })) every_look_is_of_the_list

-- ---- the rest
-- nobody is accused
pub a_list_accuses_nobody : AreBlamed listing whole
a_list_accuses_nobody = none_blamed listing whole refl

-- the lowest good copy was read
pub a_list_reads_the_lowest : IsChosen lowest lowest listing whole
a_list_reads_the_lowest = record { of_reads = (tt, ((λ outsider. refl), (tt, (tt, (tt, tt))))); of_heals = (tt, (tt, (tt, (tt, (tt, tt))))) }

-- nothing is left to do
pub nothing_is_left : IsFinished listing whole
nothing_is_left = record { events = λ planned same. from_none planned same; done = λ a actor. of (λ x. is_done listing x whole ≡ true) refl a actor; ended = λ a actor alive. of (λ x. work x whole ≡ []) refl a actor }
  where
    one : (a : ℕ) → 1 ≤ a → a ≤ 1 → 1 ≡ a
    one a least most = omega (arith, least, most)

    of : (P : ℕ → Type 0) → P 1 → (a : ℕ) → IsActor listing a → P a
    of P first a (IsActor.Client least most) = subst P (one a least most) first
    of P first a (IsActor.Healer least most) = absurd (omega (arith, least, most))

-- the client has a command left before its End
pub something_is_left : IsFinished listing (list_line ∷ at_each look_root []) → ⊥
something_is_left finished = fails (finished.done 1 (IsActor.Client (omega arith) (omega arith)))

-- its report
pub the_report_of_a_list : report_of listing whole ≡ codes "afr replica 3\nlines 5\nc1 1 of 1\n1 ls ok f1\nreach 0 1 2\nobjects 0\nsplit-brain 0\n"
unfolding below digits
the_report_of_a_list = refl

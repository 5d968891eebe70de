-- A rename of a file: each line is of it, it is kept, and its reply has its cause.
use Rattle.std.specs.Prelude.{◌≡◌, ℕ, true, false, List, [], ◌∷◌, Some, None, length, refl}
use Rattle.std.proofs.Common.{sym, ◌∙◌}
use Rattle.afr_base.specs.Bricks.{member}
use Rattle.afr_base.specs.Majority.{is_majority}
use Rattle.afr_base.specs.declared.ids.Kind.TheVariants.{Names}
use Rattle.afr_object.specs.Tables.{object_of, root}
use Rattle.afr_object.specs.declared.change.Change.{Change}
use Rattle.afr_choice.specs.Verdict.{good_copies}
use Rattle.afr_lines.specs.Areas.{kind_for}
use Rattle.afr_lines.specs.Work.{Work, work}
use Rattle.afr_lines.specs.declared.line.Line.{Line}
use Rattle.afr_lines.specs.declared.request.Area.{Area}
use Rattle.afr_plan.specs.declared.command.Command.{Command}
use Rattle.afr_model.specs.Answered.{Counts, LooksHere, MayRead}
use Rattle.afr_model.specs.Refusals.{refusal}
use Rattle.afr_model.specs.Showing.{NotAsked, among, begins_attempt, has, looked_by, path_by, reading_by, root_entry}
use Rattle.afr_model.specs.Standing.{area_here, change_by, getting, looks_here}
use Rattle.afr_test_model.proofs.Means.{from_none, from_some, three}
use Rattle.afr_model.specs.Renamed.{IsOfRename, KeepsToRename}
use Rattle.afr_test_model.proofs.Renamed.Lines.{file, file_entry, from, link, linked, new_area, old_area, plan, ready, ready_again, removal, renamed, to, walked}

-- a line of the rename
abbrev IsLine : Line → List Line → Type 0
IsLine line older = IsOfRename plan from to line (work 1 older) × KeepsToRename plan from to line (length older) (work 1 older)

-- each line of a work is
abbrev Each : Work → Type 0
Each [] = Unit {0}
Each (x ∷ w) = IsLine x.0 x.1 × Each w

-- a look where nothing is locked
looks : {c : Command} {b : ℕ} {w : Work} → has begins_attempt w ≡ false → reading_by plan w ≡ NotAsked → looks_here c (path_by plan w) ≡ Some root → area_here c (path_by plan w) ≡ None → LooksHere plan c root b w
looks unbegun unread object free = record { unbegun = unbegun; unread = unread; object = object; locked = λ area same. from_none area (sym free ∙ same) }

-- a look under a lock
looks_under : {c : Command} {b : ℕ} {w : Work} (area : Area) → has begins_attempt w ≡ false → reading_by plan w ≡ NotAsked → looks_here c (path_by plan w) ≡ Some root → area_here c (path_by plan w) ≡ Some area
    → member (among (getting area) w) b ≡ true → LooksHere plan c root b w
looks_under {b = b} {w = w} area unbegun unread object locks granted = record {
  unbegun = unbegun;
  unread = unread;
  object = object;
  locked = λ other same. from_some (λ (held : Area). member (among (getting held) w) b ≡ true) area other granted (sym locks ∙ same);
}

counts : {w : Work} (c : Change) → change_by w ≡ Some c → root ≡ object_of c → Names ≡ kind_for c → Counts root Names w
counts c begun object kind = record { change = c; begun = begun; object = object; counted = kind }

may_read : {c : Command} {w : Work} → has begins_attempt w ≡ false → refusal plan c w ≡ None → is_majority 3 (looked_by root w).reached ≡ true
    → member (good_copies plan.shape (looked_by root w) Names) 0 ≡ true → MayRead plan c root Names 0 w
may_read unbegun goes_on answered good = record { unbegun = unbegun; goes_on = goes_on; answered = answered; good = good }

walked_is : Each (work 1 walked)
walked_is = (
  (may_read refl refl refl refl, record { read = 0; object = root_entry; stands = refl; asked = refl; next = refl }),
  three (looks refl refl refl refl, tt) (looks refl refl refl refl, tt) (looks refl refl refl refl, tt) tt,
)

-- ---- the making
ready_is : Each (work 1 ready)
ready_is = (
  (((file, refl), may_read refl refl refl refl), record { read = 0; object = root_entry; stands = refl; asked = refl; next = refl }),
  three (((file, refl), looks_under new_area refl refl refl refl refl), tt) (((file, refl), looks_under new_area refl refl refl refl refl), tt) (((file, refl), looks_under new_area refl refl refl refl refl), tt)
      (three (((file, refl), (refl, refl)), tt) (((file, refl), (refl, refl)), tt) (((file, refl), (refl, refl)), tt) walked_is),
)

linked_is : Each (work 1 linked)
linked_is =
    three (((file, refl), tt), tt) (((file, refl), tt), tt) (((file, refl), tt), tt)
    (three (((file, refl), (refl, counts link refl refl refl)), tt) (((file, refl), (refl, counts link refl refl refl)), tt) (((file, refl), (refl, counts link refl refl refl)), tt)
    (three (((file, refl), refl), tt) (((file, refl), refl), tt) (((file, refl), refl), tt)
    (three (((file, refl), counts link refl refl refl), tt) (((file, refl), counts link refl refl refl), tt) (((file, refl), counts link refl refl refl), tt)
    ((((file, refl), (refl, refl)), (refl, record { file = file; found = refl; dir = root_entry; led = refl; named = refl })), ready_is))))

-- ---- the removal
ready_again_is : Each (work 1 ready_again)
ready_again_is = (
  ((refl, tt, may_read refl refl refl refl), record { read = 0; object = root_entry; stands = refl; asked = refl; next = refl }),
  three ((refl, tt, looks_under old_area refl refl refl refl refl), tt) ((refl, tt, looks_under old_area refl refl refl refl refl), tt) ((refl, tt, looks_under old_area refl refl refl refl refl), tt)
      (three ((refl, tt, (refl, refl)), tt) ((refl, tt, (refl, refl)), tt) ((refl, tt, (refl, refl)), tt) linked_is),
)

-- each line of a rename that is carried out is of it
pub a_rename_is_of_its_paths : Each (work 1 renamed)
a_rename_is_of_its_paths =
    three ((refl, tt, tt), tt) ((refl, tt, tt), tt) ((refl, tt, tt), tt)
    (three ((refl, tt, (refl, counts removal refl refl refl)), tt) ((refl, tt, (refl, counts removal refl refl refl)), tt) ((refl, tt, (refl, counts removal refl refl refl)), tt)
    (three ((refl, tt, refl), tt) ((refl, tt, refl), tt) ((refl, tt, refl), tt)
    (three ((refl, tt, counts removal refl refl refl), tt) ((refl, tt, counts removal refl refl refl), tt) ((refl, tt, counts removal refl refl refl), tt)
    (((refl, record { file = file; found = refl; still = refl }, (refl, (file_entry, refl))), (refl, record { object = root_entry; led = refl; named = refl })), ready_again_is))))

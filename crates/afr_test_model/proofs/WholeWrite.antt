-- A whole log that every definition admits: a client writes into a file, one brick misses it, and the others accuse it.
use Rattle.std.specs.Prelude.{◌≡◌, ℕ, ◌<◌, true, false, List, [], ◌∷◌, Some, codes, length, slice_get, refl}
use Rattle.std.specs.Fmt.{digits}
use Rattle.hex.specs.Hex.{encode_with}
use Rattle.uuid.specs.Text.{by_index}
use Rattle.std.proofs.Common.{ap, arith, sym, ◌∙◌}
use Rattle.afr_lines.specs.declared.answer.Told.TheVariants as told
use Rattle.afr_lines.specs.declared.request.Request.TheVariants as request
use Rattle.afr_base.specs.Bricks.{below, member}
use Rattle.afr_base.specs.Text.{gfid_spelling}
use Rattle.afr_base.specs.declared.ids.Kind.TheVariants.{Bytes}
use Rattle.afr_lines.specs.declared.fault.Fault.TheVariants.{Fail}
use Rattle.afr_object.specs.Tables.{root}
use Rattle.afr_lines.specs.Work.{Work, ended, is_killed, work}
use Rattle.afr_lines.specs.declared.line.Line.{Line}
use Rattle.afr_lines.specs.declared.reply.Good.TheVariants as good
use Rattle.afr_lines.specs.declared.reply.Reply.TheVariants as reply
use Rattle.afr_lines.specs.declared.request.Area.{Area}
use Rattle.afr_plan.specs.declared.plan.Plan.{Plan}
use Rattle.afr_model.specs.Actors.{IsActor, script_of}
use Rattle.afr_model.specs.Answered.{Counts, IsAbout, IsAnswered, IsCaused, LooksHere}
use Rattle.afr_model.specs.Blamed.{AreBlamed, IsBlaming}
use Rattle.afr_model.specs.Following.{Follows, IsTurnOf, KeepsToTask, NoneDue}
use Rattle.afr_model.specs.Keeping.{KeepsTo}
use Rattle.afr_model.specs.Honest.{Honest}
use Rattle.afr_model.specs.Replied.{IsOf, IsOfTask, Replied}
use Rattle.afr_model.specs.ReportHealers.{report_of}
use Rattle.afr_model.specs.Showing.{At, NotAsked, among, begins_attempt, has, path_by, reading_by, root_entry}
use Rattle.afr_model.specs.Skipped.{WentThroughPhases}
use Rattle.afr_model.specs.Standing.{area_here, change_by, getting, looks_here}
use Rattle.afr_test_model.proofs.Answered.{is_ok}
use Rattle.afr_test_model.proofs.Blamed.{none_blamed}
use Rattle.afr_test_model.proofs.Means.{fails, from_none, from_some, three, told_apart, two}
use Rattle.afr_test_model.proofs.Skipping.{all_locked, all_looked}
use Rattle.afr_test_model.proofs.Words.{ask, at_each, at_two, begin, brick, client, ends, file, file_entry, half_done, half_written, led_to_file, plan_of, post, pre, ready, unlock, work_of, write_area, write_change, writes}

-- brick 2 fails the fourth request to it, which is the pre-op
abbrev pub failing : Plan
failing = record (plan_of writes) { faults = record { brick = brick 2; at = 4; fault = Fail } ∷ []; words = record { names = codes "f1" ∷ []; keys = []; values = [] } }

-- brick 2 refused its pre-op
abbrev pub prepared : List Line
prepared = ask 2 (request.Pre file Bytes) told.Failed ∷ at_two (pre file Bytes) (begin write_change ∷ ready)

-- the locks are released after the post-ops
abbrev pub released : List Line
released = at_each (unlock write_area) half_written

-- the whole log
abbrev pub whole : List Line
whole = ends (reply.Ok good.Done) ∷ released

-- each line was told what its brick then gave
pub a_write_is_honest : Honest failing whole
unfolding below
a_write_is_honest = (tt, three refl refl refl (two refl refl (two refl refl (three refl refl refl (tt, three refl refl refl (three refl refl refl (refl, three refl refl refl tt)))))))

-- ---- the plan
-- a line of the client's only command
row : {line : Line} {older : List Line} → length older < 100 → is_killed 1 older ≡ false → slice_get (script_of failing 1) (ended 1 older) ≡ Some writes → KeepsTo failing writes line (length older) (work 1 older)
    → (length older < 100) × (IsTurnOf false failing 1 line older × NoneDue failing older)
row few alive first keeps = (few, (record { actor = IsActor.Client (omega arith) (omega arith); alive = alive; keeps = KeepsToTask.ToCommand writes first keeps }, λ planned same. from_none planned same))

-- the path was read as the plan has it
led_follows : Follows false failing led_to_file
led_follows = (
  row (omega arith) refl refl (record { read = 0; object = root_entry; stands = refl; asked = refl; next = refl }),
  three (row (omega arith) refl refl tt) (row (omega arith) refl refl tt) (row (omega arith) refl refl tt) tt,
)

-- so was the file locked and looked at
ready_follows : Follows false failing ready
ready_follows =
    three (row (omega arith) refl refl tt) (row (omega arith) refl refl tt) (row (omega arith) refl refl tt)
    (three (row (omega arith) refl refl tt) (row (omega arith) refl refl tt) (row (omega arith) refl refl tt) led_follows)

-- the change is the one that the words name
prepared_follows : Follows false failing prepared
prepared_follows =
    three (row (omega arith) refl refl tt) (row (omega arith) refl refl tt) (row (omega arith) refl refl tt) (row (omega arith) refl refl (refl, record { object = file_entry; led = refl; named = refl }), ready_follows)

-- each line is what the plan has for its moment
pub a_write_follows_its_plan : Follows false failing whole
a_write_follows_its_plan = (
  row (omega arith) refl refl tt,
  three (row (omega arith) refl refl tt) (row (omega arith) refl refl tt) (row (omega arith) refl refl tt)
      (two (row (omega arith) refl refl tt) (row (omega arith) refl refl tt)
      (two (row (omega arith) refl refl tt) (row (omega arith) refl refl tt) prepared_follows)),
)

-- ---- the command
-- a line of the client is of its only command
task : {line : Line} {older : List Line} → slice_get (script_of failing 1) (ended 1 older) ≡ Some writes → IsAbout failing writes line (work 1 older) → IsOfTask failing client line older
task {line = line} {older = older} first about = record { command = λ it same. from_some (λ c. IsOf failing c line (work 1 older)) writes it about (sym first ∙ same); round = λ healer. absurd (omega (arith, healer)) }

-- the attempt went through its phases where it could
carried : WentThroughPhases failing writes write_change (work_of released)
carried = record { prepared_all = λ b taker. taker; applied_all = λ enough b did. did; posted_all = λ enough done b did. did }

-- a write that two of three bricks did is acknowledged
pub a_write_that_two_did_is_acknowledged : IsAnswered failing writes (work_of released) (reply.Ok good.Done)
a_write_that_two_did_is_acknowledged = record {
  caused = IsCaused.Answers refl file_entry refl refl;
  asked = λ views. fails views;
  failed = λ same. absurd (told_apart is_ok _ _ refl refl same);
  undisturbed = λ begun calm. refl;
  whole = record {
    looked = all_looked 3 (work_of released) refl;
    locked = all_locked 3 (work_of released) refl;
    child = λ rmdir. fails rmdir;
    carried = λ begun same. from_some (λ it. WentThroughPhases failing writes it (work_of released)) write_change begun carried same;
  };
}

-- a pre-op, or what a post-op counts
counts : {w : Work} → change_by w ≡ Some write_change → Counts file Bytes w
counts begun = record { change = write_change; begun = begun; object = refl; counted = refl }

-- a look at the root on the way, where nothing is locked
on_way : {b : ℕ} {w : Work} → has begins_attempt w ≡ false → reading_by failing w ≡ NotAsked → path_by failing w ≡ At 0 root_entry → LooksHere failing writes root b w
on_way unbegun unread led = record { unbegun = unbegun; unread = unread; object = ap (looks_here writes) led; locked = λ area locks. from_none area (sym (ap (area_here writes) led) ∙ locks) }

-- a look at the file, on a brick that granted its lock
at_file : {b : ℕ} {w : Work} → has begins_attempt w ≡ false → reading_by failing w ≡ NotAsked → path_by failing w ≡ At 1 file_entry → member (among (getting write_area) w) b ≡ true → LooksHere failing writes file b w
at_file {b = b} {w = w} unbegun unread led granted = record {
  unbegun = unbegun;
  unread = unread;
  object = ap (looks_here writes) led;
  locked = λ area same. from_some (λ (held : Area). member (among (getting held) w) b ≡ true) write_area area granted (sym (ap (area_here writes) led) ∙ same);
}

-- the path was read as the command may
led_is_of_it : Replied failing led_to_file
led_is_of_it = (task refl (record { unbegun = refl; goes_on = refl; answered = refl; good = refl }), three (task refl (on_way refl refl refl)) (task refl (on_way refl refl refl)) (task refl (on_way refl refl refl)) tt)

-- the file was locked and looked at
ready_is_of_it : Replied failing ready
ready_is_of_it =
    three (task refl (at_file refl refl refl refl)) (task refl (at_file refl refl refl refl)) (task refl (at_file refl refl refl refl))
    (three (task refl (refl, refl)) (task refl (refl, refl)) (task refl (refl, refl)) led_is_of_it)

-- the attempt was prepared
prepared_is_of_it : Replied failing prepared
prepared_is_of_it = three (task refl (counts refl)) (task refl (counts refl)) (task refl (counts refl)) (task refl (refl, omega arith), ready_is_of_it)

-- it was carried out and closed on two bricks
closed_is_of_it : Replied failing half_written
closed_is_of_it = two (task refl (refl, counts refl)) (task refl (refl, counts refl)) (two (task refl refl) (task refl refl) prepared_is_of_it)

-- each line is of the command
pub every_line_is_of_the_write : Replied failing whole
every_line_is_of_the_write = (task refl a_write_that_two_did_is_acknowledged, three (task refl tt) (task refl tt) (task refl tt) closed_is_of_it)

-- ---- the rest
-- brick 2 is accused, and nobody else
pub a_write_accuses_the_one_that_missed_it : AreBlamed failing whole
unfolding below
a_write_accuses_the_one_that_missed_it = (tt, (tt, (tt, (tt, (blaming_1, (blaming_0, none_blamed failing half_done refl))))))
  where
    blaming_0 : IsBlaming failing 10 file Bytes (2 ∷ []) 0 (work_of half_done)
    blaming_0 = record { change = write_change; begun = refl; is_change = refl; object = refl; counted = refl; once = refl; did = refl; enough = refl; others = refl; why = λ c among. among }

    blaming_1 : IsBlaming failing 10 file Bytes (2 ∷ []) 1 (work_of (post 10 file Bytes (2 ∷ []) 0 ∷ half_done))
    blaming_1 = record { change = write_change; begun = refl; is_change = refl; object = refl; counted = refl; once = refl; did = refl; enough = refl; others = refl; why = λ c among. among }

-- its report: the file needs heal, and two bricks accuse the third
pub the_report_of_a_write :
    report_of failing whole
    ≡ codes "afr replica 3\nlines 22\nc1 1 of 1\n1 write ok\nh1 0 of 1 unfinished\nreach 0 1 2\nobjects 1\nobject 00000000-0000-0001-0000-000000000001\ndata good 0 1\nb0 trusted.afr.vol-client-2=0x000000010000000000000000\nb1 trusted.afr.vol-client-2=0x000000010000000000000000\nsplit-brain 0\n"
unfolding below digits encode_with gfid_spelling by_index
the_report_of_a_write = refl

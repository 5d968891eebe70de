-- A whole log that every definition admits: after a write that brick 2 missed, a round of brick 0 heals it.
use Rattle.std.specs.Prelude.{◌≡◌, ◌+◌, ◌<◌, false, List, ◌∷◌, Some, length, slice_get, refl}
use Rattle.std.proofs.Common.{arith}
use Rattle.afr_base.specs.Bricks.{below}
use Rattle.afr_base.specs.declared.ids.Kind.{Kind}
use Rattle.afr_base.specs.declared.ids.Kind.TheVariants.{Attrs, Bytes}
use Rattle.afr_object.specs.declared.change.Repair.TheVariants.{Copy}
use Rattle.afr_lines.specs.Work.{Work, ended, is_killed, work}
use Rattle.afr_lines.specs.declared.answer.Told.TheVariants as told
use Rattle.afr_lines.specs.declared.line.Line.{Line}
use Rattle.afr_lines.specs.declared.line.Line.TheVariants.{End}
use Rattle.afr_lines.specs.declared.reply.Good.TheVariants as good
use Rattle.afr_lines.specs.declared.reply.HealReply.TheVariants as healed
use Rattle.afr_lines.specs.declared.reply.Reply.TheVariants as reply
use Rattle.afr_lines.specs.declared.request.Request.{Request}
use Rattle.afr_lines.specs.declared.request.Request.TheVariants as request
use Rattle.afr_lines.specs.declared.lock.Domain.TheVariants as domain
use Rattle.afr_model.specs.Actors.{IsActor, rounds_of}
use Rattle.afr_model.specs.Following.{Follows, IsTurnOf, KeepsToTask, NoneDue}
use Rattle.afr_model.specs.Healing.{whole_of}
use Rattle.afr_model.specs.Honest.{Honest}
use Rattle.afr_model.specs.Rounds.{IsOfHeal, KeepsToRound, heal_due, listed_by, object_healed}
use Rattle.afr_test_model.proofs.HealWords.{heal_ends, index, less_0, less_1, less_2, opened, raise, settle}
use Rattle.afr_test_model.proofs.Means.{from_none, three, two}
use Rattle.afr_test_model.proofs.WholeWrite.{failing, a_write_follows_its_plan, a_write_is_honest}
use Rattle.afr_test_model.proofs.WholeWrite as client_part
use Rattle.afr_test_model.proofs.Words.{at_each, at_two, brick, file, heal_ask, healer}

-- ---- the round
-- both locks of a heal are released
abbrev pub freed : Kind → List Line → List Line
freed kind older = at_each (λ b. heal_ask b (request.Unlock domain.Heal (whole_of file Bytes)) told.Done) (at_each (λ b. heal_ask b (request.Unlock domain.Work (whole_of file kind)) told.Done) older)

-- the index was given, and the attributes had nothing to heal
abbrev pub attributes_looked : List Line → List Line
attributes_looked older = freed Attrs (opened Attrs (index 0 ∷ older))

-- the bytes were copied from brick 0, as line 52 had read them there
abbrev pub bytes_copied : List Line → List Line
bytes_copied older =
    at_two (λ b. heal_ask (b + 1) (request.Mend (Copy file 0 5 52)) told.Done) (heal_ask 0 (request.ReadBytes file 0 5) told.Given ∷ at_two (λ b. raise (b + 1)) (opened Bytes (heal_ends Attrs healed.Nothing ∷ attributes_looked older)))

-- the numbers were settled, and the locks released
abbrev pub bytes_settled : List Line → List Line
bytes_settled older = freed Bytes (settle less_2 2 ∷ settle less_1 1 ∷ settle less_0 0 ∷ bytes_copied older)

-- all but the last line of the round
abbrev pub healed_after : List Line → List Line
healed_after older = heal_ends Bytes healed.Settled ∷ bytes_settled older

-- the round
abbrev pub round_after : List Line → List Line
round_after older = End healer (reply.Ok good.Done) ∷ healed_after older

-- the whole log
abbrev pub whole : List Line
whole = round_after client_part.whole

-- ---- the plan
-- a line is about the object of the heal that is due
of_heal : {asked : Request} {w : Work} (kind : Kind) → heal_due failing w ≡ Some (file, kind) → object_healed asked ≡ Some file → IsOfHeal (listed_by failing w) asked w
of_heal kind due about = record { object = file; kind = kind; due = due; about = about }

-- a line of the healer's only round
row : {line : Line} {older : List Line} → length older < 100 → is_killed 17 older ≡ false → slice_get (rounds_of failing 17) (ended 17 older) ≡ Some (brick 0) → KeepsToRound failing (brick 0) line (work 17 older)
    → (length older < 100) × (IsTurnOf false failing 17 line older × NoneDue failing older)
row few alive first keeps = (few, (record { actor = IsActor.Healer (omega arith) (omega arith); alive = alive; keeps = KeepsToTask.ToRound refl (omega arith) (brick 0) first keeps }, λ planned same. from_none planned same))

-- the index comes first, and then the heal of the attributes
attributes_follow : Follows false failing (opened Attrs (index 0 ∷ client_part.whole))
attributes_follow =
    three (row (omega arith) refl refl (of_heal Attrs refl refl)) (row (omega arith) refl refl (of_heal Attrs refl refl)) (row (omega arith) refl refl (of_heal Attrs refl refl)) (
      row (omega arith) refl refl refl,
      three (row (omega arith) refl refl (of_heal Attrs refl refl)) (row (omega arith) refl refl (of_heal Attrs refl refl)) (row (omega arith) refl refl (of_heal Attrs refl refl))
          (three (row (omega arith) refl refl (of_heal Attrs refl refl)) (row (omega arith) refl refl (of_heal Attrs refl refl)) (row (omega arith) refl refl (of_heal Attrs refl refl)) (row (omega arith) refl refl (refl, refl), a_write_follows_its_plan)),
    )

-- it ends, and that of the bytes comes next
bytes_follow : Follows false failing (opened Bytes (heal_ends Attrs healed.Nothing ∷ attributes_looked client_part.whole))
bytes_follow =
    three (row (omega arith) refl refl (of_heal Bytes refl refl)) (row (omega arith) refl refl (of_heal Bytes refl refl)) (row (omega arith) refl refl (of_heal Bytes refl refl)) (
      row (omega arith) refl refl refl,
      three (row (omega arith) refl refl (of_heal Bytes refl refl)) (row (omega arith) refl refl (of_heal Bytes refl refl)) (row (omega arith) refl refl (of_heal Bytes refl refl))
          (three (row (omega arith) refl refl (of_heal Bytes refl refl)) (row (omega arith) refl refl (of_heal Bytes refl refl)) (row (omega arith) refl refl (of_heal Bytes refl refl)) (
            row (omega arith) refl refl refl,
            three (row (omega arith) refl refl (of_heal Attrs refl refl)) (row (omega arith) refl refl (of_heal Attrs refl refl)) (row (omega arith) refl refl (of_heal Attrs refl refl))
                (three (row (omega arith) refl refl (of_heal Attrs refl refl)) (row (omega arith) refl refl (of_heal Attrs refl refl)) (row (omega arith) refl refl (of_heal Attrs refl refl)) attributes_follow),
          )),
    )

-- they are copied
copies_follow : Follows false failing (bytes_copied client_part.whole)
copies_follow =
    three (row (omega arith) refl refl (of_heal Bytes refl refl)) (row (omega arith) refl refl (of_heal Bytes refl refl)) (row (omega arith) refl refl (of_heal Bytes refl refl))
    (two (row (omega arith) refl refl (of_heal Bytes refl refl)) (row (omega arith) refl refl (of_heal Bytes refl refl)) bytes_follow)

-- and settled
settling_follows : Follows false failing (bytes_settled client_part.whole)
settling_follows =
    three (row (omega arith) refl refl (of_heal Bytes refl refl)) (row (omega arith) refl refl (of_heal Bytes refl refl)) (row (omega arith) refl refl (of_heal Bytes refl refl))
    (three (row (omega arith) refl refl (of_heal Bytes refl refl)) (row (omega arith) refl refl (of_heal Bytes refl refl)) (row (omega arith) refl refl (of_heal Bytes refl refl))
    (three (row (omega arith) refl refl (of_heal Bytes refl refl)) (row (omega arith) refl refl (of_heal Bytes refl refl)) (row (omega arith) refl refl (of_heal Bytes refl refl)) copies_follow))

-- each line is what the plan has for its moment
pub a_round_follows_its_plan : Follows false failing whole
a_round_follows_its_plan = two (row (omega arith) refl refl (record { first = _; older = _; begun = refl; done = refl })) (row (omega arith) refl refl refl) settling_follows

-- each line was told what its brick then gave
pub a_round_is_honest : Honest failing whole
unfolding below
a_round_is_honest = two tt tt (three refl refl refl (three refl refl refl (three refl refl refl (three refl refl refl (two refl refl (three refl refl refl (tt, three refl refl refl (three refl refl refl (tt, three refl refl refl (three refl refl refl (three refl refl refl (tt, three refl refl refl (three refl refl refl (refl, a_write_is_honest))))))))))))))

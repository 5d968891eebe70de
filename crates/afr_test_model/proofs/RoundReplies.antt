-- The replies of that round: each heal and the round end with their cause, nothing disturbed them, and nothing is left.
use Rattle.std.specs.Prelude.{◌≡◌, ◌⊎◌, ℕ, ◌≤◌, ◌||◌, true, List, [], codes, refl}
use Rattle.std.specs.Fmt.{digits}
use Rattle.uuid.specs.Text.{by_index}
use Rattle.std.proofs.Common.{arith, inr, subst, sym}
use Rattle.afr_base.specs.Bricks.{below, member}
use Rattle.afr_base.specs.Text.{gfid_spelling}
use Rattle.afr_base.specs.declared.ids.Kind.TheVariants.{Attrs, Bytes}
use Rattle.afr_lines.specs.Work.{Work, ended, is_killed, work}
use Rattle.afr_lines.specs.declared.line.Line.{Line}
use Rattle.afr_lines.specs.declared.reply.HealReply.TheVariants as healed
use Rattle.afr_model.specs.Actors.{IsActor, is_done}
use Rattle.afr_model.specs.Blamed.{AreBlamed}
use Rattle.afr_model.specs.Complete.{IsFinished}
use Rattle.afr_model.specs.HealReplies.{IsHealAnswered, IsHealAsked, IsHealing}
use Rattle.afr_model.specs.Healing.{first_by, whole_of}
use Rattle.afr_model.specs.Quiet.{IsQuiet}
use Rattle.afr_model.specs.Replied.{IsOfTask, Replied}
use Rattle.afr_model.specs.ReportHealers.{report_of}
use Rattle.afr_model.specs.Showing.{among}
use Rattle.afr_model.specs.Standing.{getting}
use Rattle.afr_test_model.proofs.Blamed.{none_blamed_after}
use Rattle.afr_test_model.proofs.HealReplies.{is_failed_reply}
use Rattle.afr_test_model.proofs.HealWords.{heal_of}
use Rattle.afr_test_model.proofs.Means.{each_of_three, from_none, three, told_apart, two}
use Rattle.afr_test_model.proofs.Skipping.{from_members}
use Rattle.afr_test_model.proofs.WholeWrite.{failing, every_line_is_of_the_write, a_write_accuses_the_one_that_missed_it}
use Rattle.afr_test_model.proofs.WholeWrite as client_part
use Rattle.afr_test_model.proofs.Words.{file, healer}
use Rattle.afr_test_model.proofs.WholeRound.{attributes_looked, bytes_copied, bytes_settled, healed_after, round_after, whole}

-- ---- the heals
-- the lines of the first heal
abbrev pub attrs_lines : Work
attrs_lines = heal_of (attributes_looked client_part.whole)

-- those of the second
abbrev pub bytes_lines : Work
bytes_lines = heal_of (bytes_settled client_part.whole)

-- every brick was asked by the heal of the attributes
attrs_asked : IsHealAsked failing.shape file Attrs attrs_lines
attrs_asked = record {
  locked = each_of_three _ refl;
  worked = λ most b got. got;
  looked = λ most b got. from_members (λ x. member (first_by attrs_lines).looked.reached x || member (first_by attrs_lines).missing x) (among (getting (whole_of file Attrs)) attrs_lines) refl b got;
}

-- and by that of the bytes
bytes_asked : IsHealAsked failing.shape file Bytes bytes_lines
bytes_asked = record {
  locked = each_of_three _ refl;
  worked = λ most b got. got;
  looked = λ most b got. from_members (λ x. member (first_by bytes_lines).looked.reached x || member (first_by bytes_lines).missing x) (among (getting (whole_of file Bytes)) bytes_lines) refl b got;
}

-- the attributes had nothing to heal
pub the_attributes_had_nothing_to_heal : IsHealAnswered failing.shape file Attrs attrs_lines healed.Nothing
unfolding below
the_attributes_had_nothing_to_heal = record { caused = refl; failed = λ same. absurd (told_apart is_failed_reply _ _ refl refl (sym same)); asked = λ free. attrs_asked }

-- the bytes were settled
pub the_bytes_were_settled : IsHealAnswered failing.shape file Bytes bytes_lines healed.Settled
unfolding below
the_bytes_were_settled = record { caused = refl; failed = λ same. absurd (told_apart is_failed_reply _ _ refl refl (sym same)); asked = λ free. bytes_asked }

-- a line of the healer is of its only round
task : {line : Line} {older : List Line} → IsHealing failing.shape line (work 17 older) → IsOfTask failing healer line older
task heals = record { command = λ it same. from_none it same; round = λ least. heals }

-- the lines of the first heal
attributes_are_of_it : Replied failing (attributes_looked client_part.whole)
attributes_are_of_it =
    three (task tt) (task tt) (task tt)
    (three (task tt) (task tt) (task tt)
    (three (task tt) (task tt) (task tt) (
      task tt,
      three (task tt) (task tt) (task tt)
          (three (task tt) (task tt) (task tt) (task tt, every_line_is_of_the_write)),
    )))

-- those of the second, up to its settling
bytes_are_of_it : Replied failing (bytes_copied client_part.whole)
bytes_are_of_it =
    three (task tt) (task tt) (task tt)
    (two (task tt) (task tt)
    (three (task tt) (task tt) (task tt) (
      task tt,
      three (task tt) (task tt) (task tt)
          (three (task tt) (task tt) (task tt) (task the_attributes_had_nothing_to_heal, attributes_are_of_it)),
    )))

-- each line is of the round
pub every_line_is_of_the_round : Replied failing whole
unfolding below
every_line_is_of_the_round =
    two (task refl) (task the_bytes_were_settled)
    (three (task tt) (task tt) (task tt)
    (three (task tt) (task tt) (task tt)
    (three (task (record { holder = refl; once = refl; seen = refl })) (task (record { holder = refl; once = refl; seen = refl })) (task (record { holder = refl; once = refl; seen = refl })) bytes_are_of_it)))

-- ---- the rest
-- the round accuses nobody further
pub a_round_accuses_nobody : AreBlamed failing whole
a_round_accuses_nobody = none_blamed_after failing (round_after []) client_part.whole refl a_write_accuses_the_one_that_missed_it

-- nothing disturbed it
pub the_round_was_quiet : IsQuiet failing 17 (healed_after client_part.whole)
the_round_was_quiet = record { healer = IsActor.Healer (omega arith) (omega arith); together = refl; unfailed = refl; alone = others }
  where
    one : (a : ℕ) → 1 ≤ a → a ≤ 1 → 1 ≡ a
    one a least most = omega (arith, least, most)

    others : (x : ℕ) → IsActor failing x → (x ≡ 17 → ⊥) → (is_killed x client_part.whole ≡ true) ⊎ (work x client_part.whole ≡ [])
    others x (IsActor.Client least most) other = inr (subst (λ (a : ℕ). work a client_part.whole ≡ []) (one x least most) refl)
    others x (IsActor.Healer least most) other = absurd (other (omega (arith, least, most)))

-- nothing is left to do
pub nothing_is_left_after_the_round : IsFinished failing whole
nothing_is_left_after_the_round = record { events = λ planned same. from_none planned same; done = λ a actor. of (λ x. is_done failing x whole ≡ true) refl refl a actor; ended = λ a actor alive. of (λ x. work x whole ≡ []) refl refl a actor }
  where
    same_as : (first a : ℕ) → first ≤ a → a ≤ first → first ≡ a
    same_as first a least most = omega (arith, least, most)

    of : (P : ℕ → Type 0) → P 1 → P 17 → (a : ℕ) → IsActor failing a → P a
    of P first last a (IsActor.Client least most) = subst P (same_as 1 a least most) first
    of P first last a (IsActor.Healer least most) = subst P (same_as 17 a least most) last

-- its report: the heal settled, and no object is left that needs one
pub the_report_of_a_round :
    report_of failing whole
    ≡ codes "afr replica 3\nlines 66\nc1 1 of 1\n1 write ok\nh1 1 of 1\n1 round ok\ndata 00000000-0000-0001-0000-000000000001 settled\nreach 0 1 2\nobjects 0\nsplit-brain 0\n"
unfolding below digits gfid_spelling by_index
the_report_of_a_round = refl

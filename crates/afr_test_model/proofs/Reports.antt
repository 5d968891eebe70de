-- The texts of replies, objects, heals and rounds.
use Rattle.std.specs.Prelude.{◌≡◌, [], ◌∷◌, Some, None, codes, refl}
use Rattle.std.specs.Fmt.{digits}
use Rattle.hex.specs.Hex.{encode_with}
use Rattle.uuid.specs.Text.{by_index}
use Rattle.afr_base.specs.Text.{gfid_spelling}
use Rattle.afr_base.specs.declared.ids.Kind.TheVariants.{Attrs, Bytes}
use Rattle.afr_marks.specs.declared.attribute.Which.TheVariants.{Client, Dirty}
use Rattle.afr_lines.specs.declared.reply.Good.TheVariants as good
use Rattle.afr_lines.specs.declared.reply.HealReply.TheVariants as healed
use Rattle.afr_lines.specs.declared.reply.Reply.TheVariants as reply
use Rattle.afr_plan.specs.declared.plan.Words.{Words}
use Rattle.afr_model.specs.ReportHealers.{heal_line, round_lines}
use Rattle.afr_model.specs.ReportObjects.{mark_line, one_if_split, verdict_line}
use Rattle.afr_model.specs.ReportReplies.{heal_text, reply_text}
use Rattle.afr_model.specs.Splits.{looked_at}
use Rattle.afr_choice.specs.Looks.{view_at}
use Rattle.afr_test_model.proofs.HealWords.{heal_ends}
use Rattle.afr_test_model.proofs.Splits.{all_accused, accusing_each_other}
use Rattle.afr_test_model.proofs.Words.{brick, child_entry, file, file_entry, half_written, other, plan}

-- the words of a plan: the names b and a, and the value red
abbrev pub words : Words
words = record { names = codes "b" ∷ codes "a" ∷ []; keys = []; values = codes "red" ∷ [] }

-- ---- replies
-- names stand in the order of their bytes
pub names_are_in_order : reply_text words (reply.Ok (good.Names ((record { 0 = 0 }, file_entry) ∷ (record { 0 = 1 }, child_entry) ∷ []))) ≡ codes "ok a b"
names_are_in_order = refl

-- no names are a dash
pub no_names_are_a_dash : reply_text words (reply.Ok (good.Names [])) ≡ codes "ok -"
no_names_are_a_dash = refl

-- a value
pub a_value : reply_text words (reply.Ok (good.Value (Some (record { 0 = 0 })))) ≡ codes "ok red"
a_value = refl

-- no value is a dash
pub no_value_is_a_dash : reply_text words (reply.Ok (good.Value None)) ≡ codes "ok -"
no_value_is_a_dash = refl

-- bytes, as digits
pub bytes_are_digits : reply_text words (reply.Ok (good.Bytes (104 ∷ 10 ∷ []))) ≡ codes "ok 680a"
bytes_are_digits = refl

-- a stat of a file
pub a_stat_of_a_file : reply_text words (reply.Ok (good.Stat file_entry 5)) ≡ codes "ok file 00000000-0000-0001-0000-000000000001 5"
unfolding gfid_spelling by_index digits
a_stat_of_a_file = refl

-- a stat of a directory, which has no length
pub a_stat_of_a_directory : reply_text words (reply.Ok (good.Stat child_entry 0)) ≡ codes "ok dir 00000000-0000-0000-0000-000000000002"
unfolding gfid_spelling by_index
a_stat_of_a_directory = refl

-- ---- objects
-- brick 2 missed a write: the others are good
pub a_missed_write_leaves_two_good : verdict_line plan (looked_at plan half_written (0 ∷ 1 ∷ 2 ∷ []) file) Bytes ≡ codes "data good 0 1\n"
unfolding digits
a_missed_write_leaves_two_good = refl

-- each accuses another: none is
pub accused_copies_have_a_split_line : verdict_line plan (looked_at plan all_accused (0 ∷ 1 ∷ 2 ∷ []) file) Bytes ≡ codes "data split\n"
accused_copies_have_a_split_line = refl

-- a kind whose numbers are all 0 has no line
pub a_clean_kind_has_no_line : verdict_line plan (looked_at plan half_written (0 ∷ 1 ∷ 2 ∷ []) file) Attrs ≡ []
a_clean_kind_has_no_line = refl

-- the value that brick 0 stores against brick 2
pub a_stored_value : mark_line 0 (view_at 0 (looked_at plan half_written (0 ∷ 1 ∷ 2 ∷ []) file)) (Client (brick 2)) ≡ codes "b0 trusted.afr.vol-client-2=0x000000010000000000000000\n"
unfolding digits encode_with
a_stored_value = refl

-- a value that is all zero has no line
pub a_zero_value_has_no_line : mark_line 0 (view_at 0 (looked_at plan half_written (0 ∷ 1 ∷ 2 ∷ []) file)) Dirty ≡ []
a_zero_value_has_no_line = refl

-- splits are counted
pub a_split_counts : one_if_split plan (looked_at plan all_accused (0 ∷ 1 ∷ 2 ∷ []) file) Bytes ≡ 1
a_split_counts = refl

-- a file with a good copy doesn't
pub a_good_third_does_not : one_if_split plan (looked_at plan accusing_each_other (0 ∷ 1 ∷ 2 ∷ []) file) Bytes ≡ 0
a_good_third_does_not = refl

-- ---- heals
-- a heal that settled
pub a_settled_heal_has_a_line : heal_line (heal_ends Bytes healed.Settled) ≡ codes "data 00000000-0000-0001-0000-000000000001 settled\n"
unfolding gfid_spelling by_index
a_settled_heal_has_a_line = refl

-- one that found nothing has none
pub a_heal_of_nothing_has_no_line : heal_line (heal_ends Attrs healed.Nothing) ≡ []
a_heal_of_nothing_has_no_line = refl

-- a busy one names who was at it
pub a_busy_heal_names_the_other : heal_text (healed.Busy other) ≡ codes "busy h2"
unfolding digits
a_busy_heal_names_the_other = refl

-- a round, after none
pub a_round_has_its_number : round_lines words 0 (Some (reply.Ok good.Done)) [] ≡ codes "1 round ok\n"
unfolding digits
a_round_has_its_number = refl

-- a round that hasn't ended has no line
pub an_open_round_has_no_line : round_lines words 0 None [] ≡ []
an_open_round_has_no_line = refl

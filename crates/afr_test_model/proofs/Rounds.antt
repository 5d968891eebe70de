-- Rounds: the index first, then the heals of its list in order, and nothing else.
use Rattle.std.specs.Prelude.{◌≡◌, ◌==◌, Bool, true, false, [], ◌∷◌, Option, Some, None, refl}
use Rattle.std.proofs.Common.{ap, sym, ◌∙◌}
use Rattle.afr_base.specs.declared.ids.BrickId.{BrickId}
use Rattle.afr_base.specs.declared.ids.Gfid.{Gfid}
use Rattle.afr_base.specs.declared.ids.Kind.{Kind}
use Rattle.afr_base.specs.declared.ids.Kind.TheVariants.{Bytes, Attrs, Names}
use Rattle.afr_base.specs.declared.ids.What.TheVariants.{Dir, File}
use Rattle.afr_object.specs.Tables.{root}
use Rattle.afr_lines.specs.Work.{Work}
use Rattle.afr_lines.specs.declared.answer.Told.TheVariants as told
use Rattle.afr_lines.specs.declared.line.Line.TheVariants.{End}
use Rattle.afr_lines.specs.declared.reply.Good.TheVariants as good
use Rattle.afr_lines.specs.declared.reply.HealReply.TheVariants as healed
use Rattle.afr_lines.specs.declared.reply.Reply.TheVariants as reply
use Rattle.afr_lines.specs.declared.request.Request.TheVariants as request
use Rattle.afr_model.specs.Rounds.{IsOfHeal, KeepsToRound, heals_of, listed_by}
use Rattle.afr_test_model.proofs.HealWords.{attrs_healed, heal_ends, heals, index, listed, round_of, settled}
use Rattle.afr_test_model.proofs.Means.{from_none, is_none, told_apart}
use Rattle.afr_test_model.proofs.Words.{begin, brick, file, file_name, half_written, heal_ask, healer, plan, write_change}

-- ---- the list
-- the write that brick 2 missed left a number on brick 0's copy of the file
pub the_index_lists_the_file : listed_by plan (round_of listed) ≡ (file, File) ∷ []
the_index_lists_the_file = refl

-- a round without its Index line has no list
pub without_an_index_there_is_no_list : listed_by plan (round_of half_written) ≡ []
without_an_index_there_is_no_list = refl

-- of each object the attributes are healed, and then its bytes or its names
pub attributes_come_first : heals_of ((root, Dir) ∷ (file, File) ∷ []) ≡ (root, Attrs) ∷ (root, Names) ∷ (file, Attrs) ∷ (file, Bytes) ∷ []
attributes_come_first = refl

-- ---- the index
-- the round begins with the index of its brick
pub the_index_comes_first : KeepsToRound plan (brick 0) (index 0) (round_of half_written)
the_index_comes_first = (refl, refl)

-- the brick has the number 0
abbrev pub is_brick_0 : BrickId → Bool
is_brick_0 b = b.0 == 0

-- not with another brick's
pub no_index_of_another_brick : KeepsToRound plan (brick 0) (index 1) (round_of half_written) → ⊥
no_index_of_another_brick keeps = told_apart is_brick_0 (brick 0) (brick 1) refl refl (sym keeps.1)

-- no line of the round has come
abbrev pub is_begun : Work → Bool
is_begun [] = false
is_begun (x ∷ w) = true

-- and it asks it once
pub no_second_index : KeepsToRound plan (brick 0) (index 0) (round_of listed) → ⊥
no_second_index keeps = told_apart is_begun _ _ refl refl keeps.0

-- ---- the heals
-- the attributes of the file first
pub the_attributes_are_healed_first : KeepsToRound plan (brick 0) (heals Attrs) (round_of listed)
the_attributes_are_healed_first = refl

-- the heal that is due is of attributes
abbrev pub is_of_attrs : Option (Gfid × Kind) → Bool
is_of_attrs (Some (of, Attrs)) = true
is_of_attrs other = false

-- not its bytes
pub the_bytes_are_not_healed_first : KeepsToRound plan (brick 0) (heals Bytes) (round_of listed) → ⊥
the_bytes_are_not_healed_first keeps = told_apart is_of_attrs _ _ refl refl keeps

-- then its bytes
pub the_bytes_are_healed_next : KeepsToRound plan (brick 0) (heals Bytes) (round_of attrs_healed)
the_bytes_are_healed_next = refl

-- no heal before the index
pub no_heal_before_the_index : KeepsToRound plan (brick 0) (heals Attrs) (round_of half_written) → ⊥
no_heal_before_the_index keeps = from_none _ keeps

-- the lines of a heal are about its object
pub a_heal_looks_at_its_object : IsOfHeal (listed_by plan (round_of listed)) (request.Look file) (round_of listed)
a_heal_looks_at_its_object = record { object = file; kind = Attrs; due = refl; about = refl }

-- the object that is due has the number of the root
abbrev pub is_of_root : Option Gfid → Bool
is_of_root None = false
is_of_root (Some of) = of.0 == 1

-- the object of the heal that is due
abbrev pub object_due : Option (Gfid × Kind) → Option Gfid
object_due None = None
object_due (Some (of, kind)) = Some of

-- and about no other
pub a_heal_looks_at_no_other_object : IsOfHeal (listed_by plan (round_of listed)) (request.Look root) (round_of listed) → ⊥
a_heal_looks_at_no_other_object heal = told_apart is_of_root _ _ refl refl (heal.about ∙ sym (ap object_due heal.due))

-- a heal reads no name
pub a_heal_reads_no_name : KeepsToRound plan (brick 0) (heal_ask 0 (request.ReadName file file_name) told.Given) (round_of listed) → ⊥
a_heal_reads_no_name heal = from_none _ heal.about

-- and begins no client's change
pub a_round_begins_no_change : KeepsToRound plan (brick 0) (begin write_change) (round_of listed) → ⊥
a_round_begins_no_change keeps = keeps

-- ---- the end
-- it ends when every heal of its list has ended
pub it_ends_after_its_last_heal : KeepsToRound plan (brick 0) (End healer (reply.Ok good.Done)) (round_of (heal_ends Bytes healed.Settled ∷ settled))
it_ends_after_its_last_heal = record { first = _; older = _; begun = refl; done = refl }

-- not while one is left
pub it_does_not_leave_out_a_heal : KeepsToRound plan (brick 0) (End healer (reply.Ok good.Done)) (round_of attrs_healed) → ⊥
it_does_not_leave_out_a_heal healed = told_apart is_none _ _ refl refl (sym healed.done)

-- nor before it has begun
pub it_does_not_end_before_its_index : KeepsToRound plan (brick 0) (End healer (reply.Ok good.Done)) (round_of half_written) → ⊥
it_does_not_end_before_its_index healed = told_apart is_begun _ _ refl refl (sym healed.begun)

-- How a rename ends, and what is refused.
use Rattle.std.specs.Prelude.{◌≡◌, ℕ, true, false, [], Some, None, refl}
use Rattle.std.proofs.Common.{ap, sym, ◌∙◌, inl, inr}
use Rattle.afr_base.specs.Bricks.{member}
use Rattle.afr_base.specs.declared.ids.Gfid.{Gfid}
use Rattle.afr_object.specs.declared.change.Change.{Change}
use Rattle.afr_lines.specs.Work.{Work, work}
use Rattle.afr_lines.specs.declared.reply.Good.TheVariants as good
use Rattle.afr_lines.specs.declared.reply.Reply.TheVariants as reply
use Rattle.afr_lines.specs.declared.request.Area.{Area}
use Rattle.afr_plan.specs.declared.command.Command.{Command}
use Rattle.afr_plan.specs.declared.command.Command.TheVariants as command
use Rattle.afr_model.specs.Showing.{At, Path, among, path_by}
use Rattle.afr_model.specs.Skipped.{IsLooked, SkipsNothing, WentThroughPhases}
use Rattle.afr_model.specs.Standing.{asking, change_by}
use Rattle.afr_model.specs.Kept.{IsKept}
use Rattle.afr_model.specs.Parts.{first_part, the_make, the_removal, the_walk}
use Rattle.afr_model.specs.Renamed.{AreLegs, HasFound, IsOfRename, IsRenamed, StillLeads, since_name}
use Rattle.afr_model.specs.Renamed as rename
use Rattle.afr_test_model.proofs.Renamed.Lines.{at_each, begin, file, file_entry, from, halved, link, linked, lock, look, made_at_one, new_area, old_area, other_file, plan, ready_again, ready_elsewhere, removal, renamed, to, walked}
use Rattle.afr_test_model.proofs.Means.{from_none, from_some}
use Rattle.afr_test_model.proofs.Skipping.{all_locked, all_looked}

-- ---- nothing is skipped
-- a part without an attempt
skips_none : (c : Command) (w : Work) → change_by w ≡ None → Rattle.afr_model.specs.Commands.is_rmdir c ≡ false → IsLooked 3 w
    → ((area : Area) → Rattle.afr_model.specs.Skipped.is_whole area ≡ false → Rattle.afr_model.specs.Showing.has (Rattle.afr_model.specs.Standing.locks_area area) w ≡ true → Rattle.afr_model.specs.Skipped.IsLocked 3 w area) → SkipsNothing plan c w
skips_none c w none plain looked locked = record { looked = looked; locked = locked; child = λ rmdir. absurd (cc (plain, rmdir)); carried = λ change same. from_none change (sym none ∙ same) }

-- a part with one
skips_one : (c : Command) (w : Work) (one : Change) → change_by w ≡ Some one → WentThroughPhases plan c one w → Rattle.afr_model.specs.Commands.is_rmdir c ≡ false → IsLooked 3 w
    → ((area : Area) → Rattle.afr_model.specs.Skipped.is_whole area ≡ false → Rattle.afr_model.specs.Showing.has (Rattle.afr_model.specs.Standing.locks_area area) w ≡ true → Rattle.afr_model.specs.Skipped.IsLocked 3 w area) → SkipsNothing plan c w
skips_one c w one begun carried plain looked locked = record { looked = looked; locked = locked; child = λ rmdir. absurd (cc (plain, rmdir)); carried = λ change same. from_some (λ it. WentThroughPhases plan c it w) one change carried (sym begun ∙ same) }

made : SkipsNothing plan (command.Create to) (the_make from (work 1 linked))
made =
    skips_one (command.Create to) (the_make from (work 1 linked)) link refl (record { prepared_all = λ b taker. taker; applied_all = λ enough b did. did; posted_all = λ enough done b did. did }) refl
    (all_looked 3 (the_make from (work 1 linked)) refl) (all_locked 3 (the_make from (work 1 linked)) refl)

removed : SkipsNothing plan (command.Unlink from) (the_removal from (work 1 renamed))
removed =
    skips_one (command.Unlink from) (the_removal from (work 1 renamed)) removal refl (record { prepared_all = λ b taker. taker; applied_all = λ enough b did. did; posted_all = λ enough done b did. did }) refl
    (all_looked 3 (the_removal from (work 1 renamed)) refl) (all_locked 3 (the_removal from (work 1 renamed)) refl)

-- each of the 24 lines of the walk and the making
legs : AreLegs 3 (first_part (work 1 linked))
legs = (tt, (tt, (tt, (tt, (tt, (tt, (tt, (tt, (tt, (tt, (tt, (tt, (tt, (all_looked 3 (since_name (work 1 (at_each (look 1) (at_each (lock 1 new_area) walked)))) refl, (tt, (tt, (tt, (tt, (tt, (tt, (all_looked 3 (since_name (work 1 (at_each (look 1) []))) refl, (tt, (tt, (tt, tt))))))))))))))))))))))))

-- ---- it ends with ok
pub a_rename_is_ok : IsRenamed plan from to (work 1 renamed) (reply.Ok good.Done)
a_rename_is_ok = record {
  caused = refl;
  asked = λ refused same. from_none refused same;
  failed = λ same. absurd (cc same);
  halved = λ same. absurd (cc same);
  undisturbed = λ begun calm. inl refl;
  legs = legs;
  last_leg = all_looked 3 (since_name (first_part (work 1 renamed))) refl;
  walked = skips_none (command.Stat from) (the_walk from (work 1 renamed)) refl refl (all_looked 3 (the_walk from (work 1 renamed)) refl) (all_locked 3 (the_walk from (work 1 renamed)) refl);
  made = made;
  looked_for = λ closed. record {
    area = old_area;
    of = refl;
    all = Rattle.afr_base.specs.Bricks.from_table 3 (member (among (asking old_area) (the_removal from (work 1 renamed)))) refl;
    whole = removed;
  };
}

-- ---- it stays half
no_name : StillLeads plan from (work 1 halved) → ⊥
no_name k = absurd (cc (k.still))

pub a_rename_stays_half : IsRenamed plan from to (work 1 halved) reply.Half
a_rename_stays_half = record {
  caused = refl;
  asked = λ refused same. from_none refused same;
  failed = λ same. absurd (cc same);
  halved = λ same. rename.ByName no_name;
  undisturbed = λ begun calm. inr (refl, refl);
  legs = legs;
  last_leg = all_looked 3 (since_name (first_part (work 1 halved))) refl;
  walked = skips_none (command.Stat from) (the_walk from (work 1 halved)) refl refl (all_looked 3 (the_walk from (work 1 halved)) refl) (all_locked 3 (the_walk from (work 1 halved)) refl);
  made = made;
  looked_for = λ closed. record {
    area = old_area;
    of = refl;
    all = Rattle.afr_base.specs.Bricks.from_table 3 (member (among (asking old_area) (the_removal from (work 1 halved)))) refl;
    whole = skips_none (command.Unlink from) (the_removal from (work 1 halved)) refl refl (all_looked 3 (the_removal from (work 1 halved)) refl) (all_locked 3 (the_removal from (work 1 halved)) refl);
  };
}

-- ---- what is refused
-- ok, where the old name wasn't removed
pub half_is_no_ok : IsRenamed plan from to (work 1 halved) (reply.Ok good.Done) → ⊥
half_is_no_ok k = cc (k.caused)

-- half, where the old name wasn't even looked for
pub half_without_a_look : IsRenamed plan from to (work 1 linked) reply.Half → ⊥
half_without_a_look k = let asked = (k.looked_for refl) in absurd (unasked asked.area asked.of (asked.all 0 (omega Rattle.std.proofs.Common.arith)))
  where
    unasked : (area : Area) → Rattle.afr_model.specs.Renamed.old_area plan from (work 1 linked) ≡ Some area → member (among (asking area) (the_removal from (work 1 linked))) 0 ≡ true → ⊥
    unasked area of h = cc h

-- the old name's lock, where the new name stands at one brick of three
pub the_old_name_waits_for_the_new : IsOfRename plan from to (lock 1 old_area 0) (work 1 made_at_one) → ⊥
the_old_name_waits_for_the_new k = cc (k.0)

-- the removal, where the old name leads to another file
pub another_file_stays : IsOfRename plan from to (begin 1 removal) (work 1 ready_elsewhere) → ⊥
another_file_stays k = let s = k.1 in absurd (other s.file s.found s.still)
  where
    leads_to : Path → ℕ
    leads_to (At read entry) = entry.gfid.0
    leads_to path = 0

    other : (g : Gfid) → HasFound plan from g (work 1 ready_elsewhere) → path_by plan (the_removal from (work 1 ready_elsewhere)) ≡ At 1 (record { gfid = g; what = Rattle.afr_base.specs.declared.ids.What.TheVariants.File }) → ⊥
    other g f e = let one : file.0 ≡ g.0 = ap leads_to f in let two : other_file.0 ≡ g.0 = ap leads_to e in absurd (cc (one ∙ sym two))

-- ---- the name is kept
pub a_removal_keeps_the_name : IsKept plan (begin 1 removal) ready_again
a_removal_keeps_the_name d n g made e = record { closed = refl; entry = file_entry; read = refl; same = cc e }

pub a_removal_too_early_is_refused : IsKept plan (begin 1 removal) made_at_one → ⊥
a_removal_too_early_is_refused k = cc ((k _ _ _ _ refl).closed)

-- A write, a cut and a setattr at the object that their path has led to.
use Rattle.std.proofs.Common.{◌≡◌, ℕ, ◌+◌, ◌==◌, nat_lt, Bool, true, false, [], Option, Some, None, length, refl, sym, ap, ◌∙◌, subst, arith, if◌then◌else◌}
use Rattle.std.proofs.lemmas.Bool.Decides.{nat_tests}
use Rattle.afr_base.specs.declared.ids.Kind.{Kind}
use Rattle.afr_base.specs.declared.ids.Kind.TheVariants.{Bytes, Attrs}
use Rattle.afr_base.proofs.TestLemmas.{same_number, one_value}
use Rattle.afr_choice.specs.Verdict.{holders_of}
use Rattle.afr_lines.specs.Areas.{area_for, kind_for}
use Rattle.afr_lines.specs.Work.{Work}
use Rattle.afr_lines.specs.declared.line.Line.TheVariants.{Ask, Begin}
use Rattle.afr_lines.specs.declared.reply.Good.TheVariants as good
use Rattle.afr_lines.specs.declared.reply.Reply.TheVariants as reply
use Rattle.afr_lines.specs.declared.request.Area.{Area}
use Rattle.afr_lines.specs.declared.request.Request.TheVariants.{Lock, Unlock, Look, Pre, Apply, Post}
use Rattle.afr_lines.specs.declared.lock.Domain.TheVariants.{Work as WorkDomain}
use Rattle.afr_object.specs.Tables.{is_dir, object_of}
use Rattle.afr_object.specs.declared.change.Change.{Change}
use Rattle.afr_object.specs.declared.change.Change.TheVariants as change_of
use Rattle.afr_object.specs.declared.entry.Entry.{Entry}
use Rattle.afr_plan.specs.declared.command.Command.{Command}
use Rattle.afr_plan.specs.declared.command.Command.TheVariants as command
use Rattle.afr_plan.specs.declared.plan.Plan.{Plan}
use Rattle.afr_model.specs.Answered.{Answers, IsAsked, answer, by_posts, is_by_views}
use Rattle.afr_model.specs.Commands.{area_on, change_named, is_on_name, is_rmdir, path_of, steps_of}
use Rattle.afr_model.specs.Refusals.{at_object, by_area, by_locks, too_large}
use Rattle.afr_model.specs.Showing.{Path, At, looked_by}
use Rattle.afr_model.specs.Skipped.{takers}
use Rattle.afr_model.specs.Standing.{area_here, looks_here, place_by}
use Rattle.afr_law_client.specs.Read.ChangeLaws.{ChangeKeepsPath, ChangesStand, DirectoryEnds, IsChangeOf, IsFor, LargeEnds, NothingEnds}
use Rattle.afr_law_client.proofs.Read.Ended.{answered_end, refused_end, refusal_end}
use Rattle.afr_law_client.proofs.Read.Walking.{looks_on_way, place_whole, rmdir_none, steps_whole}

-- a test that must fail, where something is there
not_none : {A : Type 0} → (test : Bool) (x y : A) → (if test then None else Some x) ≡ Some y → test ≡ false
not_none true x y e = absurd (cc e)
not_none false x y e = refl

-- ---- what the words name
whole_is : (c : Command) (object : Entry) (change : Change) → IsChangeOf c object change → is_on_name c ≡ false
whole_is (command.Write path at bytes) object change k = refl
whole_is (command.Cut path len) object change k = refl
whole_is (command.SetAttr path key value) object change k = refl
whole_is other object change k = absurd (cc k.named)

object_named : (c : Command) (object : Entry) (change : Change) → IsChangeOf c object change → object_of change ≡ object.gfid
object_named (command.Write path at bytes) object change k = sym (ap object_of (one_value (change_of.Write object.gfid at bytes) change k.named))
object_named (command.Cut path len) object change k = sym (ap object_of (one_value (change_of.Cut object.gfid len) change k.named))
object_named (command.SetAttr path key value) object change k = sym (ap object_of (one_value (change_of.SetAttr object.gfid key value) change k.named))
object_named other object change k = absurd (cc k.named)

refused_by : (p : Plan) (c : Command) (object : Entry) (change : Change) (w : Work) → IsChangeOf c object change → at_object p c object w ≡ by_locks p.shape (kind_for change) (area_for change) w
refused_by p (command.Write path at bytes) object change w k =
    file ∙ ap (λ (area : Option Area). by_area p.shape Bytes area w) k.locks
    ∙ ap (λ (kind : Kind). by_locks p.shape kind (area_for change) w) (ap kind_for (one_value (change_of.Write object.gfid at bytes) change k.named))
  where
    file : at_object p (command.Write path at bytes) object w ≡ by_area p.shape Bytes (area_on object.gfid (command.Write path at bytes)) w
    file = rw k.suits refl
refused_by p (command.Cut path len) object change w k =
    file ∙ ap (λ (area : Option Area). by_area p.shape Bytes area w) k.locks
    ∙ ap (λ (kind : Kind). by_locks p.shape kind (area_for change) w) (ap kind_for (one_value (change_of.Cut object.gfid len) change k.named))
  where
    file : at_object p (command.Cut path len) object w ≡ by_area p.shape Bytes (area_on object.gfid (command.Cut path len)) w
    file = rw k.suits refl
refused_by p (command.SetAttr path key value) object change w k =
    ap (λ (area : Option Area). by_area p.shape Attrs area w) k.locks
    ∙ ap (λ (kind : Kind). by_locks p.shape kind (area_for change) w) (ap kind_for (one_value (change_of.SetAttr object.gfid key value) change k.named))
refused_by p other object change w k = absurd (cc k.named)

answered_by : (p : Plan) (c : Command) (object : Entry) (change : Change) (w : Work) → IsChangeOf c object change → answer p c w ≡ by_posts p.shape w
answered_by p (command.Write path at bytes) object change w k = let some = not_none (length bytes == 0) (area_for (change_of.Write object.gfid at bytes)) (area_for change) k.locks in rw some refl
answered_by p (command.Cut path len) object change w k = refl
answered_by p (command.SetAttr path key value) object change w k = refl
answered_by p other object change w k = absurd (cc k.named)

asked_by : (p : Plan) (c : Command) (object : Entry) (change : Change) (w : Work) → IsChangeOf c object change → IsAsked p c w
asked_by p (command.Write path at bytes) object change w k = let some = not_none (length bytes == 0) (area_for (change_of.Write object.gfid at bytes)) (area_for change) k.locks in grind (arith, nat_tests, some)
asked_by p (command.Cut path len) object change w k = tt
asked_by p (command.SetAttr path key value) object change w k = tt
asked_by p other object change w k = absurd (cc k.named)

-- ---- where it stands
pub stands : ChangesStand
stands p c object change w k there = record {
  whole = whole;
  object_is = object_named c object change k;
  refuses = refusal_end p c w (length (path_of c)) object whole k.fits there.unrefused there.led refl ∙ refused_by p c object change w k;
  answers = answered_by p c object change w k;
  place = place;
  locks = subst (λ (x : Path). area_here c x ≡ Some (area_for change)) (sym there.led) (area_there ∙ k.locks);
  looks = subst (λ (x : Path). looks_here c x ≡ Some object.gfid) (sym there.led) (looks_on_way c (length (path_of c)) object whole (omega arith));
  takes = subst (λ (x : Path). takers c (object_of change) x w ≡ holders_of (looked_by object.gfid w)) (sym there.led) takes;
  asked = asked_by p c object change w k;
  names = λ at. record { object = object; led = place; named = named at };
}
  where
    whole : is_on_name c ≡ false
    whole = whole_is c object change k

    place : place_by p c w ≡ At (steps_of c) object
    place = place_whole p c w whole ∙ there.led ∙ ap (λ (n : ℕ). At n object) (sym (steps_whole c whole))

    at_steps : (length (path_of c) == steps_of c) ≡ true
    at_steps = subst (λ (n : ℕ). (length (path_of c) == n) ≡ true) (sym (steps_whole c whole)) (same_number (length (path_of c)))

    area_there : area_here c (At (length (path_of c)) object) ≡ area_on object.gfid c
    area_there = rw at_steps refl

    rmdir : is_rmdir c ≡ false
    rmdir = rmdir_none c whole

    takes : takers c (object_of change) (At (length (path_of c)) object) w ≡ holders_of (looked_by object.gfid w)
    takes = rw (rmdir, object_named c object change k) refl

    named : (at : ℕ) → change_named object.gfid at c ≡ Some change
    named at = rw whole k.named

-- ---- the path
pub keeps_path : ChangeKeepsPath
keeps_path p c object (Ask a b (Lock WorkDomain area) told took) older w h k = (record { led = k.led; unrefused = k.unrefused }, refl)
keeps_path p c object (Ask a b (Unlock WorkDomain area) told took) older w h k = (record { led = k.led; unrefused = k.unrefused }, refl)
keeps_path p c object (Ask a b (Look g) told took) older w h k = (record { led = k.led; unrefused = k.unrefused }, refl)
keeps_path p c object (Ask a b (Pre g kind) told took) older w h k = (record { led = k.led; unrefused = k.unrefused }, refl)
keeps_path p c object (Ask a b (Apply attempt) told took) older w h k = (record { led = k.led; unrefused = k.unrefused }, refl)
keeps_path p c object (Ask a b (Post attempt g kind missed) told took) older w h k = (record { led = k.led; unrefused = k.unrefused }, refl)
keeps_path p c object (Begin a change) older w h k = (record { led = k.led; unrefused = k.unrefused }, refl)
keeps_path p c object line older w h k = absurd (cc h)

-- ---- the ends without a transaction
pub large : LargeEnds
large p c said e = refused_end p c [] tt (λ g m b l. absurd (cc m)) (whole c e) said (rw e refl) (λ h. absurd (cc (plain c e, h))) (λ h. absurd (other c e h))
  where
    cases : (test : Bool) (c : Command) → (if test then Some reply.TooLarge else None) ≡ Some said → said ≡ reply.TooLarge
    cases true c e = sym (one_value reply.TooLarge said e)
    cases false c e = absurd (cc e)

    is_large : (c : Command) → too_large c ≡ Some said → said ≡ reply.TooLarge
    is_large (command.Write path at bytes) e = cases (nat_lt 1048576 (at + length bytes)) (command.Write path at bytes) e
    is_large other e = absurd (cc e)

    whole : (c : Command) → too_large c ≡ Some said → is_on_name c ≡ false
    whole (command.Write path at bytes) e = refl
    whole other e = absurd (cc e)

    plain : (c : Command) → too_large c ≡ Some said → is_by_views said ≡ false
    plain c e = ap is_by_views (is_large c e)

    other : (c : Command) → too_large c ≡ Some said → said ≡ reply.Failed → ⊥
    other c e h = let k = is_large c e in cc (k, h)

pub directory : DirectoryEnds
directory p c w lines k fits whole unfit =
    refused_end p c lines k.goes.only k.all whole reply.IsDir (refusal_end p c lines w.read w.object whole fits k.goes.unrefused k.goes.path k.whole ∙ is_dir_at c unfit) (λ h. absurd (cc h)) (λ h. absurd (cc h))
  where
    by_test : {A : Type 0} → (d : Bool) (x y : A) → (d ≡ false → ⊥) → (if d then x else y) ≡ x
    by_test true x y h = refl
    by_test false x y h = absurd (h refl)

    is_dir_at : (c : Command) → (IsFor c w.object.what → ⊥) → at_object p c w.object lines ≡ Some reply.IsDir
    is_dir_at (command.Write path at bytes) h = by_test (is_dir w.object.what) (Some reply.IsDir) (by_area p.shape Bytes (area_on w.object.gfid (command.Write path at bytes)) lines) h
    is_dir_at (command.Cut path len) h = by_test (is_dir w.object.what) (Some reply.IsDir) (by_area p.shape Bytes (area_on w.object.gfid (command.Cut path len)) lines) h
    is_dir_at other h = absurd (h tt)

pub nothing : NothingEnds
nothing p path at bytes w lines k fits file none =
    answered_end p (command.Write path at bytes) lines k.goes.only k.all refl (reply.Ok good.Done)
    (Answers (refusal_end p (command.Write path at bytes) lines w.read w.object refl fits k.goes.unrefused k.goes.path k.whole ∙ free) w.object (k.goes.path ∙ ap (λ (n : ℕ). At n w.object) k.whole) (rw none refl))
    refl (λ h. cc h)
  where
    free : at_object p (command.Write path at bytes) w.object lines ≡ None
    free = rw (file, none) refl

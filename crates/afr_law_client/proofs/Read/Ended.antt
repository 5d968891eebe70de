-- What a command without an attempt has answered, where it refuses and where it doesn't.
use Rattle.std.proofs.Common.{◌≡◌, ℕ, nat_lt, true, false, Option, Some, None, length, refl, sym, ap, ◌∙◌, subst, arith, inr}
use Rattle.std.proofs.lemmas.Bool.Decides.{nat_tests}
use Rattle.afr_lines.specs.Work.{Work}
use Rattle.afr_lines.specs.declared.reply.Reply.{Reply}
use Rattle.afr_lines.specs.declared.reply.Reply.TheVariants as reply
use Rattle.afr_object.specs.declared.entry.Entry.{Entry}
use Rattle.afr_plan.specs.declared.command.Command.{Command}
use Rattle.afr_plan.specs.declared.plan.Plan.{Plan}
use Rattle.afr_model.specs.Answered.{IsAnswered, IsCaused, Refuses, is_by_views}
use Rattle.afr_model.specs.Commands.{is_on_name, path_of, steps_of}
use Rattle.afr_model.specs.Refusals.{at_object, by_path, or_else, read_refused, refusal, too_large}
use Rattle.afr_model.specs.Showing.{Path, At, has, path_by, refuses_read}
use Rattle.afr_model.specs.Skipped.{AsksAll, SkipsNothing}
use Rattle.afr_model.specs.Standing.{area_here, looks_here, place_by}
use Rattle.afr_law_client.specs.Read.Lines.{LookedAll, OnlyReads}
use Rattle.afr_law_client.specs.Read.WalkTelling.{Stops}
use Rattle.afr_law_client.proofs.Read.Quiet.{area_none, begins_none, change_none}
use Rattle.afr_law_client.proofs.Read.Walking.{place_whole, rmdir_none, steps_whole}

-- ---- nothing was skipped
pub skips_nothing : (p : Plan) (c : Command) (w : Work) → OnlyReads p.shape.n w → LookedAll p.shape.n w → is_on_name c ≡ false → SkipsNothing p c w
skips_nothing p c w only all whole = record {
  looked = λ g m unlocked b l. all g m b l;
  locked = λ area part m. absurd (cc (m, area_none p.shape.n area w only));
  child = λ h read dir child name place path is_dir area. absurd (cc (h, rmdir_none c whole));
  carried = λ change e. absurd (cc (e, change_none p.shape.n w only));
}

-- ---- an end
module _ (p : Plan) (c : Command) (w : Work) (only : OnlyReads p.shape.n w) (all : LookedAll p.shape.n w) (whole : is_on_name c ≡ false) where
  pub refused_end : (said : Reply) → refusal p c w ≡ Some said → (is_by_views said ≡ true → AsksAll p.shape.n (looks_here c (path_by p w)) (area_here c (path_by p w)) w)
      → (said ≡ reply.Failed → has refuses_read w ≡ true) → IsAnswered p c w said
  refused_end said e asked failed = record {
    caused = Refuses e;
    asked = λ h. subst (λ (x : Path). AsksAll p.shape.n (looks_here c x) (area_here c x) w) (sym (place_whole p c w whole)) (asked h);
    failed = λ h. inr (failed h);
    undisturbed = λ h quiet. absurd (cc (h, begins_none p.shape.n w only));
    whole = skips_nothing p c w only all whole;
  }

  pub answered_end : (said : Reply) → IsCaused p c w said → is_by_views said ≡ false → (said ≡ reply.Failed → ⊥) → IsAnswered p c w said
  answered_end said caused good other = record {
    caused = caused;
    asked = λ h. absurd (cc (h, good));
    failed = λ h. absurd (other h);
    undisturbed = λ h quiet. absurd (cc (h, begins_none p.shape.n w only));
    whole = skips_nothing p c w only all whole;
  }

-- ---- what refuses
-- a command whose whole path is walked is refused where its path stands
pub refusal_here : (p : Plan) (c : Command) (w : Work) → is_on_name c ≡ false → too_large c ≡ None → refusal p c w ≡ or_else (read_refused w) (by_path p c (path_by p w) w)
refusal_here p c w whole large =
    ap (λ (x : Option Reply). or_else x (or_else (read_refused w) (by_path p c (place_by p c w) w))) large
    ∙ ap (λ (x : Path). or_else (read_refused w) (by_path p c x w)) (place_whole p c w whole)

-- a walk that stops ends the command
pub stopped_end : (p : Plan) (c : Command) (w : Work) (said : Reply) → is_on_name c ≡ false → too_large c ≡ None → Stops p c w said → IsAnswered p c w said
stopped_end p c w said whole large k = refused_end p c w k.only k.all whole said (refusal_here p c w whole large ∙ k.cause) k.asked k.failed

-- at the path's end it is what the object refuses
pub refusal_end : (p : Plan) (c : Command) (w : Work) (read : ℕ) (object : Entry) → is_on_name c ≡ false → too_large c ≡ None → has refuses_read w ≡ false → path_by p w ≡ At read object → read ≡ length (path_of c)
    → refusal p c w ≡ at_object p c object w
refusal_end p c w read object whole large unrefused at end =
    refusal_here p c w whole large ∙ unrefused_is ∙ there
  where
    unrefused_is : or_else (read_refused w) (by_path p c (path_by p w) w) ≡ by_path p c (path_by p w) w
    unrefused_is = rw unrefused refl

    over : nat_lt read (steps_of c) ≡ false
    over = let steps = steps_whole c whole in grind (arith, nat_tests, end, steps)

    there : by_path p c (path_by p w) w ≡ at_object p c object w
    there = rw (at, over, whole) refl

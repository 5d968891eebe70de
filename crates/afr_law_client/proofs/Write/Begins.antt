-- Where a walk leaves a change: it ends, or its transaction begins with lines that have touched nothing.
use Rattle.std.proofs.Common.{◌≡◌, ℕ, ◌&&◌, Bool, true, false, List, [], Some, None, refl, sym, ap, ◌∙◌, if◌then◌else◌, inl, inr}
use Rattle.afr_base.specs.declared.ids.NameId.{NameId}
use Rattle.afr_base.specs.declared.ids.Shape.{Shape}
use Rattle.afr_base.specs.declared.ids.What.{What}
use Rattle.afr_choice.specs.Looks.{no_looks}
use Rattle.afr_discipline.specs.declared.register.Register.{Register}
use Rattle.afr_lines.specs.Work.{Work}
use Rattle.afr_lines.specs.declared.reply.Good.TheVariants as good
use Rattle.afr_lines.specs.declared.reply.Reply.TheVariants as reply
use Rattle.afr_object.specs.Tables.{is_dir, object_of}
use Rattle.afr_object.specs.declared.change.Change.{Change}
use Rattle.afr_object.specs.declared.entry.Entry.{Entry}
use Rattle.afr_plan.specs.declared.command.Command.{Command}
use Rattle.afr_plan.specs.declared.plan.Plan.{Plan}
use Rattle.afr_model.specs.Answered.{IsAnswered}
use Rattle.afr_model.specs.Commands.{is_on_name, path_of}
use Rattle.afr_model.specs.Refusals.{too_large}
use Rattle.afr_model.specs.Showing.{At}
use Rattle.afr_client_transaction.specs.Progress.{starting}
use Rattle.afr_discipline.specs.Free.{IsFree}
use Rattle.afr_client_walk.specs.Walk.{IsWalk, walk_from}
use Rattle.afr_client_walk.specs.declared.walk.Walk.{Walk}
use Rattle.afr_client_walk.specs.declared.walk.WalkStep.{WalkStep}
use Rattle.afr_client_walk.specs.declared.walk.WalkStep.TheVariants as walking
use Rattle.afr_discipline.proofs.FreeLemmas.{shape_is}
use Rattle.afr_client_walk.proofs.WalkLemmas.{is_walk_from}
use Rattle.afr_client_write.specs.Job.{change_of, is_empty, is_of_bytes, is_too_large}
use Rattle.afr_client_write.specs.Write.{after_step, after_walk, at_object}
use Rattle.afr_client_write.specs.declared.job.WriteJob.{WriteJob}
use Rattle.afr_client_write.specs.declared.job.WriteJob.TheVariants.{Write, Cut, SetAttr}
use Rattle.afr_client_write.specs.declared.stage.WriteStage.TheVariants.{Changing, Ending}
use Rattle.afr_law_client.specs.Read.ChangeLaws.{IsChangeOf, IsFor}
use Rattle.afr_law_client.specs.Read.WalkLaws.{HasArrived}
use Rattle.afr_law_client.specs.Read.WalkTelling.{WalkTells}
use Rattle.afr_law_client.proofs.Read.ChangeWords.{directory, large, nothing}
use Rattle.afr_law_client.proofs.Read.Walking.{walk_tells_first}
use Rattle.afr_law_client.proofs.Read.WalksEnd.{arrives, stops}
use Rattle.afr_law_client.specs.Tells.{AreIdle}
use Rattle.afr_law_client.proofs.Calm.{calm_first}
use Rattle.afr_law_client.proofs.Excused.{excused_first}
use Rattle.afr_law_client.proofs.First.{tells_first}
use Rattle.afr_law_client.specs.Write.WriteLaws.{WriteBegins}
use Rattle.afr_law_client.specs.Write.WriteTelling.{ChangesObject, TellsIn, command_of}

-- ---- the command of a change
pub path_is : (job : WriteJob) (path : List NameId) → path_of (command_of job path) ≡ path
path_is (Write at bytes) path = refl
path_is (Cut len) path = refl
path_is (SetAttr key value) path = refl

pub whole_of : (job : WriteJob) (path : List NameId) → is_on_name (command_of job path) ≡ false
whole_of (Write at bytes) path = refl
whole_of (Cut len) path = refl
whole_of (SetAttr key value) path = refl

large_is : (job : WriteJob) (path : List NameId) → is_too_large job ≡ true → too_large (command_of job path) ≡ Some reply.TooLarge
large_is (Write at bytes) path e = rw e refl
large_is (Cut len) path e = absurd (cc e)
large_is (SetAttr key value) path e = absurd (cc e)

small_is : (job : WriteJob) (path : List NameId) → is_too_large job ≡ false → too_large (command_of job path) ≡ None
small_is (Write at bytes) path e = rw e refl
small_is (Cut len) path e = refl
small_is (SetAttr key value) path e = refl

not_for : (job : WriteJob) (path : List NameId) (what : What) → (is_of_bytes job && is_dir what) ≡ true → IsFor (command_of job path) what → ⊥
not_for (Write at bytes) path what e k = cc (e, k)
not_for (Cut len) path what e k = cc (e, k)
not_for (SetAttr key value) path what e k = cc e

-- the words name the change of the object
words_of : (job : WriteJob) (path : List NameId) (object : Entry) → too_large (command_of job path) ≡ None → (is_of_bytes job && is_dir object.what) ≡ false → is_empty job ≡ false
    → IsChangeOf (command_of job path) object (change_of object.gfid job)
words_of (Write at bytes) path object small file some = record { named = refl; locks = rw some refl; suits = file; fits = small }
words_of (Cut len) path object small file some = record { named = refl; locks = refl; suits = file; fits = small }
words_of (SetAttr key value) path object small file some = record { named = refl; locks = refl; suits = tt; fits = small }

-- ---- the transaction begins
-- what the register of free lines shows
unseen_is : (shape : Shape) (r : Register) → IsFree shape r → r.looked ≡ no_looks
unseen_is shape r (inl e) = ap (λ (x : Register). x.looked) e
unseen_is shape r (inr e) = ap (λ (x : Register). x.looked) e

begun_is : (shape : Shape) (r : Register) → IsFree shape r → r.begun ≡ None
begun_is shape r (inl e) = ap (λ (x : Register). x.begun) e
begun_is shape r (inr e) = ap (λ (x : Register). x.begun) e

pre_is : (shape : Shape) (r : Register) → IsFree shape r → r.pre ≡ []
pre_is shape r (inl e) = ap (λ (x : Register). x.pre) e
pre_is shape r (inr e) = ap (λ (x : Register). x.pre) e

done_is : (shape : Shape) (r : Register) → IsFree shape r → r.done ≡ []
done_is shape r (inl e) = ap (λ (x : Register). x.done) e
done_is shape r (inr e) = ap (λ (x : Register). x.done) e

post_is : (shape : Shape) (r : Register) → IsFree shape r → r.post ≡ []
post_is shape r (inl e) = ap (λ (x : Register). x.post) e
post_is shape r (inr e) = ap (λ (x : Register). x.post) e

module _ (p : Plan) (c : Command) (w : Walk) (lines : Work) (sound : IsWalk w) (shape : w.shape ≡ p.shape) (k : HasArrived p c w lines) where
  idle : AreIdle lines
  idle = record {
    unbegun = k.untouched.unbegun;
    no_pre = k.untouched.none_preparing;
    no_pre_did = k.untouched.none_prepared;
    no_apply = k.untouched.none_applying;
    no_apply_did = k.untouched.none_applied;
    no_post = k.untouched.none_posting;
    no_post_did = k.untouched.none_posted;
  }

  -- its first line finds a work that has touched nothing
  pub changes : (change : Change) → IsChangeOf c w.object change → ChangesObject p c w.object (starting change w.register) lines
  changes change words = record {
    words = words;
    led = record { led = k.goes.path ∙ ap (λ (n : ℕ). At n w.object) k.whole; unrefused = k.goes.unrefused };
    unread = k.goes.unread;
    tells = tells_first p lines (starting change w.register) (record {
      shape_is = shape_is w.shape w.register sound.free ∙ shape;
      stage_is = refl;
      nobody = refl;
      unseen = unseen_is w.shape w.register sound.free;
      first = begun_is w.shape w.register sound.free;
      no_pre = pre_is w.shape w.register sound.free;
      no_apply = done_is w.shape w.register sound.free;
      no_post = post_is w.shape w.register sound.free;
      unlocked = k.untouched.none_locked;
      idle = idle;
      looked = λ g apart seen b l. k.all g seen b l;
    });
    excused = excused_first lines k.untouched.none_locked idle;
    calm = calm_first lines idle;
    fitting = λ locked. absurd (cc (locked, k.untouched.object_unlocked (object_of change)));
  }

-- ---- where a walk leaves it
found : (p : Plan) (job : WriteJob) (w : Walk) (lines : Work) → IsWalk w → w.shape ≡ p.shape → HasArrived p (command_of job w.path) w lines → too_large (command_of job w.path) ≡ None
    → TellsIn p (command_of job w.path) (at_object w.object w.register job) w lines
found p job w lines sound shape k small = kind (is_of_bytes job && is_dir w.object.what) refl
  where
    c : Command
    c = command_of job w.path

    no_bytes : (job : WriteJob) → HasArrived p (command_of job w.path) w lines → too_large (command_of job w.path) ≡ None → (is_of_bytes job && is_dir w.object.what) ≡ false → is_empty job ≡ true → IsAnswered p (command_of job w.path) lines (reply.Ok good.Done)
    no_bytes (Write at bytes) k small file none = nothing p w.path at bytes w lines k small file none
    no_bytes (Cut len) k small file none = absurd (cc none)
    no_bytes (SetAttr key value) k small file none = absurd (cc none)

    bytes : (is_of_bytes job && is_dir w.object.what) ≡ false → (e : Bool) → is_empty job ≡ e → TellsIn p c (if e then Ending (reply.Ok good.Done) else Changing (starting (change_of w.object.gfid job) w.register)) w lines
    bytes file true e = no_bytes job k small file e
    bytes file false e = changes p c w lines sound shape k (change_of w.object.gfid job) (words_of job w.path w.object small file e)

    kind : (d : Bool) → (is_of_bytes job && is_dir w.object.what) ≡ d
        → TellsIn p c (if d then Ending reply.IsDir else (if is_empty job then Ending (reply.Ok good.Done) else Changing (starting (change_of w.object.gfid job) w.register))) w lines
    kind true e = directory p c w lines k small (whole_of job w.path) (not_for job w.path w.object.what e)
    kind false e = bytes e (is_empty job) refl

pub moved : (p : Plan) (job : WriteJob) (w : Walk) (lines : Work) → IsWalk w → too_large (command_of job w.path) ≡ None → WalkTells p (command_of job w.path) w lines → TellsIn p (command_of job w.path) (after_walk job w) w lines
moved p job w lines sound small k = go w.step refl
  where
    go : (step : WalkStep) → w.step ≡ step → TellsIn p (command_of job w.path) (after_step step job w) w lines
    go (walking.Looking s) e = record { named = refl; small = small; tells = k }
    go (walking.Naming b) e = record { named = refl; small = small; tells = k }
    go walking.Arrived e = found p job w lines sound k.shape (arrives p (command_of job w.path) w lines sound k e) small
    go (walking.Stopped why) e = stops p (command_of job w.path) w lines why k e small

-- no lines show a change that begins
pub begins : WriteBegins
begins p path job few some = record { shape = refl; stage = go (is_too_large job) refl }
  where
    w : Walk
    w = walk_from p.shape path

    go : (e : Bool) → is_too_large job ≡ e → TellsIn p (command_of job path) (if e then Ending reply.TooLarge else after_walk job w) w []
    go true e = large p (command_of job path) reply.TooLarge (large_is job path e)
    go false e = moved p job w [] (is_walk_from p.shape path few some) (small_is job path e) (walk_tells_first p (command_of job path) path (whole_of job path) (sym (path_is job path)))

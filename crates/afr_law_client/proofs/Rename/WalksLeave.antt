-- Where its walks leave a rename: on the way, with the locks of the new name next, or at its end.
use Rattle.std.proofs.Common.{◌≡◌, ℕ, ◌==◌, nat_le, Bool, true, false, [], length, refl, sym, ap, ◌∙◌, subst, arith, if◌then◌else◌}
use Rattle.std.proofs.lemmas.Bool.Decides.{nat_tests}
use Rattle.afr_base.specs.declared.ids.Gfid.{Gfid}
use Rattle.afr_base.specs.declared.ids.What.{What}
use Rattle.afr_base.specs.declared.ids.What.TheVariants.{File, Dir}
use Rattle.afr_lines.specs.Work.{Work}
use Rattle.afr_lines.specs.declared.reply.Reply.TheVariants as reply
use Rattle.afr_object.specs.Tables.{is_dir, object_of, root_entry}
use Rattle.afr_object.specs.declared.change.Change.{Change}
use Rattle.afr_plan.specs.declared.command.Command.TheVariants as command
use Rattle.afr_plan.specs.declared.plan.Plan.{Plan}
use Rattle.afr_model.specs.Parts.{names_asked, the_make}
use Rattle.afr_model.specs.Renamed.{AreLegs, since_name}
use Rattle.afr_model.specs.Showing.{At, has}
use Rattle.afr_model.specs.Skipped.{IsLooked, SkipsNothing}
use Rattle.afr_model.specs.Standing.{locks_any}
use Rattle.afr_model.proofs.Cut.Cut.{first_all}
use Rattle.afr_client_walk.specs.Looks.{no_look}
use Rattle.afr_client_walk.specs.Stops.{reply_of}
use Rattle.afr_client_walk.specs.declared.stop.Stop.{Stop}
use Rattle.afr_client_walk.specs.declared.stop.Stop.TheVariants as stop
use Rattle.afr_client_walk.specs.declared.walk.Walk.{Walk}
use Rattle.afr_client_walk.specs.declared.walk.WalkStep.{WalkStep}
use Rattle.afr_client_walk.specs.declared.walk.WalkStep.TheVariants as walking
use Rattle.afr_client_transaction.specs.Progress.{starting}
use Rattle.afr_client_entry.specs.Entry.{after_step, after_walk}
use Rattle.afr_client_entry.specs.Job.{change_of}
use Rattle.afr_client_entry.specs.declared.job.EntryJob.TheVariants.{Create}
use Rattle.afr_client_entry.specs.declared.stage.EntryStage.TheVariants.{Changing, Ending as EntryEnding}
use Rattle.afr_client_entry.specs.declared.stage.Found.TheVariants.{Unread}
use Rattle.afr_law_client.specs.Read.Lines.{LookedAll, OnlyReads}
use Rattle.afr_law_client.specs.Read.WalkLaws.{HasArrived}
use Rattle.afr_law_client.specs.Read.WalkTelling.{GoesOn, TellsAt}
use Rattle.afr_law_client.proofs.Read.Untouched.{touches_nothing}
use Rattle.afr_law_client.proofs.Read.Walking.{walk_tells_first}
use Rattle.afr_law_client.proofs.Read.WalksEnd.{arrives}
use Rattle.afr_law_client.proofs.Read.Ended.{skips_nothing}
use Rattle.afr_law_client.specs.Entry.EntryTelling as entry
use Rattle.afr_law_client.specs.Entry.EntryTelling.{HoldsName, TransactionGoes}
use Rattle.afr_law_client.proofs.Entry.Begins.{moved}
use Rattle.afr_client_entry.specs.Renames.Paths.{IsPaths, making_of}
use Rattle.afr_client_entry.specs.Renames.Rename.{after_first, after_second, first_left, second_left, unread}
use Rattle.afr_client_entry.specs.declared.renaming.paths.Paths.{Paths}
use Rattle.afr_client_entry.specs.declared.renaming.stage.RenameStage.TheVariants.{Making, Ending}
use Rattle.afr_law_client.specs.Rename.RenameTelling.{HasWalked, IsLeg, LegGoes, OnFirst, TellsIn, to_of, waiting}
use Rattle.afr_law_client.proofs.Rename.Cut.{none_again}
use Rattle.afr_law_client.proofs.Rename.WalkEnds.{first_directory, first_stopped, second_ended}
use Rattle.afr_law_client.proofs.Rename.Walks.{is_looked, leg_begins}
use Rattle.afr_law_client.proofs.Rename.WalksMore.{HasLed, Stands, is_stopped}

-- no walk stops half way of a rename
no_half : (why : Stop) → reply_of why ≡ reply.Half → ⊥
no_half stop.NoEntry e = cc e
no_half stop.NotDir e = cc e
no_half stop.IsDir e = cc e
no_half stop.NoQuorum e = cc e
no_half stop.FewCopies e = cc e
no_half (stop.SplitBrain views) e = cc e
no_half stop.Failed e = cc e

-- ---- where the second walk leaves it
-- what its lines show of the create is said of a create
abbrev pub AsCreate : Plan → Paths → Work → Type 0
AsCreate p x w = entry.TellsIn p (command.Create (to_of x)) (Create x.new_name) (after_walk (Create x.new_name) x.second) x.second w

module _ (p : Plan) (x : Paths) (lines : Work) (on : OnFirst p x lines) (only : OnlyReads p.shape.n (the_make x.first.path lines)) where
  abbrev make : Work
  make = the_make x.first.path lines

  abbrev dir : Gfid
  dir = x.second.object.gfid

  abbrev created : Change
  created = change_of dir (Create x.new_name)

  abbrev linked : Change
  linked = making_of x dir

  -- the making of a name for a new object and of one for a file lock the same, and look at the same
  goes : TransactionGoes p (starting created x.second.register) make → TransactionGoes p (starting linked x.second.register) make
  goes k = record {
    tells = record { shape_is = k.tells.shape_is; sets = k.tells.sets; alone = k.tells.alone; during = k.tells.during };
    excused = k.excused;
    calm = k.calm;
    fitting = λ locked. absurd (cc (locked, (touches_nothing p.shape.n make only).object_unlocked (object_of linked)));
  }

  holds : HoldsName created x.second.register make → HoldsName linked x.second.register make
  holds k = record { held = k.held; kept = k.kept }

  at_directory_is : LookedAll p.shape.n (since_name lines) → (d : Bool)
      → entry.TellsIn p (command.Create (to_of x)) (Create x.new_name) (if d then Changing (starting created x.second.register) (Unread (record { 0 = 0 })) else EntryEnding reply.NotDir) x.second make
      → TellsIn p (if d then Making (starting linked x.second.register) unread else Ending reply.NotDir) x lines
  at_directory_is since true t = record {
    on = on;
    last_leg = subst (λ (w : Work). IsLooked p.shape.n (since_name w)) (sym (first_all lines on.first)) (is_looked p.shape.n (since_name lines) since);
    leg = λ locked. absurd (cc (locked, (touches_nothing p.shape.n make only).object_unlocked dir));
    tells = record { place = t.place; directory = t.directory; unread = t.unread; name = t.name; on = (goes t.on.0, holds t.on.1) };
    holds = tt;
  }
  at_directory_is since false t = second_ended p x lines reply.NotDir on only since (λ h. cc h) t

  pub second_moved : IsLeg p.shape.n x.second.step x.second.object.gfid lines → AsCreate p x make → TellsIn p (after_second x) x lines
  second_moved leg t = go x.second.step refl t leg
    where
      go : (step : WalkStep) → x.second.step ≡ step → entry.TellsIn p (command.Create (to_of x)) (Create x.new_name) (after_step step (Create x.new_name) x.second) x.second make → IsLeg p.shape.n step x.second.object.gfid lines
          → TellsIn p (second_left step x) x lines
      go (walking.Looking s) e t own = record { on = on; tells = t; leg = leg }
      go (walking.Naming b) e t own = record { on = on; tells = t; leg = leg }
      go walking.Arrived e t own = at_directory_is own (is_dir x.second.object.what) t
      go (walking.Stopped why) e t own = second_ended p x lines (reply_of why) on only own (no_half why) t

-- ---- where the first walk leaves it
module _ (p : Plan) (x : Paths) (lines : Work) (paths : IsPaths x) (waits : x.second ≡ waiting p.shape x.second.path x.second.register) (k : Stands p x.first.path x.first x.dir lines) where
  -- the second walk begins
  begins_leg : since_name lines ≡ [] → IsLeg p.shape.n x.second.step x.second.object.gfid lines
  begins_leg fresh = subst (λ (w : Walk). IsLeg p.shape.n w.step w.object.gfid lines) (sym waits) (go (0 == length x.second.path))
    where
      go : (e : Bool) → IsLeg p.shape.n (if e then walking.Arrived else walking.Looking no_look) root_entry.gfid lines
      go true = subst (λ (w : Work). LookedAll p.shape.n w) (sym fresh) (λ g m b l. absurd (cc m))
      go false = subst (λ (w : Work). LegGoes p.shape.n root_entry.gfid no_look w) (sym fresh) (leg_begins p.shape.n root_entry.gfid)

  begins_second : entry.Walks p x.second []
  begins_second = subst (λ (w : Walk). entry.Walks p w []) (sym waits) (let t = walk_tells_first p (command.Ls x.second.path) x.second.path refl refl in record { tells = record { shape = refl; path = refl; whole = refl; step = t.step }; upto = refl })

  never_stops : (why : Stop) → x.second.step ≡ walking.Stopped why → ⊥
  never_stops why e = go (0 == length x.second.path) (sym (ap (λ (w : Walk). w.step) waits) ∙ e)
    where
      go : (t : Bool) → (if t then walking.Arrived else walking.Looking no_look) ≡ walking.Stopped why → ⊥
      go true e = cc e
      go false e = cc e

  begins_create : AsCreate p x (the_make x.first.path lines)
  begins_create = subst (λ (w : Work). AsCreate p x w) (sym k.alone) (moved p (Create x.new_name) x.second [] paths.second begins_second (λ why e. absurd (never_stops why e)))

  -- it has led to a file
  module _ (arrived : HasArrived p (command.Stat x.first.path) x.first lines) (file : is_dir x.first.object.what ≡ false) (led : HasLed p x.first.path x.first.object x.dir lines) (named : names_asked lines ≡ x.first.read) where
    file_is : (what : What) → is_dir what ≡ false → what ≡ File
    file_is File e = refl
    file_is Dir e = absurd (cc e)

    all_names : nat_le (length x.first.path) (names_asked lines) ≡ true
    all_names = let same = named in let whole = arrived.whole in grind (arith, nat_tests, same, whole)

    goes_on : GoesOn p (length x.first.path) (record { gfid = x.first.object.gfid; what = File }) lines
    goes_on =
        subst (λ (what : What). GoesOn p (length x.first.path) (record { gfid = x.first.object.gfid; what = what }) lines) (file_is x.first.object.what file)
        (subst (λ (n : ℕ). GoesOn p n x.first.object lines) arrived.whole arrived.goes)

    has_walked : HasWalked p x lines
    has_walked = let goes = subst (λ (w : Work). GoesOn p (length x.first.path) (record { gfid = x.first.object.gfid; what = File }) w) (sym k.whole) goes_on in record {
      all = all_names;
      goes = goes;
      found = goes.path;
      in_dir = led.in_dir;
      numbered = led.numbered;
      unlocked = subst (λ (w : Work). has locks_any w ≡ false) (sym k.whole) arrived.untouched.none_locked;
      walked = subst (λ (w : Work). SkipsNothing p (command.Stat x.first.path) w) (sym k.whole) (skips_nothing p (command.Stat x.first.path) lines arrived.goes.only arrived.all refl);
      legs = subst (λ (w : Work). AreLegs p.shape.n w) (sym (first_all lines (none_again lines arrived.untouched.none_locked))) k.legs;
    }

    file_found : TellsIn p (after_second x) x lines
    file_found = second_moved p x lines (record { walked = has_walked; first = none_again lines arrived.untouched.none_locked }) (subst (λ (w : Work). OnlyReads p.shape.n w) (sym k.alone) tt) (begins_leg led.fresh) begins_create

  pub first_moved : TellsIn p (after_first x) x lines
  first_moved = go x.first.step refl
    where
      since : (step : WalkStep) → x.first.step ≡ step → IsLeg p.shape.n step x.first.object.gfid lines
      since step e = subst (λ (s : WalkStep). IsLeg p.shape.n s x.first.object.gfid lines) e k.leg

      at_end : (d : Bool) → is_dir x.first.object.what ≡ d → x.first.step ≡ walking.Arrived → HasArrived p (command.Stat x.first.path) x.first lines → TellsIn p (if d then Ending reply.IsDir else after_second x) x lines
      at_end true dir e a = first_directory p x.first.path (to_of x) lines k.legs (since walking.Arrived e) k.whole k.alone x.first.object (a.goes.path ∙ ap (λ (n : ℕ). At n x.first.object) a.whole) dir a.goes.only a.all
      at_end false file e a = file_found a file (k.led e) (k.asked (ap is_stopped e))

      go : (step : WalkStep) → x.first.step ≡ step → TellsIn p (first_left step x) x lines
      go (walking.Looking s) e = record { tells = k.tells; asked = k.asked (ap is_stopped e); legs = k.legs; leg = k.leg; waits = waits }
      go (walking.Naming b) e = record { tells = k.tells; asked = k.asked (ap is_stopped e); legs = k.legs; leg = k.leg; waits = waits }
      go walking.Arrived e = at_end (is_dir x.first.object.what) refl e (arrives p (command.Stat x.first.path) x.first lines paths.first k.tells e)
      go (walking.Stopped why) e =
          first_stopped p x.first.path (to_of x) lines k.legs (since (walking.Stopped why) e) k.whole k.alone (reply_of why) (k.on why e) (no_half why)
          (subst (λ (s : WalkStep). TellsAt p (command.Stat x.first.path) s x.first.read x.first.object lines) e k.tells.step)

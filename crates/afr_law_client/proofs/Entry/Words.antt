-- What the words of a command on a name say.
use Rattle.std.proofs.Common.{◌≡◌, ℕ, ◌+◌, ◌-◌, nat_lt, Bool, true, false, List, [], ◌∷◌, ◌++◌, Option, Some, None, length, slice_get, refl, sym, ap, ◌∙◌, subst, arith, if◌then◌else◌}
use Rattle.std.proofs.Math.Seq.{get_or-append_seam}
use Rattle.std.proofs.lemmas.Bool.Decides.{nat_tests}
use Rattle.std.proofs.lemmas.List.{length-append}
use Rattle.std.proofs.lemmas.Option.{same_Some, slice_get-get_or}
use Rattle.afr_base.specs.declared.ids.Gfid.{Gfid}
use Rattle.afr_base.specs.declared.ids.Kind.TheVariants.{Names}
use Rattle.afr_base.specs.declared.ids.NameId.{NameId}
use Rattle.afr_base.specs.declared.ids.What.{What}
use Rattle.afr_base.specs.declared.ids.What.TheVariants.{File, Dir}
use Rattle.afr_base.proofs.TestLemmas.{not_below_itself}
use Rattle.afr_discipline.specs.Tests.{ends_low, fits_view}
use Rattle.afr_lines.specs.Areas.{area_for, kind_for}
use Rattle.afr_lines.specs.Work.{Work}
use Rattle.afr_lines.specs.declared.reply.Reply.{Reply}
use Rattle.afr_lines.specs.declared.reply.Reply.TheVariants as reply
use Rattle.afr_object.specs.Tables.{is_dir, is_file, object_of}
use Rattle.afr_object.specs.declared.entry.Entry.{Entry}
use Rattle.afr_object.specs.declared.entry.View.{View}
use Rattle.afr_plan.specs.declared.command.Command.{Command}
use Rattle.afr_plan.specs.declared.command.Command.TheVariants as command
use Rattle.afr_plan.specs.declared.plan.Plan.{Plan}
use Rattle.afr_model.specs.Answered.{IsAsked, answer, by_posts}
use Rattle.afr_model.specs.Commands.{area_on, change_named, is_on_name, is_rmdir, last_of, path_of, steps_of}
use Rattle.afr_model.specs.Refusals.{by_area, by_child, by_locks, by_name, by_path, in_directory, or_else, read_refused, refusal, too_large}
use Rattle.afr_model.specs.Showing.{Path, At, one_name, path_by}
use Rattle.afr_model.specs.Standing.{path_upto, place_by}
use Rattle.afr_client_transaction.specs.Progress.{numbered}
use Rattle.afr_client_entry.specs.Job.{change_of, name_of, reply_to, ruled_by}
use Rattle.afr_client_entry.specs.declared.job.EntryJob.{EntryJob}
use Rattle.afr_client_entry.specs.declared.job.EntryJob.TheVariants.{Create, Mkdir, Unlink, Rmdir}
use Rattle.afr_client_entry.specs.declared.refusal.Refusal.{Refusal}
use Rattle.afr_client_entry.proofs.AskedLemmas.{of_names}
use Rattle.afr_client_entry.specs.declared.refusal.Refusal.TheVariants as refusal_of
use Rattle.afr_law_client.specs.Entry.EntryTelling.{command_of}

-- ---- the path with the last name
pub longer : (path : List NameId) (name : NameId) → length (path ++ name ∷ []) ≡ length path + 1
longer path name = let e = length-append path (name ∷ []) in omega (arith, e)

pub one_less : (path : List NameId) (name : NameId) → length (path ++ name ∷ []) - 1 ≡ length path
one_less path name = let e = longer path name in omega (arith, e)

pub name_at : (path : List NameId) (name : NameId) → slice_get (path ++ name ∷ []) (length path) ≡ Some name
name_at path name =
    slice_get-get_or (path ++ name ∷ []) (length path) name (let e = longer path name in omega (arith, e))
    ∙ ap (λ (x : NameId). Some x) (get_or-append_seam path name [] name)

last_is : (path : List NameId) (name : NameId) → last_of (path ++ name ∷ []) ≡ Some name
last_is path name = subst (λ (n : ℕ). slice_get (path ++ name ∷ []) n ≡ Some name) (sym (one_less path name)) (name_at path name)

-- ---- the command
pub path_is : (job : EntryJob) (path : List NameId) → path_of (command_of job path) ≡ path ++ name_of job ∷ []
path_is (Create name) path = refl
path_is (Mkdir name) path = refl
path_is (Unlink name) path = refl
path_is (Rmdir name) path = refl

pub on_name : (job : EntryJob) (path : List NameId) → is_on_name (command_of job path) ≡ true
on_name (Create name) path = refl
on_name (Mkdir name) path = refl
on_name (Unlink name) path = refl
on_name (Rmdir name) path = refl

pub small_is : (job : EntryJob) (path : List NameId) → too_large (command_of job path) ≡ None
small_is (Create name) path = refl
small_is (Mkdir name) path = refl
small_is (Unlink name) path = refl
small_is (Rmdir name) path = refl

pub steps_are : (job : EntryJob) (path : List NameId) → steps_of (command_of job path) ≡ length path
steps_are (Create name) path = one_less path name
steps_are (Mkdir name) path = one_less path name
steps_are (Unlink name) path = one_less path name
steps_are (Rmdir name) path = one_less path name

pub area_is : (job : EntryJob) (path : List NameId) (g : Gfid) → area_on g (command_of job path) ≡ Some (area_for (change_of g job))
area_is (Create name) path g = rw (last_is path name) refl
area_is (Mkdir name) path g = rw (last_is path name) refl
area_is (Unlink name) path g = rw (last_is path name) refl
area_is (Rmdir name) path g = rw (last_is path name) refl

pub named_is : (job : EntryJob) (path : List NameId) (g : Gfid) (at : ℕ) → change_named g at (command_of job path) ≡ Some (numbered at (change_of g job))
named_is (Create name) path g at = rw (last_is path name) refl
named_is (Mkdir name) path g at = rw (last_is path name) refl
named_is (Unlink name) path g at = rw (last_is path name) refl
named_is (Rmdir name) path g at = rw (last_is path name) refl

pub answer_is : (p : Plan) (job : EntryJob) (path : List NameId) (w : Work) → answer p (command_of job path) w ≡ by_posts p.shape w
answer_is p (Create name) path w = refl
answer_is p (Mkdir name) path w = refl
answer_is p (Unlink name) path w = refl
answer_is p (Rmdir name) path w = refl

-- ---- the change
pub object_is : (g : Gfid) (job : EntryJob) → object_of (change_of g job) ≡ g
object_is g (Create name) = refl
object_is g (Mkdir name) = refl
object_is g (Unlink name) = refl
object_is g (Rmdir name) = refl

pub low_is : (g : Gfid) (job : EntryJob) → ends_low (change_of g job) ≡ true
low_is g (Create name) = refl
low_is g (Mkdir name) = refl
low_is g (Unlink name) = refl
low_is g (Rmdir name) = refl

pub dir_is : (what : What) → is_dir what ≡ true → what ≡ Dir
dir_is File e = absurd (cc e)
dir_is Dir e = refl

fits_dir : (g : Gfid) (job : EntryJob) (view : View) → view.what ≡ Dir → fits_view (Some view) (change_of g job) ≡ true
fits_dir g (Create name) view e = rw e refl
fits_dir g (Mkdir name) view e = rw e refl
fits_dir g (Unlink name) view e = rw e refl
fits_dir g (Rmdir name) view e = rw e refl

-- a view of a directory suits the change
pub suits_view : (g : Gfid) (job : EntryJob) (dir : Entry) (view : View) → is_dir dir.what ≡ true → view.what ≡ dir.what → fits_view (Some view) (change_of g job) ≡ true
suits_view g job dir view is same = fits_dir g job view (same ∙ dir_is dir.what is)

-- ---- where its path stands
pub place_upto : (p : Plan) (job : EntryJob) (path : List NameId) (w : Work) → place_by p (command_of job path) w ≡ path_upto (steps_of (command_of job path)) p w
place_upto p job path w = let on = on_name job path in rw on refl

-- at its directory it is refused by its locks, or else by its name
pub refused_there : (p : Plan) (job : EntryJob) (path : List NameId) (dir : Entry) (w : Work) → place_by p (command_of job path) w ≡ At (steps_of (command_of job path)) dir → is_dir dir.what ≡ true
    → refusal p (command_of job path) w
    ≡ or_else (read_refused w) (or_else (by_locks p.shape (kind_for (change_of dir.gfid job)) (area_for (change_of dir.gfid job)) w) (by_name p (command_of job path) dir (path_by p w) w))
refused_there p job path dir w place is =
    ap (λ (x : Option Reply). or_else x (or_else (read_refused w) (by_path p c (place_by p c w) w))) (small_is job path)
    ∙ ap (λ (x : Path). or_else (read_refused w) (by_path p c x w)) place
    ∙ ap (λ (x : Option Reply). or_else (read_refused w) x) there
  where
    c : Command
    c = command_of job path

    dir_there : in_directory p c dir w ≡ or_else (by_area p.shape Names (area_on dir.gfid c) w) (by_name p c dir (path_by p w) w)
    dir_there = let d = dir_is dir.what is in rw d refl

    locks : by_area p.shape Names (area_on dir.gfid c) w ≡ by_locks p.shape (kind_for (change_of dir.gfid job)) (area_for (change_of dir.gfid job)) w
    locks = rw (area_is job path dir.gfid, of_names dir.gfid job) refl

    there : by_path p c (At (steps_of c) dir) w ≡ or_else (by_locks p.shape (kind_for (change_of dir.gfid job)) (area_for (change_of dir.gfid job)) w) (by_name p c dir (path_by p w) w)
    there = at_end_is ∙ dir_there ∙ ap (λ (x : Option Reply). or_else x (by_name p c dir (path_by p w) w)) locks
      where
        at_end_is : by_path p c (At (steps_of c) dir) w ≡ in_directory p c dir w
        at_end_is = rw (not_below_itself (steps_of c), on_name job path) refl

-- ---- the last name
less_one : (path : List NameId) (name : NameId) → nat_lt (length (path ++ name ∷ []) - 1) (length (path ++ name ∷ [])) ≡ true
less_one path name = let e = longer path name in grind (arith, nat_tests, e)

not_past : (path : List NameId) (name : NameId) → nat_lt (length (path ++ name ∷ []) - 1 + 1) (length (path ++ name ∷ [])) ≡ false
not_past path name = let e = longer path name in grind (arith, nat_tests, e)

pub again : (path : List NameId) (name : NameId) → length (path ++ name ∷ []) - 1 + 1 ≡ length (path ++ name ∷ [])
again path name = let e = longer path name in omega (arith, e)

-- before it is read, it refuses nothing
pub unread_fits : (p : Plan) (job : EntryJob) (path : List NameId) (dir : Entry) (w : Work) → by_name p (command_of job path) dir (At (steps_of (command_of job path)) dir) w ≡ None
unread_fits p (Create name) path dir w = rw (less_one path name) refl
unread_fits p (Mkdir name) path dir w = rw (less_one path name) refl
unread_fits p (Unlink name) path dir w = rw (less_one path name) refl
unread_fits p (Rmdir name) path dir w = rw (less_one path name) refl

no_some : (t : Bool) (x : Refusal) → (if t then Some x else None) ≡ None → t ≡ false
no_some true x e = absurd (cc e)
no_some false x e = refl

-- what the job's rules pass, the name doesn't refuse
pub given_fits : (p : Plan) (job : EntryJob) (path : List NameId) (dir : Entry) (w : Work) (entry : Option Entry) → is_rmdir (command_of job path) ≡ false → ruled_by job entry ≡ None
    → by_name p (command_of job path) dir (one_name entry (At (steps_of (command_of job path)) dir)) w ≡ None
given_fits p (Create name) path dir w None plain e = refl
given_fits p (Create name) path dir w (Some entry) plain e = absurd (cc e)
given_fits p (Mkdir name) path dir w None plain e = refl
given_fits p (Mkdir name) path dir w (Some entry) plain e = absurd (cc e)
given_fits p (Unlink name) path dir w None plain e = absurd (cc e)
given_fits p (Unlink name) path dir w (Some entry) plain e = let file = no_some (is_dir entry.what) refusal_of.IsDir e in rw (not_past path name, file) refl
given_fits p (Rmdir name) path dir w entry plain e = absurd (cc plain)

-- what they rule out, the name refuses
pub given_refuses : (p : Plan) (job : EntryJob) (path : List NameId) (dir : Entry) (w : Work) (entry : Option Entry) (why : Refusal) → ruled_by job entry ≡ Some why
    → by_name p (command_of job path) dir (one_name entry (At (steps_of (command_of job path)) dir)) w ≡ Some (reply_to why)
given_refuses p (Create name) path dir w None why e = absurd (cc e)
given_refuses p (Create name) path dir w (Some entry) why e = rw (not_past path name) (ap (λ (x : Refusal). Some (reply_to x)) (same_Some refusal_of.Exists why e))
given_refuses p (Mkdir name) path dir w None why e = absurd (cc e)
given_refuses p (Mkdir name) path dir w (Some entry) why e = rw (not_past path name) (ap (λ (x : Refusal). Some (reply_to x)) (same_Some refusal_of.Exists why e))
given_refuses p (Unlink name) path dir w None why e = ap (λ (x : Refusal). Some (reply_to x)) (same_Some refusal_of.NoEntry why e)
given_refuses p (Unlink name) path dir w (Some entry) why e = rw (not_past path name) (go (is_dir entry.what) e)
  where
    go : (d : Bool) → (if d then Some refusal_of.IsDir else None) ≡ Some why → (if d then Some reply.IsDir else None) ≡ Some (reply_to why)
    go true e = ap (λ (x : Refusal). Some (reply_to x)) (same_Some refusal_of.IsDir why e)
    go false e = absurd (cc e)
given_refuses p (Rmdir name) path dir w None why e = ap (λ (x : Refusal). Some (reply_to x)) (same_Some refusal_of.NoEntry why e)
given_refuses p (Rmdir name) path dir w (Some entry) why e = rw (not_past path name) (go entry.what e)
  where
    go : (what : What) → (if is_dir what then None else Some refusal_of.NotDir) ≡ Some why → (if is_file what then Some reply.NotDir else by_child p (command.Rmdir (path ++ name ∷ [])) dir entry w) ≡ Some (reply_to why)
    go File e = ap (λ (x : Refusal). Some (reply_to x)) (same_Some refusal_of.NotDir why e)
    go Dir e = absurd (cc e)

-- that a read has failed is none of the rules
pub given_told : (job : EntryJob) (entry : Option Entry) → ruled_by job entry ≡ Some refusal_of.Failed → ⊥
given_told (Create name) None e = cc e
given_told (Create name) (Some entry) e = cc e
given_told (Mkdir name) None e = cc e
given_told (Mkdir name) (Some entry) e = cc e
given_told (Unlink name) None e = cc e
given_told (Unlink name) (Some entry) e = go (is_dir entry.what) e
  where
    go : (d : Bool) → (if d then Some refusal_of.IsDir else None) ≡ Some refusal_of.Failed → ⊥
    go true e = cc e
    go false e = cc e
given_told (Rmdir name) None e = cc e
given_told (Rmdir name) (Some entry) e = go (is_dir entry.what) e
  where
    go : (d : Bool) → (if d then None else Some refusal_of.NotDir) ≡ Some refusal_of.Failed → ⊥
    go true e = cc e
    go false e = cc e

-- the name was asked as the job needs it
pub asked_is : (p : Plan) (job : EntryJob) (path : List NameId) (dir : Entry) (w : Work) (entry : Option Entry) → is_rmdir (command_of job path) ≡ false → ruled_by job entry ≡ None
    → path_by p w ≡ one_name entry (At (steps_of (command_of job path)) dir) → IsAsked p (command_of job path) w
asked_is p (Create name) path dir w None plain e at = at
asked_is p (Create name) path dir w (Some entry) plain e at = absurd (cc e)
asked_is p (Mkdir name) path dir w None plain e at = at
asked_is p (Mkdir name) path dir w (Some entry) plain e at = absurd (cc e)
asked_is p (Unlink name) path dir w None plain e at = absurd (cc e)
asked_is p (Unlink name) path dir w (Some entry) plain e at = (entry, at ∙ ap (λ (n : ℕ). At n entry) (again path name))
asked_is p (Rmdir name) path dir w entry plain e at = absurd (cc plain)

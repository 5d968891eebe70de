-- What the lines of the second transaction say of the whole work of a rename.
use Rattle.std.proofs.Common.{◌≡◌, ℕ, ◌-◌, ◌||◌, ◌==◌, nat_le, Bool, true, false, List, [], ◌∷◌, ◌++◌, Some, None, length, refl, sym, ap, ◌∙◌, subst, if◌then◌else◌}
use Rattle.std.proofs.lemmas.Bool.{or_parts}
use Rattle.afr_base.specs.Bricks.{added, is_nothing, member}
use Rattle.afr_base.specs.Majority.{is_majority}
use Rattle.afr_base.specs.SetLemmas.{member_added}
use Rattle.afr_base.specs.declared.ids.ActorId.{ActorId}
use Rattle.afr_base.specs.declared.ids.Gfid.{Gfid}
use Rattle.afr_base.specs.declared.ids.Kind.{Kind}
use Rattle.afr_base.specs.declared.ids.NameId.{NameId}
use Rattle.afr_base.specs.declared.ids.What.{What}
use Rattle.afr_base.specs.declared.ids.What.TheVariants.{File}
use Rattle.afr_lines.specs.Log.{change_of}
use Rattle.afr_lines.specs.Work.{Work, work}
use Rattle.afr_lines.specs.declared.line.Line.{Line}
use Rattle.afr_lines.specs.declared.line.Line.TheVariants.{Ask, Begin}
use Rattle.afr_lines.specs.declared.line.Next.TheVariants as next
use Rattle.afr_lines.specs.declared.request.Request.TheVariants as request
use Rattle.afr_object.specs.Tables.{object_of}
use Rattle.afr_object.specs.declared.change.Change.{Change}
use Rattle.afr_object.specs.declared.change.Change.TheVariants.{Make}
use Rattle.afr_plan.specs.declared.plan.Plan.{Plan}
use Rattle.afr_model.specs.Blamed.{IsBlaming}
use Rattle.afr_model.specs.Kept.{IsKept, KeepsName}
use Rattle.afr_model.specs.Parts.{first_part, names_asked, second_part, the_make, the_removal, the_walk, upto_names}
use Rattle.afr_model.specs.Showing.{among, begins_attempt, has, locks, posted, posting}
use Rattle.afr_model.specs.Standing.{change_by}
use Rattle.afr_client_transaction.specs.Outcome.{reply_of}
use Rattle.afr_client_transaction.specs.Progress.{TransactionProgress, asks, next_at as next_change, numbered}
use Rattle.afr_client_transaction.specs.declared.stage.Stage.{Stage}
use Rattle.afr_client_transaction.specs.declared.stage.Stage.TheVariants.{Locking, Looking, Beginning, Preparing, Applying, Posting, Closing}
use Rattle.afr_law_client.specs.About.{BlamesNext}
use Rattle.afr_law_client.specs.Tells.{AreIdle, During}
use Rattle.afr_law_client.proofs.Small.{self}
use Rattle.afr_client_entry.specs.declared.stage.Found.{Found}
use Rattle.afr_client_entry.specs.declared.stage.Found.TheVariants.{Fits}
use Rattle.afr_model.proofs.Cut.Cut.{after_none, names_whole, parts_whole}
use Rattle.afr_model.proofs.Cut.Anew.{unbegun_change}
use Rattle.afr_law_client.proofs.Second.Folds.{blamed_whole}
use Rattle.afr_law_client.proofs.Write.Goes.{begun_stage}
use Rattle.afr_client_entry.specs.Renames.Paths.{making_of, reads_old}
use Rattle.afr_client_entry.specs.Renames.Rename.{IsRemoving}
use Rattle.afr_client_entry.specs.Renames.Under.{next_under}
use Rattle.afr_client_entry.specs.declared.renaming.paths.Paths.{Paths}
use Rattle.afr_law_client.specs.Rename.RenameTelling.{Removes}
use Rattle.afr_law_client.proofs.Rename.MakingBlames.{under_blames}
use Rattle.afr_law_client.proofs.Rename.MakingLocks.{begins_own}
use Rattle.afr_law_client.proofs.Rename.MakingParts.{among_front, changed_front, has_front, or_left, upto_behind}
use Rattle.afr_law_client.proofs.Rename.MakingWalked.{walk_untouched}
use Rattle.afr_law_client.proofs.Rename.RemovingBegins.{prefix_untouched}
use Rattle.afr_law_client.proofs.Rename.WalkEnds.{no_majority}

-- ---- before its attempt a part leaves the attempt before it
-- no Begin line gives no change
no_begin : (line : Line) → begins_attempt line ≡ false → change_of line ≡ None
no_begin (Begin a change) e = absurd (cc e)
no_begin line e = refl

-- nobody was asked for a post-op
added_some : (b : ℕ) (s : List ℕ) → added b s ≡ [] → ⊥
added_some b s e = let m = member_added b s b in let some = same b in cc (m, some)
  where
    same : (n : ℕ) → (n == n || member s n) ≡ true
    same n = or_left (n == n) (member s n) (self n)

no_post : (line : Line) (s : List ℕ) → begins_attempt line ≡ false → posting line s ≡ [] → (s ≡ []) × ((u : List ℕ) → posted line u ≡ u)
no_post (Begin a change) s e f = absurd (cc e)
no_post (Ask a b (request.Post attempt g kind missed) told took) s e f = absurd (added_some b.0 s f)
no_post line s e f = (f, λ u. refl)

posted_behind : (s u v : Work) → has begins_attempt s ≡ false → among posting (s ++ u) ≡ [] → among posted (s ++ v) ≡ among posted v
posted_behind [] u v e f = refl
posted_behind (x ∷ s) u v e f =
    let both = or_parts (begins_attempt x.0) (has begins_attempt s) e in
    let none = no_post x.0 (among posting (s ++ u)) both.0 f in
    none.1 (among posted (s ++ v)) ∙ posted_behind s u v both.1 none.0

module _ (p : Plan) (x : Paths) (t : TransactionProgress) (found : Found) (lines : Work) (k : Removes p x t found lines) where
  abbrev from : List NameId
  from = x.first.path

  abbrev second : Work
  second = second_part lines

  abbrev first : Work
  first = first_part lines

  abbrev removal : Work
  removal = the_removal from lines

  pub second_begins : has begins_attempt removal ≡ has begins_attempt second
  second_begins = has_front begins_attempt second (upto_names (length from - 1) lines) (prefix_untouched p x lines k.walked).unbegun

  -- ---- who is accused
  over : (attempt : ℕ) (kind : Kind) (missed : List ℕ) (b : ℕ) → has begins_attempt removal ≡ true → has (locks (object_of t.change)) removal ≡ true → IsBlaming p attempt (object_of t.change) kind missed b removal → IsBlaming p attempt (object_of t.change) kind missed b lines
  over attempt kind missed b begins locked blamed =
      let free = prefix_untouched p x lines k.walked in
      subst (λ (w : Work). IsBlaming p attempt (object_of t.change) kind missed b w) (parts_whole lines)
      (blamed_whole p attempt (object_of t.change) kind missed b second (upto_names (length from - 1) lines) first (sym second_begins ∙ begins)
      (sym (has_front (locks (object_of t.change)) second (upto_names (length from - 1) lines) (free.object_unlocked (object_of t.change))) ∙ locked) free.none_locked k.locked blamed)

  pub removing_blames : (at : ℕ) → IsRemoving x t found → BlamesNext p lines (next_under found at (reads_old x) t)
  removing_blames at sound = under_blames p removal lines t at (reads_old x) found over sound.under.sound (λ b. tt) k.tells.on

  -- ---- the making, by all lines
  asked_first : nat_le (length from) (names_asked first) ≡ true
  asked_first = go (nat_le (length from) (names_asked first)) refl
    where
      go : (b : Bool) → nat_le (length from) (names_asked first) ≡ b → b ≡ true
      go true e = refl
      go false e = absurd (no_majority p.shape.n (subst (λ (w : Work). is_majority p.shape.n (among posted w) ≡ true) (after_none (length from) first e) k.made))

  walk_first : upto_names (length from) first ≡ the_walk from lines
  walk_first = sym (upto_behind (length from) second first asked_first) ∙ ap (upto_names (length from)) (parts_whole lines)

  make_first : the_make from lines ++ the_walk from lines ≡ first
  make_first = ap (λ (w : Work). the_make from lines ++ w) (sym walk_first) ∙ names_whole (length from) first

  posted_first : among posted first ≡ among posted (the_make from lines)
  posted_first = ap (among posted) (sym make_first) ∙ among_front posted (the_make from lines) (the_walk from lines) (walk_untouched p x lines k.walked).none_posted

  changed_first : change_by first ≡ Some (making_of x x.second.object.gfid)
  changed_first = ap change_by (sym make_first) ∙ changed_front (the_make from lines) (the_walk from lines) (making_of x x.second.object.gfid) k.change

  -- before its own attempt the second transaction leaves that of the first
  pub posted_all : AreIdle removal → among posted lines ≡ among posted (the_make from lines)
  posted_all idle =
      ap (among posted) (sym (parts_whole lines))
      ∙ posted_behind second (upto_names (length from - 1) lines) first (sym second_begins ∙ idle.unbegun) idle.no_post
      ∙ posted_first

  pub changed_all : AreIdle removal → change_by lines ≡ Some (making_of x x.second.object.gfid)
  changed_all idle = ap change_by (sym (parts_whole lines)) ∙ unbegun_change second first (sym second_begins ∙ idle.unbegun) ∙ changed_first

-- ---- the old name is given up once the new one stands
-- the change of a Begin line
pub begun_is : (stage : Stage) (at : ℕ) (t : TransactionProgress) (change : Change) → next_change stage at t ≡ next.Begin change → numbered at t.change ≡ change
begun_is Locking at t change e = absurd (cc e)
begun_is Looking at t change e = absurd (cc e)
begun_is Beginning at t change e = cc e
begun_is Preparing at t change e = absurd (cc e)
begun_is Applying at t change e = absurd (cc e)
begun_is Posting at t change e = absurd (cc e)
begun_is Closing at t change e = absurd (go (is_nothing t.register.held) e)
  where
    go : (b : Bool) → (if b then next.End (reply_of t.change t.register) else asks Closing t) ≡ next.Begin change → ⊥
    go true e = cc e
    go false e = cc e

-- what made the object is the making
made_file : (d e g h : Gfid) (n m : NameId) (made : What) → Some (Make d n g made) ≡ Some (Make e m h File) → g ≡ h
made_file d e g h n m made same = cc same

keeps_fits : (p : Plan) (x : Paths) (t : TransactionProgress) (lines : Work) → Removes p x t Fits lines → t.stage ≡ Beginning → (d : Gfid) (n : NameId) (g : Gfid) (made : What) → change_by lines ≡ Some (Make d n g made) → KeepsName p g lines
keeps_fits p x t lines k begins d n g made changed =
    let idle = (subst (λ (stage : Stage). During stage p.shape t (the_removal x.first.path lines)) begins k.tells.on.tells.during).idle in
    record {
      closed = subst (λ (s : List ℕ). is_majority p.shape.n s ≡ true) (sym (posted_all p x t Fits lines k idle)) k.made;
      entry = record { gfid = x.first.object.gfid; what = File };
      read = k.last;
      same = sym (made_file d x.second.object.gfid g x.first.object.gfid n x.new_name made (sym changed ∙ changed_all p x t Fits lines k idle));
    }

pub removing_keeps : (p : Plan) (x : Paths) (t : TransactionProgress) (found : Found) (log : List Line) (a : ActorId) (change : Change) → Removes p x t found (work a.0 log) → IsRemoving x t found → next_under found (length log) (reads_old x) t ≡ next.Begin change → IsKept p (Begin a change) log
removing_keeps p x t found log a change k sound e =
    let own = begins_own found p (length log) (reads_old x) t (the_removal x.first.path (work a.0 log)) change k.tells.on e in
    let begins = begun_stage t.stage (length log) t change own.1 in
    subst (λ (c : Change). IsKept p (Begin a c) log) (ap (numbered (length log)) (sym sound.under.of) ∙ begun_is t.stage (length log) t change own.1)
    (λ d n g made changed. keeps_fits p x t (work a.0 log) (subst (λ (y : Found). Removes p x t y (work a.0 log)) own.0 k) begins d n g made changed)

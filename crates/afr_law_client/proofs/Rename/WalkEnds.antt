-- What a rename has ended with whose walks have stopped, or led to what can't be renamed.
use Rattle.std.proofs.Common.{◌≡◌, ◌⊎◌, ℕ, ◌<◌, ◌==◌, nat_le, Bool, true, false, List, [], ◌∷◌, Option, Some, length, refl, sym, ap, ◌∙◌, subst, arith, if◌then◌else◌, inl, inr}
use Rattle.std.proofs.lemmas.Option.{same_Some}
use Rattle.afr_base.specs.Majority.{is_majority}
use Rattle.afr_base.specs.SetLemmas.{majority_some}
use Rattle.afr_base.specs.declared.ids.NameId.{NameId}
use Rattle.afr_base.specs.declared.ids.What.TheVariants.{File}
use Rattle.afr_base.proofs.TestLemmas.{same_number, other_number}
use Rattle.afr_lines.specs.Work.{Work}
use Rattle.afr_lines.specs.declared.reply.Reply.{Reply}
use Rattle.afr_lines.specs.declared.reply.Reply.TheVariants as reply
use Rattle.afr_object.specs.Tables.{is_dir}
use Rattle.afr_object.specs.declared.entry.Entry.{Entry}
use Rattle.afr_plan.specs.declared.command.Command.{Command}
use Rattle.afr_plan.specs.declared.command.Command.TheVariants as command
use Rattle.afr_plan.specs.declared.plan.Plan.{Plan}
use Rattle.afr_model.specs.Answered.{Answers, IsAnswered, IsCaused, Refuses, Stats, is_by_views}
use Rattle.afr_model.specs.Parts.{after_names, first_part, names_asked, the_make, the_walk, upto_names}
use Rattle.afr_model.specs.Refusals.{refusal}
use Rattle.afr_model.specs.Renamed.{AreLegs, AsksAllOf, IsRenamed, asked_lines, asks_at, by_halves, or_halves, refusal_at, rename_refusal, since_name}
use Rattle.afr_model.specs.Showing.{Path, At, NoName, Untold, among, begins_attempt, has, is_faulted, path_by, posted, refuses_read}
use Rattle.afr_model.specs.Skipped.{IsLooked, SkipsNothing}
use Rattle.afr_model.proofs.Cut.Cut.{first_all}
use Rattle.afr_law_client.specs.Read.Lines.{LookedAll, OnlyReads}
use Rattle.afr_law_client.specs.Read.WalkTelling.{Stops}
use Rattle.afr_law_client.proofs.Read.Ended.{refusal_here, skips_nothing}
use Rattle.afr_law_client.proofs.Read.Quiet.{begins_none}
use Rattle.afr_law_client.proofs.Read.Untouched.{touches_nothing}
use Rattle.afr_law_client.proofs.Entry.Begins.{IsOnWay}
use Rattle.afr_client_entry.specs.declared.renaming.paths.Paths.{Paths}
use Rattle.afr_law_client.specs.Rename.RenameTelling.{OnFirst, to_of}
use Rattle.afr_law_client.proofs.Rename.Cut.{has_after, none_again}
use Rattle.afr_law_client.proofs.Rename.Walks.{is_looked}

-- nobody is no majority
pub no_majority : (n : ℕ) → is_majority n [] ≡ true → ⊥
no_majority n h = let e = majority_some n [] h in cc e

-- ---- nothing was skipped
-- where nothing was asked
pub nothing_skipped : (p : Plan) (path : List NameId) → SkipsNothing p (command.Create path) []
nothing_skipped p path = record {
  looked = λ g m unlocked b l. absurd (cc m);
  locked = λ area part m. absurd (cc m);
  child = λ h read dir child name place path is_dir area. absurd (cc h);
  carried = λ change e. absurd (cc e);
}

-- lines that only look and read, before a name and after it
pub only_whole : (n k : ℕ) (w : Work) → OnlyReads n (upto_names k w) → OnlyReads n (after_names k w) → OnlyReads n w
only_whole n k [] h g = tt
only_whole n k (x ∷ w) h g = go (nat_le k (names_asked w)) (λ a b. only_whole n k w a b) h g
  where
    go : (t : Bool) → (OnlyReads n (upto_names k w) → OnlyReads n (after_names k w) → OnlyReads n w) → OnlyReads n (if t then upto_names k w else x ∷ w) → OnlyReads n (if t then x ∷ after_names k w else []) → OnlyReads n (x ∷ w)
    go true rest h g = (g.0, rest h g.1)
    go false rest h g = h

-- ---- where the first path stands
module _ (p : Plan) (from to : List NameId) (w : Work) where
  -- before its end the walk refuses the rename
  on_way_refusal : (path : Path) → IsOnWay (length from) path → refusal_at path p from to w ≡ refusal p (command.Stat from) (the_walk from w)
  on_way_refusal (At read object) on = let other = other_number read (length from) (on read object refl) in rw other refl
  on_way_refusal NoName on = refl
  on_way_refusal Untold on = refl

  on_way_asks : (path : Path) → IsOnWay (length from) path → asks_at path from to ≡ command.Stat from
  on_way_asks (At read object) on = let other = other_number read (length from) (on read object refl) in rw other refl
  on_way_asks NoName on = refl
  on_way_asks Untold on = refl

  on_way_lines : (path : Path) → IsOnWay (length from) path → asked_lines path from w ≡ the_walk from w
  on_way_lines (At read object) on = let other = other_number read (length from) (on read object refl) in rw other refl
  on_way_lines NoName on = refl
  on_way_lines Untold on = refl

  -- at its end a directory does
  directory_refusal : (object : Entry) → is_dir object.what ≡ true → refusal_at (At (length from) object) p from to w ≡ Some reply.IsDir
  directory_refusal object dir = rw (same_number (length from), dir) refl

  -- and for a file the second path
  pub file_refusal : (object : Entry) → is_dir object.what ≡ false → refusal_at (At (length from) object) p from to w ≡ refusal p (command.Create to) (the_make from w)
  file_refusal object file = rw (same_number (length from), file) refl

  pub file_asks : (object : Entry) → asks_at (At (length from) object) from to ≡ command.Create to
  file_asks object = rw (same_number (length from)) refl

  pub file_lines : (object : Entry) → asked_lines (At (length from) object) from w ≡ the_make from w
  file_lines object = rw (same_number (length from)) refl

-- ---- a rename that has asked nothing but looks and names
-- what refuses it is its reply
module _ (p : Plan) (from to : List NameId) (w : Work) (only : OnlyReads p.shape.n w) (legs : AreLegs p.shape.n w) (since : LookedAll p.shape.n (since_name w)) where
  first_is : first_part w ≡ w
  first_is = first_all w (none_again w (touches_nothing p.shape.n w only).none_locked)

  pub refused : (said : Reply) → rename_refusal p from to w ≡ Some said → (is_by_views said ≡ true → AsksAllOf p (asks_at (path_by p (the_walk from w)) from to) (asked_lines (path_by p (the_walk from w)) from w))
      → (said ≡ reply.Failed → has refuses_read w ≡ true) → (said ≡ reply.Half → ⊥) → SkipsNothing p (command.Stat from) (the_walk from w) → SkipsNothing p (command.Create to) (the_make from w)
      → among posted (the_make from w) ≡ [] → IsRenamed p from to w said
  refused said e asked failed other walked made unposted = record {
    caused = ap (λ (x : Option Reply). or_halves x (by_halves p from w)) e;
    asked = λ refusing f views. asked (subst (λ (x : Reply). is_by_views x ≡ true) (sym (same_Some said refusing (sym e ∙ f))) views);
    failed = λ h. inr (subst (λ (x : Work). has refuses_read x ≡ true) (sym first_is) (failed h));
    halved = λ h. absurd (other h);
    undisturbed = λ h calm. absurd (cc (h, begins_none p.shape.n w only));
    legs = subst (λ (x : Work). AreLegs p.shape.n x) (sym first_is) legs;
    last_leg = subst (λ (x : Work). IsLooked p.shape.n (since_name x)) (sym first_is) (is_looked p.shape.n (since_name w) since);
    walked = walked;
    made = made;
    looked_for = λ h. absurd (no_majority p.shape.n (subst (λ (s : List ℕ). is_majority p.shape.n s ≡ true) unposted h));
  }

-- ---- where the first walk ends
module _ (p : Plan) (from to : List NameId) (w : Work) (legs : AreLegs p.shape.n w) (since : LookedAll p.shape.n (since_name w)) (whole : the_walk from w ≡ w) (alone : the_make from w ≡ []) where
  made : SkipsNothing p (command.Create to) (the_make from w)
  made = subst (λ (x : Work). SkipsNothing p (command.Create to) x) (sym alone) (nothing_skipped p to)

  walked : OnlyReads p.shape.n w → LookedAll p.shape.n w → SkipsNothing p (command.Stat from) (the_walk from w)
  walked only all = subst (λ (x : Work). SkipsNothing p (command.Stat from) x) (sym whole) (skips_nothing p (command.Stat from) w only all refl)

  -- it has stopped
  pub first_stopped : (said : Reply) → IsOnWay (length from) (path_by p w) → (said ≡ reply.Half → ⊥) → Stops p (command.Stat from) w said → IsRenamed p from to w said
  first_stopped said on other k =
      refused p from to w k.only legs since said
      (on_way_refusal p from to w (path_by p (the_walk from w)) there ∙ ap (λ (x : Work). refusal p (command.Stat from) x) whole ∙ refusal_here p (command.Stat from) w refl refl ∙ k.cause)
      (λ views. subst (λ (x : Command). AsksAllOf p x (asked_lines (path_by p (the_walk from w)) from w)) (sym (on_way_asks p from to w (path_by p (the_walk from w)) there))
      (subst (λ (x : Work). AsksAllOf p (command.Stat from) x) (sym (on_way_lines p from to w (path_by p (the_walk from w)) there ∙ whole)) (k.asked views)))
      k.failed other (walked k.only k.all) made (ap (λ (x : Work). among posted x) alone)
    where
      there : IsOnWay (length from) (path_by p (the_walk from w))
      there = subst (λ (x : Work). IsOnWay (length from) (path_by p x)) (sym whole) on

  -- it has led to a directory
  pub first_directory : (object : Entry) → path_by p w ≡ At (length from) object → is_dir object.what ≡ true → OnlyReads p.shape.n w → LookedAll p.shape.n w → IsRenamed p from to w reply.IsDir
  first_directory object led dir only all =
      refused p from to w only legs since reply.IsDir (ap (λ (x : Path). refusal_at x p from to w) (ap (λ (x : Work). path_by p x) whole ∙ led) ∙ directory_refusal p from to w object dir) (λ h. absurd (cc h)) (λ h. absurd (cc h)) (λ h. cc h)
      (walked only all) made (ap (λ (x : Work). among posted x) alone)

-- ---- where the second walk ends
-- a create that has begun nothing is answered by what refuses it
refused_create : (p : Plan) (to : List NameId) (w : Work) (said : Reply) → has begins_attempt w ≡ false → IsCaused p (command.Create to) w said → refusal p (command.Create to) w ≡ Some said
refused_create p to w said unbegun (Refuses e) = e
refused_create p to w said unbegun (Answers none object place e) = let f = rw unbegun at e in absurd (cc f)
refused_create p to w said unbegun (Stats none path same object place stat) = absurd (cc same)

-- so the second walk's command ends the rename
pub second_ended : (p : Plan) (x : Paths) (lines : Work) (said : Reply) → OnFirst p x lines → OnlyReads p.shape.n (the_make x.first.path lines) → LookedAll p.shape.n (since_name lines) → (said ≡ reply.Half → ⊥)
    → IsAnswered p (command.Create (to_of x)) (the_make x.first.path lines) said → IsRenamed p x.first.path (to_of x) lines said
second_ended p x lines said on only since other k =
    refused p from to lines whole (subst (λ (w : Work). AreLegs p.shape.n w) first_same on.walked.legs) since said
    (ap (λ (path : Path). refusal_at path p from to lines) on.walked.found ∙ file_refusal p from to lines file refl ∙ refused_create p to (the_make from lines) said unbegun k.caused)
    (λ views. subst (λ (path : Path). AsksAllOf p (asks_at path from to) (asked_lines path from lines)) (sym on.walked.found)
    (subst (λ (c : Command). AsksAllOf p c (asked_lines (At (length from) file) from lines)) (sym (file_asks p from to lines file)) (subst (λ (w : Work). AsksAllOf p (command.Create to) w) (sym (file_lines p from to lines file)) (k.asked views))))
    failed other on.walked.walked k.whole (touches_nothing p.shape.n (the_make from lines) only).none_posted
  where
    from : List NameId
    from = x.first.path

    to : List NameId
    to = to_of x

    file : Entry
    file = record { gfid = x.first.object.gfid; what = File }

    first_same : first_part lines ≡ lines
    first_same = first_all lines on.first

    unbegun : has begins_attempt (the_make from lines) ≡ false
    unbegun = begins_none p.shape.n (the_make from lines) only

    whole : OnlyReads p.shape.n lines
    whole = only_whole p.shape.n (length from) lines on.walked.goes.only (subst (λ (w : Work). OnlyReads p.shape.n (after_names (length from) w)) first_same only)

    failed : said ≡ reply.Failed → has refuses_read lines ≡ true
    failed h = go (k.failed h)
      where
        go : (has begins_attempt (the_make from lines) ≡ true) × (is_faulted (the_make from lines) ≡ true) ⊎ (has refuses_read (the_make from lines) ≡ true) → has refuses_read lines ≡ true
        go (inl b) = absurd (cc (b.0, unbegun))
        go (inr r) = subst (λ (w : Work). has refuses_read w ≡ true) first_same (has_after refuses_read (length from) (first_part lines) r)

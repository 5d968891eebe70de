-- A rename that ends after its second transaction: the old name is removed, or the rename stays half.
use Rattle.std.proofs.Common.{◌≡◌, ◌⊎◌, ℕ, ◌-◌, ◌<◌, ◌||◌, Bool, true, false, List, [], ◌∷◌, Option, Some, None, length, refl, sym, ap, ◌∙◌, subst, if◌then◌else◌, inl, inr}
use Rattle.afr_base.specs.Bricks.{member}
use Rattle.afr_base.specs.Majority.{is_majority}
use Rattle.afr_base.specs.declared.ids.Gfid.{Gfid}
use Rattle.afr_base.specs.declared.ids.Kind.TheVariants.{Names}
use Rattle.afr_base.specs.declared.ids.NameId.{NameId}
use Rattle.afr_base.specs.declared.ids.Shape.{Shape}
use Rattle.afr_base.specs.declared.ids.What.TheVariants.{File}
use Rattle.afr_discipline.specs.Tests.{ends_low}
use Rattle.afr_lines.specs.Areas.{area_for, kind_for}
use Rattle.afr_lines.specs.Work.{Work}
use Rattle.afr_lines.specs.declared.line.Line.{Line}
use Rattle.afr_lines.specs.declared.line.Line.TheVariants.{Ask}
use Rattle.afr_lines.specs.declared.line.Next.TheVariants as next
use Rattle.afr_lines.specs.declared.reply.Good.TheVariants as good
use Rattle.afr_lines.specs.declared.reply.Reply.{Reply}
use Rattle.afr_lines.specs.declared.reply.Reply.TheVariants as reply
use Rattle.afr_lines.specs.declared.request.Area.{Area}
use Rattle.afr_lines.specs.declared.request.Request.{Request}
use Rattle.afr_lines.specs.declared.request.Request.TheVariants as request
use Rattle.afr_object.specs.Tables.{object_of}
use Rattle.afr_object.specs.declared.change.Change.{Change}
use Rattle.afr_object.specs.declared.entry.Entry.{Entry}
use Rattle.afr_plan.specs.declared.command.Command.TheVariants as command
use Rattle.afr_plan.specs.declared.plan.Plan.{Plan}
use Rattle.afr_model.specs.Answered.{by_posts}
use Rattle.afr_model.specs.Parts.{first_part, second_part, the_make, the_removal, upto_names}
use Rattle.afr_model.specs.Refusals.{by_area, by_locks, or_else}
use Rattle.afr_model.specs.Renamed.{ByFault as HalfByFault, ByName as HalfByName, ByViews as HalfByViews, HasFound, IsHalved, IsRenamed, StillLeads, by_halves, is_some_reply, old_area, or_halves, rename_reply}
use Rattle.afr_model.specs.Showing.{Path, At, among, begins_attempt, has, is_faulted, looked_by, posted, refuses_read, root_entry, tells_fault}
use Rattle.afr_model.specs.Skipped.{SkipsNothing}
use Rattle.afr_model.specs.Standing.{area_here, asking, change_by}
use Rattle.afr_client_transaction.specs.Outcome.{outcome_of, reply_for, reply_of}
use Rattle.afr_client_transaction.specs.Progress.{TransactionProgress, is_beginning, is_over, next_at as next_change}
use Rattle.afr_client_transaction.specs.declared.reply.TransactionOutcome.{TransactionOutcome}
use Rattle.afr_client_transaction.specs.declared.reply.TransactionOutcome.TheVariants as outcome
use Rattle.afr_client_transaction.specs.declared.stage.Stage.{Stage}
use Rattle.afr_client_transaction.specs.declared.stage.Stage.TheVariants.{Closing}
use Rattle.afr_client_transaction.proofs.Acknowledged.{acknowledged_exactly}
use Rattle.afr_law_client.specs.About.{IsFitting}
use Rattle.afr_law_client.specs.Tells.{During}
use Rattle.afr_law_client.proofs.GivenUpLemmas.{given_up_ends}
use Rattle.afr_law_client.proofs.Over.{asks_all_for_locks, failed_by_brick, replies_exactly, skips_none, undisturbed_is_done}
use Rattle.afr_law_client.proofs.Small.{no_change, self}
use Rattle.afr_client_entry.specs.Job.{reply_to}
use Rattle.afr_client_entry.specs.declared.stage.Found.{Found}
use Rattle.afr_client_entry.specs.declared.stage.Found.TheVariants.{Unread, Fits, Refused}
use Rattle.afr_law_client.specs.Entry.EntryTelling.{OnChange, TransactionGoes}
use Rattle.afr_law_client.proofs.Entry.Ended.{was_locked}
use Rattle.afr_client_entry.specs.Renames.Against.{half_reply, is_acknowledged, is_same}
use Rattle.afr_client_entry.specs.Renames.Paths.{IsPaths, making_of, reads_old, removal_of}
use Rattle.afr_client_entry.specs.Renames.Rename.{IsRemoving, removing_next}
use Rattle.afr_client_entry.specs.Renames.Under.{next_under}
use Rattle.afr_client_entry.specs.declared.renaming.paths.Paths.{Paths}
use Rattle.afr_client_entry.proofs.Renames.RenameLemmas.{acknowledged_is}
use Rattle.afr_model.proofs.Cut.Cut.{parts_whole}
use Rattle.afr_law_client.specs.Rename.RenameTelling.{ByFault, ByNothing, ByOther, LedElsewhere, OldTells, Removes, old_dir, to_of}
use Rattle.afr_law_client.proofs.Rename.EndsMaking.{ends_over, refusal_is}
use Rattle.afr_law_client.proofs.Rename.MakingParts.{fault_in, fault_more, fault_own, has_front}
use Rattle.afr_law_client.proofs.Rename.RemovingBegins.{prefix_unrefused, prefix_untouched}
use Rattle.afr_law_client.proofs.Rename.RemovingTurn.{over_closing}
use Rattle.afr_law_client.proofs.Rename.RemovingWhole.{second_begins}

-- ---- replies
half_not_failed : (o : TransactionOutcome) → half_reply o ≡ reply.Failed → ⊥
half_not_failed o e = go (is_acknowledged o) e
  where
    go : (b : Bool) → (if b then reply.Ok good.Done else reply.Half) ≡ reply.Failed → ⊥
    go true f = cc f
    go false f = cc f

half_unacknowledged : (o : TransactionOutcome) → half_reply o ≡ reply.Half → is_acknowledged o ≡ false
half_unacknowledged o e = go (is_acknowledged o) refl e
  where
    go : (b : Bool) → is_acknowledged o ≡ b → (if b then reply.Ok good.Done else reply.Half) ≡ reply.Half → b ≡ false
    go true f h = absurd (cc h)
    go false f h = refl

done_acknowledged : (o : TransactionOutcome) → reply_for o ≡ reply.Ok good.Done → is_acknowledged o ≡ true
done_acknowledged outcome.Acknowledged e = refl
done_acknowledged outcome.NoQuorum e = absurd (cc e)
done_acknowledged outcome.FewCopies e = absurd (cc e)
done_acknowledged (outcome.SplitBrain views) e = absurd (cc e)
done_acknowledged outcome.Failed e = absurd (cc e)

-- a refused read was told a fault
read_fault : (line : Line) → refuses_read line ≡ true → tells_fault line ≡ true
read_fault (Ask a b (request.ReadName g name) told took) e = e
read_fault (Ask a b (request.List g) told took) e = e
read_fault (Ask a b (request.ReadBytes g at len) told took) e = e
read_fault (Ask a b (request.ReadAttr g key) told took) e = e
read_fault line e = absurd (cc e)

reads_fault : (w : Work) → has refuses_read w ≡ true → has tells_fault w ≡ true
reads_fault [] e = absurd (cc e)
reads_fault (x ∷ w) e = go (refuses_read x.0) refl (tells_fault x.0) refl (λ f. reads_fault w f) e
  where
    go : (r : Bool) → refuses_read x.0 ≡ r → (f : Bool) → tells_fault x.0 ≡ f → (has refuses_read w ≡ true → has tells_fault w ≡ true) → (r || has refuses_read w) ≡ true → (f || has tells_fault w) ≡ true
    go r g true h rest e = refl
    go true g false h rest e = let i = read_fault x.0 g in absurd (cc (h, i))
    go false g false h rest e = rest e

-- an attempt was begun where there is a change
some_change : (w : Work) (c : Change) → change_by w ≡ Some c → has begins_attempt w ≡ true
some_change w c e = go (has begins_attempt w) refl
  where
    go : (b : Bool) → has begins_attempt w ≡ b → b ≡ true
    go true f = refl
    go false f = let none = no_change w f in absurd (cc (none, e))

-- where a path stands
abbrev object_in : Path → Entry
object_in (At read object) = object
object_in other = root_entry

module _ (p : Plan) (x : Paths) (paths : IsPaths x) (t : TransactionProgress) (found : Found) (lines : Work) (k : Removes p x t found lines) (sound : IsRemoving x t found) (over : is_over t.stage t ≡ true) where
  abbrev from : List NameId
  from = x.first.path

  abbrev make : Work
  make = the_make from lines

  abbrev removal : Work
  removal = the_removal from lines

  abbrev second : Work
  second = second_part lines

  abbrev before : Work
  before = upto_names (length from - 1) lines

  abbrev ended : TransactionOutcome
  ended = outcome_of t.change t.register

  closing : t.stage ≡ Closing
  closing = over_closing t.stage t over

  -- ---- what the lines show of it
  -- its post-ops, and the bricks, are those of the lines
  sets : (y : Found) → OnChange y p t removal → (t.register.shape ≡ p.shape) × (t.register.post ≡ among posted removal)
  sets (Unread copy) on = (on.0.tells.shape_is, on.0.tells.sets.posted)
  sets Fits on = (on.tells.shape_is, on.tells.sets.posted)
  sets (Refused why) on = (on.before.shape_is, on.before.sets.posted)

  most_is : is_majority t.register.shape.n t.register.post ≡ is_majority p.shape.n (among posted removal)
  most_is = let s = sets found k.tells.on in ap (λ (y : Shape). is_majority y.n t.register.post) s.0 ∙ ap (λ (y : List ℕ). is_majority p.shape.n y) s.1

  -- it is acknowledged where a majority has done post-op
  acknowledged_most : is_acknowledged ended ≡ is_majority p.shape.n (among posted removal)
  acknowledged_most = go (is_acknowledged ended) (is_majority p.shape.n (among posted removal)) refl refl
    where
      go : (a m : Bool) → is_acknowledged ended ≡ a → is_majority p.shape.n (among posted removal) ≡ m → a ≡ m
      go true true e f = refl
      go false false e f = refl
      go true false e f = let most = (acknowledged_exactly t sound.under.sound).1 (acknowledged_is ended e) in let same = most_is in absurd (cc (most, same, f))
      go false true e f = let same = most_is in let most : is_majority t.register.shape.n t.register.post ≡ true = same ∙ f in let done = ap is_acknowledged ((acknowledged_exactly t sound.under.sound).0 most) in absurd (cc (done, e))

  caused : rename_reply p from (to_of x) lines ≡ Some (half_reply ended)
  caused =
      ap (λ (o : Option Reply). or_halves o (by_halves p from lines)) (refusal_is p x lines k.walked ∙ k.passed)
      ∙ halves
      ∙ ap (λ (b : Bool). Some (if b then reply.Ok good.Done else reply.Half)) (sym acknowledged_most)
    where
      some_if : (b : Bool) → (if b then Some (reply.Ok good.Done) else Some reply.Half) ≡ Some (if b then reply.Ok good.Done else reply.Half)
      some_if true = refl
      some_if false = refl

      halves : by_halves p from lines ≡ Some (if is_majority p.shape.n (among posted removal) then reply.Ok good.Done else reply.Half)
      halves = let begun = some_change make (making_of x x.second.object.gfid) k.change in let made = k.made in rw (begun, made) (some_if (is_majority p.shape.n (among posted removal)))

  -- ---- the old name's lock
  area : old_area p from lines ≡ Some (area_for (removal_of x))
  area = ap (λ (q : Path). area_here (command.Unlink from) q) k.tells.place ∙ locks
    where
      locks : area_here (command.Unlink from) (At (length from - 1) (old_dir x)) ≡ Some (area_for (removal_of x))
      locks = let named = paths.old in rw (self (length from - 1), named) refl

  all_asked : (y : Found) → OnChange y p t removal → (b : ℕ) → b < p.shape.n → member (among (asking (area_for (removal_of x))) removal) b ≡ true
  all_asked (Unread copy) on b l = subst (λ (c : Change). member (among (asking (area_for c)) removal) b ≡ true) sound.under.of (asks_all_for_locks p removal t on.0.tells closing b l)
  all_asked Fits on b l = subst (λ (c : Change). member (among (asking (area_for c)) removal) b ≡ true) sound.under.of (asks_all_for_locks p removal t on.tells closing b l)
  all_asked (Refused why) on b l = subst (λ (c : Change). member (among (asking (area_for c)) removal) b ≡ true) sound.under.of (on.before.during.allows.locked.all b l)

  nothing_skipped : (y : Found) → OnChange y p t removal → SkipsNothing p (command.Unlink from) removal
  nothing_skipped (Unread copy) on = skips_none p (command.Unlink from) removal t on.0.tells closing refl
  nothing_skipped Fits on = skips_none p (command.Unlink from) removal t on.tells closing refl
  nothing_skipped (Refused why) on = (given_up_ends p removal t on).skips (command.Unlink from) refl

  -- ---- why it stays half
  -- a fault of the removal is one of the second transaction
  fault_second : is_faulted removal ≡ true → has tells_fault second ≡ true
  fault_second e = let free = prefix_untouched p x lines k.walked in fault_in second before free.unbegun free.unfaulted e

  by_views : is_some_reply (by_locks p.shape (kind_for t.change) (area_for t.change) removal) ≡ true → IsHalved p from lines
  by_views e = HalfByViews
      (subst (λ (o : Option Area). is_some_reply (by_area p.shape Names o removal) ≡ true) (sym area)
      (subst (λ (c : Change). is_some_reply (by_locks p.shape (kind_for c) (area_for c) removal) ≡ true) sound.under.of e))

  tried_half : TransactionGoes p t removal → is_acknowledged ended ≡ false → IsHalved p from lines
  tried_half goes none = go (by_locks p.shape (kind_for t.change) (area_for t.change) removal) refl (replies_exactly p removal t sound.under.sound goes.tells closing fitting)
    where
      fitting : IsFitting p.shape.n t.change (looked_by (object_of t.change) removal)
      fitting = record {
        low = subst (λ (c : Change). ends_low c ≡ true) (sym sound.under.of) refl;
        fits = goes.fitting (was_locked p t removal (subst (λ (stage : Stage). During stage p.shape t removal) closing goes.tells.during));
      }

      by_brick : reply_of t.change t.register ≡ reply.Failed → IsHalved p from lines
      by_brick e = HalfByFault (fault_second (failed_by_brick p removal t sound.under.sound goes.tells closing fitting goes.calm e).1)

      posts : (b m : Bool) → (if b then Some (if m then reply.Ok good.Done else reply.Failed) else None) ≡ Some (reply_of t.change t.register) → IsHalved p from lines
      posts true true e = let done = done_acknowledged ended (sym (cc e)) in absurd (cc (done, none))
      posts true false e = by_brick (sym (cc e))
      posts false m e = absurd (cc e)

      go : (o : Option Reply) → by_locks p.shape (kind_for t.change) (area_for t.change) removal ≡ o → or_else o (by_posts p.shape removal) ≡ Some (reply_of t.change t.register) → IsHalved p from lines
      go None e f = posts (has begins_attempt removal) (is_majority p.shape.n (among posted removal)) f
      go (Some said) e f = by_views (ap is_some_reply e)

  -- the old name leads elsewhere, or couldn't be read
  files_same : (g : Gfid) → HasFound p from g lines → g ≡ x.first.object.gfid
  files_same g found_there = ap (λ (q : Path). (object_in q).gfid) (sym found_there ∙ k.walked.found)

  elsewhere : LedElsewhere p x removal → IsHalved p from lines
  elsewhere (ByFault f lost) = HalfByFault (reads_fault second (sym (has_front refuses_read second before (prefix_unrefused p x lines k.walked)) ∙ f))
  elsewhere (ByNothing given) = HalfByName (λ s. let e = sym given.path ∙ s.still in cc e)
  elsewhere (ByOther entry other given) = HalfByName (λ s. differs s (ap object_in (sym given.path ∙ s.still)))
    where
      same_file : (file : Gfid) → is_same file (record { gfid = file; what = File }) ≡ true
      same_file file = self file.0

      differs : (s : StillLeads p from lines) → entry ≡ record { gfid = s.file; what = File } → ⊥
      differs s e =
          let here : entry ≡ record { gfid = x.first.object.gfid; what = File } = e ∙ ap (λ (g : Gfid). let y : Entry = record { gfid = g; what = File } in y) (files_same s.file s.found) in
          let is = ap (is_same x.first.object.gfid) here ∙ same_file x.first.object.gfid in
          cc (is, other)

  halved : (y : Found) → OnChange y p t removal → OldTells y p x removal → is_acknowledged ended ≡ false → IsHalved p from lines
  halved (Unread copy) on name none = tried_half on.0 none
  halved Fits on name none = tried_half on none
  halved (Refused why) on name none = elsewhere name

  -- ---- where nothing failed
  second_calm : is_faulted lines ≡ false → is_faulted removal ≡ false
  second_calm calm = go (is_faulted removal) refl
    where
      go : (b : Bool) → is_faulted removal ≡ b → b ≡ false
      go true e =
          let free = prefix_untouched p x lines k.walked in
          let f = subst (λ (w : Work). is_faulted w ≡ true) (parts_whole lines) (fault_more second (first_part lines) (fault_own second before free.unbegun free.unfaulted e)) in
          absurd (cc (f, calm))
      go false e = refl

  tried_done : (y : Found) → OnChange y p t removal → has begins_attempt removal ≡ true → is_faulted removal ≡ false → is_acknowledged ended ≡ true
  tried_done (Unread copy) on begun calm = done_acknowledged ended (undisturbed_is_done p removal t sound.under.sound on.0.tells closing on.0.calm begun calm)
  tried_done Fits on begun calm = done_acknowledged ended (undisturbed_is_done p removal t sound.under.sound on.tells closing on.calm begun calm)
  tried_done (Refused why) on begun calm = let none = (given_up_ends p removal t on).unbegun in absurd (cc (none, begun))

  undisturbed : is_faulted lines ≡ false → (half_reply ended ≡ reply.Ok good.Done) ⊎ ((half_reply ended ≡ reply.Half) × (has begins_attempt second ≡ false))
  undisturbed calm = go (is_acknowledged ended) (has begins_attempt second) refl refl
    where
      go : (a b : Bool) → is_acknowledged ended ≡ a → has begins_attempt second ≡ b
          → ((if a then reply.Ok good.Done else reply.Half) ≡ reply.Ok good.Done) ⊎ (((if a then reply.Ok good.Done else reply.Half) ≡ reply.Half) × (b ≡ false))
      go true b e f = inl refl
      go false false e f = inr (refl, refl)
      go false true e f = let done = tried_done found k.tells.on (second_begins p x t found lines k ∙ f) (second_calm calm) in absurd (cc (done, e))

  half_end : IsRenamed p from (to_of x) lines (half_reply ended)
  half_end = record {
    caused = caused;
    asked = λ refused e views. let none = refusal_is p x lines k.walked ∙ k.passed in absurd (cc (none, e));
    failed = λ f. absurd (half_not_failed ended f);
    halved = λ h. halved found k.tells.on k.tells.name (half_unacknowledged ended h);
    undisturbed = λ begun calm. undisturbed calm;
    legs = k.walked.legs;
    last_leg = k.last_leg;
    walked = k.walked.walked;
    made = k.whole;
    looked_for = λ made. record { area = area_for (removal_of x); of = area; all = all_asked found k.tells.on; whole = nothing_skipped found k.tells.on };
  }

-- ---- the end
-- where it isn't over its next line is no end
not_over : (p : Plan) (t : TransactionProgress) (found : Found) (at : ℕ) (asked : Request) (said : Reply) → is_over t.stage t ≡ false → next_under found at asked t ≡ next.End said → ⊥
not_over p t (Unread copy) at asked said f e = go (is_beginning t.stage) e
  where
    go : (b : Bool) → (if b then next.Ask copy asked else next_change t.stage at t) ≡ next.End said → ⊥
    go true e = cc e
    go false e = let g = ends_over t.stage at t said e in cc (f, g)
not_over p t Fits at asked said f e = let g = ends_over t.stage at t said e in cc (f, g)
not_over p t (Refused why) at asked said f e = go (is_over t.stage t) f e
  where
    go : (b : Bool) → b ≡ false → (if b then next.End (reply_to why) else next_change t.stage at t) ≡ next.End said → ⊥
    go true f e = cc f
    go false g e = let h = ends_over t.stage at t said e in cc (f, h)

pub removing_ends : (p : Plan) (x : Paths) (t : TransactionProgress) (found : Found) (lines : Work) (at : ℕ) (said : Reply) → IsPaths x → Removes p x t found lines → IsRemoving x t found → removing_next found at x t ≡ next.End said → IsRenamed p x.first.path (to_of x) lines said
removing_ends p x t found lines at said paths k sound e = go (is_over t.stage t) refl e
  where
    go : (b : Bool) → is_over t.stage t ≡ b → (if b then next.End (half_reply (outcome_of t.change t.register)) else next_under found at (reads_old x) t) ≡ next.End said → IsRenamed p x.first.path (to_of x) lines said
    go true f e = let same : half_reply (outcome_of t.change t.register) ≡ said = cc e in subst (λ (y : Reply). IsRenamed p x.first.path (to_of x) lines y) same (half_end p x paths t found lines k sound f)
    go false f e = absurd (not_over p t found at (reads_old x) said f e)

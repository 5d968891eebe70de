-- What refuses an rmdir that found a directory, and what it is answered.
use Rattle.std.proofs.Common.{◌≡◌, ℕ, ◌-◌, not, Bool, true, false, List, Option, Some, None, length, refl, sym, ap, ◌∙◌, subst, arith, if◌then◌else◌, inl, inr, ◌⊎◌}
use Rattle.afr_base.specs.Bricks.{member, is_nothing, IsIn}
use Rattle.afr_base.specs.Majority.{is_majority}
use Rattle.afr_base.specs.SetLemmas.{majority_grows}
use Rattle.afr_base.specs.declared.ids.Gfid.{Gfid}
use Rattle.afr_base.specs.declared.ids.Kind.{Kind}
use Rattle.afr_base.specs.declared.ids.Kind.TheVariants.{Names}
use Rattle.afr_base.specs.declared.ids.NameId.{NameId}
use Rattle.afr_base.proofs.TestLemmas.{not_below_itself, one_value}
use Rattle.afr_choice.specs.Verdict.{good_copies}
use Rattle.afr_discipline.specs.declared.register.Register.{Register}
use Rattle.afr_lines.specs.Areas.{area_for}
use Rattle.afr_lines.specs.Overlap.{same_area}
use Rattle.afr_lines.specs.Work.{Work}
use Rattle.afr_lines.specs.declared.reply.Good.TheVariants as good
use Rattle.afr_lines.specs.declared.reply.Reply.{Reply}
use Rattle.afr_lines.specs.declared.reply.Reply.TheVariants as reply
use Rattle.afr_lines.specs.declared.request.Area.{Area}
use Rattle.afr_lines.specs.declared.request.Area.TheVariants.{Name}
use Rattle.afr_object.specs.Tables.{object_of}
use Rattle.afr_object.specs.declared.change.Change.{Change}
use Rattle.afr_object.specs.declared.entry.Entry.{Entry}
use Rattle.afr_plan.specs.declared.command.Command.{Command}
use Rattle.afr_plan.specs.declared.command.Command.TheVariants as command
use Rattle.afr_plan.specs.declared.plan.Plan.{Plan}
use Rattle.afr_model.specs.Answered.{Answers, IsAnswered, IsCaused, Refuses}
use Rattle.afr_model.specs.Commands.{area_on}
use Rattle.afr_model.specs.Refusals.{both_locked, by_area, by_child, by_list, by_locks, by_name, by_path, by_views, or_else, read_refused, refusal}
use Rattle.afr_model.specs.Showing.{At, NoName, Path, Untold, among, applied_at, applying, begins_attempt, has, is_faulted, looked_by, looking, path_by, posted, posting, prepared, preparing, reading_by, refuses_read}
use Rattle.afr_model.specs.Skipped.{AsksAll, IsChildLocked, IsLocked, SkipsNothing, WentThroughPhases, takers}
use Rattle.afr_model.specs.Standing.{area_here, change_by, getting, locks_area, looks_here, suffices}
use Rattle.afr_client_entry.specs.Removals.Removal.{reply_of}
use Rattle.afr_client_entry.specs.Removals.Sound.{IsRemoval}
use Rattle.afr_client_entry.specs.declared.removing.child.Child.{Child}
use Rattle.afr_client_entry.specs.declared.removing.stage.RemovalEnding.TheVariants.{Counted}
use Rattle.afr_client_entry.proofs.Removals.Facts.{of_names}
use Rattle.afr_client_transaction.proofs.Parts.{both}
use Rattle.afr_law_client.proofs.Small.{no_change, object_named, self}
use Rattle.afr_law_client.proofs.Views.{suffices_grows}
use Rattle.afr_law_client.specs.Removal.RemovalTelling.{RemovalGoes, Tries, dir_at, takers_by}
use Rattle.afr_model_moves.proofs.AreaLemmas.{same_area_is}

abbrev object_at : Path → Entry
object_at (At read object) = object
object_at NoName = dir_at (record { 0 = 0 })
object_at Untold = dir_at (record { 0 = 0 })

-- the first two causes of the child
abbrev pub first_of : Bool → Bool → Option Reply → Option Reply
first_of locks suffice next = if not locks then Some reply.NoQuorum else (if not suffice then Some reply.NoQuorum else next)

few_of : (a b : Bool) (x : Option Reply) → b ≡ false → first_of a b x ≡ Some reply.NoQuorum
few_of true b x e = rw e refl
few_of false b x e = refl

none_of : (a b : Bool) (x : Option Reply) → a ≡ false → first_of a b x ≡ Some reply.NoQuorum
none_of a b x e = rw e refl

go_on : (a b : Bool) (x : Option Reply) → a ≡ true → b ≡ true → first_of a b x ≡ x
go_on a b x e f = rw (e, f) refl

module _ (p : Plan) (path : List NameId) (change : Change) (r : Register) (c : Child) (w : Work) (removes : IsRemoval change) (k : RemovalGoes p path change r c.gfid w) where
  abbrev cmd : Command
  cmd = command.Rmdir path

  abbrev g : Gfid
  g = object_of change

  abbrev dir : Entry
  dir = dir_at g

  abbrev child : Entry
  child = dir_at c.gfid

  -- nothing of the name's locks refuses it
  passes : by_locks p.shape Names (area_for change) w ≡ None
  passes =
      let clean : is_nothing (good_copies p.shape (looked_by g w) Names) ≡ false = subst (λ (x : Kind). is_nothing (good_copies p.shape (looked_by g w) x) ≡ false) (of_names change removes) k.locked.quorum.clean in
      rw (object_named change, k.locked.majority, k.locked.quorum.reached, k.locked.quorum.copies, clean) refl

  -- so the child alone does, where no read was refused
  pub refusal_is : refusal p cmd w ≡ or_else (read_refused w) (by_child p cmd dir child w)
  refusal_is = ap (λ (x : Path). or_else (read_refused w) (by_path p cmd x w)) k.led.place ∙ ap (λ (x : Option Reply). or_else (read_refused w) x) there
    where
      at_directory : by_path p cmd (At (length path - 1) dir) w ≡ or_else (by_area p.shape Names (area_on g cmd) w) (by_name p cmd dir (path_by p w) w)
      at_directory = rw (not_below_itself (length path - 1)) refl

      there : by_path p cmd (At (length path - 1) dir) w ≡ by_child p cmd dir child w
      there =
          at_directory
          ∙ ap (λ (x : Option Area). or_else (by_area p.shape Names x w) (by_name p cmd dir (path_by p w) w)) k.words.area
          ∙ ap (λ (x : Option Reply). or_else x (by_name p cmd dir (path_by p w) w)) passes
          ∙ ap (λ (x : Path). by_name p cmd dir x w) k.led.leads
          ∙ at_child
        where
          at_child : by_name p cmd dir (At (length path) child) w ≡ by_child p cmd dir child w
          at_child = rw (not_below_itself (length path)) refl

  refused_by_child : has refuses_read w ≡ false → refusal p cmd w ≡ by_child p cmd dir child w
  refused_by_child none = refusal_is ∙ rw none refl

  abbrev locks : Bool
  locks = is_majority p.shape.n (among (getting (Name c.gfid None)) w)

  abbrev takes : Bool
  takes = suffices p.shape Names (looked_by g w) (both_locked (area_on g cmd) g c.gfid w)

  abbrev later : Option Reply
  later = or_else (by_views p.shape Names (looked_by c.gfid w)) (by_list (reading_by p w))

  takes_is : (x : Bool) → suffices p.shape Names (looked_by g w) (takers_by change c.gfid w) ≡ x → takes ≡ x
  takes_is x e = ap (λ (a : Option Area). suffices p.shape Names (looked_by g w) (both_locked a g c.gfid w)) k.words.area ∙ e

  -- too few locks of the child, or too few holders with both
  pub few_refuse : has refuses_read w ≡ false → suffices p.shape Names (looked_by g w) (takers_by change c.gfid w) ≡ false → refusal p cmd w ≡ Some reply.NoQuorum
  few_refuse none few = refused_by_child none ∙ few_of locks takes later (takes_is false few)

  pub none_refuse : has refuses_read w ≡ false → is_majority p.shape.n (among (getting (Name c.gfid None)) w) ≡ false → refusal p cmd w ≡ Some reply.NoQuorum
  none_refuse none few = refused_by_child none ∙ none_of locks takes later few

  -- or else what it shows
  pub looks_refuse : has refuses_read w ≡ false → is_majority p.shape.n (among (getting (Name c.gfid None)) w) ≡ true → suffices p.shape Names (looked_by g w) (takers_by change c.gfid w) ≡ true
      → refusal p cmd w ≡ or_else (by_views p.shape Names (looked_by c.gfid w)) (by_list (reading_by p w))
  looks_refuse none most enough = refused_by_child none ∙ go_on locks takes later most (takes_is true enough)

  -- ---- nothing was skipped
  locked_is : (area : Area) → has (locks_area area) w ≡ true → (f : Bool) → same_area area (area_for change) ≡ f → (f ≡ false → has (locks_area area) w ≡ false) → IsLocked p.shape.n w area
  locked_is area asked false e free = let none = free refl in absurd (cc (asked, none))
  locked_is area asked true e free = subst (λ (area : Area). IsLocked p.shape.n w area) (sym (same_area_is area (area_for change) e)) (record {
    all = k.locked.locked.all;
    looked = λ most. subst (λ (h : Gfid). IsIn (among (getting (area_for change)) w) (among (looking h) w)) (sym (object_named change)) k.locked.looked_all;
  })

  child_is : IsChildLocked p g c.gfid (area_for change) w → (d e : Entry) (name : Area) → dir ≡ d → child ≡ e → area_on d.gfid cmd ≡ Some name → IsChildLocked p d.gfid e.gfid name w
  child_is h d e name same also named =
      subst (λ (x : Entry). IsChildLocked p d.gfid x.gfid name w) also
      (by_dir (subst (λ (x : Entry). area_on x.gfid cmd ≡ Some name) (sym same) named))
    where
      by_dir : area_on g cmd ≡ Some name → IsChildLocked p d.gfid c.gfid name w
      by_dir f = subst (λ (x : Entry). IsChildLocked p x.gfid c.gfid name w) same (subst (λ (x : Area). IsChildLocked p g c.gfid x w) (one_value (area_for change) name (sym k.words.area ∙ f)) h)

  pub skips : IsChildLocked p g c.gfid (area_for change) w → ((changed : Change) → change_by w ≡ Some changed → WentThroughPhases p cmd changed w) → SkipsNothing p cmd w
  skips h carried = record {
    looked = k.looked;
    locked = λ area part asked. locked_is area asked (same_area area (area_for change)) refl (λ e. k.alone area part e);
    child = λ is read d e name place leads found named. child_is h d e name (ap object_at (sym k.led.place ∙ place)) (ap object_at (sym k.led.leads ∙ leads)) named;
    carried = carried;
  }

  -- ---- the answer
  here : area_here cmd (At (length path - 1) dir) ≡ Some (area_for change)
  here = rw (self (length path - 1)) k.words.area

  pub answered : (said : Reply) → IsCaused p cmd w said → (said ≡ reply.Failed → (has begins_attempt w ≡ true) × (is_faulted w ≡ true) ⊎ (has refuses_read w ≡ true))
      → (has begins_attempt w ≡ true → is_faulted w ≡ false → said ≡ reply.Ok good.Done) → SkipsNothing p cmd w → IsAnswered p cmd w said
  answered said caused failed undisturbed whole = record {
    caused = caused;
    asked = λ views. subst (λ (x : Path). AsksAll p.shape.n (looks_here cmd x) (area_here cmd x) w) (sym k.led.place)
        (subst (λ (x : Option Area). AsksAll p.shape.n (looks_here cmd (At (length path - 1) dir)) x w) (sym here) k.locked.locked.all);
    failed = failed;
    undisturbed = undisturbed;
    whole = whole;
  }

  -- before an attempt was begun
  pub answered_before : (said : Reply) → has begins_attempt w ≡ false → refusal p cmd w ≡ Some said → (said ≡ reply.Failed → has refuses_read w ≡ true) → IsChildLocked p g c.gfid (area_for change) w → IsAnswered p cmd w said
  answered_before said unbegun refused failed h =
      answered said (Refuses refused) (λ e. inr (failed e)) (λ begun calm. absurd (cc (begun, unbegun))) (skips h (λ changed e. let no = no_change w unbegun in absurd (cc (e, no))))

  -- ---- after an attempt
  module _ (t : Tries p change c w) (pre_all : IsIn c.takers (among preparing w)) (apply_all : suffices p.shape Names (looked_by g w) (among prepared w) ≡ true → IsIn (among prepared w) (among applying w)) (post_all : suffices p.shape Names (looked_by g w) (among prepared w) ≡ true → suffices p.shape Names (looked_by g w) (among applied_at w) ≡ true → IsIn (among applied_at w) (among posting w)) where
    abbrev Enough : List ℕ → Bool
    Enough s = suffices p.shape Names (looked_by g w) s

    free : refusal p cmd w ≡ None
    free =
        looks_refuse t.empty.unrefused t.judged.majority t.judged.enough
        ∙ ap (λ (x : Option Reply). or_else x (by_list (reading_by p w))) t.judged.passes
        ∙ ap by_list t.empty.empty

    abbrev said : Reply
    said = reply_of Counted r

    said_is : said ≡ (if is_majority p.shape.n (among posted w) then reply.Ok good.Done else reply.Failed)
    said_is = rw (k.shape, k.sets.posted) refl

    caused : IsCaused p cmd w said
    caused = Answers free dir k.led.place (rw t.begun.began (ap (λ (x : Reply). Some x) (sym said_is)))

    -- all that were asked did it, so a majority has done post-op
    calm_done : is_faulted w ≡ false → is_majority p.shape.n (among posted w) ≡ true
    calm_done none = majority_grows p.shape.n (among applied_at w) (among posted w) posts (both (is_majority p.shape.n (among applied_at w)) _ applies).0
      where
        pres : IsIn (takers_by change c.gfid w) (among prepared w)
        pres b m = subst (λ (x : List ℕ). IsIn c.takers x) (sym (k.calm none).pre_is) pre_all b (t.judged.take b m)

        prepares : Enough (among prepared w) ≡ true
        prepares = suffices_grows p.shape Names (looked_by g w) (takers_by change c.gfid w) (among prepared w) pres t.judged.enough

        did : IsIn (among prepared w) (among applied_at w)
        did = subst (λ (x : List ℕ). IsIn (among prepared w) x) (sym (k.calm none).apply_is) (apply_all prepares)

        applies : Enough (among applied_at w) ≡ true
        applies = suffices_grows p.shape Names (looked_by g w) (among prepared w) (among applied_at w) did prepares

        posts : IsIn (among applied_at w) (among posted w)
        posts = subst (λ (x : List ℕ). IsIn (among applied_at w) x) (sym (k.calm none).post_is) (post_all prepares applies)

    undisturbed : is_faulted w ≡ false → said ≡ reply.Ok good.Done
    undisturbed none = said_is ∙ rw (calm_done none) refl

    failed : said ≡ reply.Failed → is_faulted w ≡ true
    failed f = go (is_faulted w) refl
      where
        go : (x : Bool) → is_faulted w ≡ x → x ≡ true
        go true e = refl
        go false e = let done = undisturbed e in absurd (cc (done, f))

    carried : (changed : Change) → change_by w ≡ Some changed → WentThroughPhases p cmd changed w
    carried changed e = subst (λ (x : Change). WentThroughPhases p cmd x w) (one_value change changed (sym t.begun.is_change ∙ e)) (record {
      prepared_all = λ b m. pre_all b (t.judged.take b (subst (λ (x : List ℕ). member x b ≡ true) takers_are m));
      applied_all = rw (of_names change removes) apply_all;
      posted_all = rw (of_names change removes) post_all;
    })
      where
        takers_are : takers cmd g (path_by p w) w ≡ takers_by change c.gfid w
        takers_are = ap (λ (x : Path). takers cmd g x w) k.led.leads ∙ ap (λ (a : Option Area). both_locked a g c.gfid w) k.words.area

    pub answered_after : IsAnswered p cmd w (reply_of Counted r)
    answered_after = answered said caused (λ e. inl (t.begun.began, failed e)) (λ begun none. undisturbed none) (skips t.judged.child carried)

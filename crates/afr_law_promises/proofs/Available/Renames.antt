-- A rename whose last change enough bricks bore says that it is stored: ok, or half where that is the making of the new name.
use Rattle.std.proofs.Common.{◌≡◌, ℕ, ◌-◌, ◌==◌, ◌||◌, ◌⊎◌, inl, inr, not, Bool, true, false, refl, sym, ap, ◌∙◌, subst, List, [], ◌∷◌, ◌++◌, Option, Some, None, length, if◌then◌else◌, true≢false, append-nil, eq-eqb}
use Rattle.std.specs.Prelude.{slice_get}
use Rattle.afr_base.specs.Bricks.{member}
use Rattle.afr_base.specs.Majority.{is_majority}
use Rattle.afr_base.specs.declared.ids.Gfid.{Gfid}
use Rattle.afr_base.specs.declared.ids.NameId.{NameId}
use Rattle.afr_base.specs.declared.ids.What.TheVariants.{File}
use Rattle.afr_choice.specs.declared.looked.Looked.{Looked}
use Rattle.afr_object.specs.Tables.{object_of}
use Rattle.afr_object.specs.declared.change.Change.{Change}
use Rattle.afr_object.specs.declared.change.Change.TheVariants.{Make}
use Rattle.afr_lines.specs.Areas.{kind_for}
use Rattle.afr_lines.specs.Work.{Work, ended}
use Rattle.afr_lines.specs.declared.line.Line.{Line}
use Rattle.afr_lines.specs.declared.line.Line.TheVariants.{Ask, Begin}
use Rattle.afr_lines.specs.declared.reply.Good.TheVariants as good
use Rattle.afr_lines.specs.declared.reply.Reply.{Reply}
use Rattle.afr_lines.specs.declared.reply.Reply.TheVariants as reply
use Rattle.afr_lines.specs.declared.request.Request.TheVariants as request
use Rattle.afr_plan.specs.declared.command.Command.{Command}
use Rattle.afr_plan.specs.declared.command.Command.TheVariants as command
use Rattle.afr_plan.specs.declared.plan.Plan.{Plan}
use Rattle.afr_model.specs.Actors.{script_of}
use Rattle.afr_model.specs.Answered.{IsAbout}
use Rattle.afr_model.specs.Parts.{first_part, second_part, the_make, the_removal, the_walk, upto_names}
use Rattle.afr_model.specs.Refusals.{refusal}
use Rattle.afr_model.specs.Renamed.{HasFound, IsMade, IsRenamed, by_halves, or_halves, refusal_at, rename_refusal}
use Rattle.afr_model.specs.Showing.{Path, among, begins_attempt, begun_after, begun_by, has, locks, looked_by, posted}
use Rattle.afr_model.specs.Skipped.{WentThroughPhases}
use Rattle.afr_model.specs.Standing.{change_by, suffices}
use Rattle.afr_model.proofs.Cut.Anew.{has_first, same_applied, same_applying, same_change, same_looks, same_posted, same_posting, same_prepared, unbegun_change}
use Rattle.afr_model.proofs.Cut.Cut.{first_all, parts_whole}
use Rattle.afr_law_promises.specs.Available.Available.{ByHalf, ByOk, DidItsPart, IsBorne, SaysStored}
use Rattle.afr_law_promises.proofs.Available.Parts.{AreLines, IsLink, Parts, no_majority, parts_of}
use Rattle.afr_law_promises.proofs.Available.Works.{AreAbout, begun_is, posted_most, unrefused}

-- ---- who closed an attempt
-- there is no post-op before the attempt
unbegun : (v : Work) → has begins_attempt v ≡ false → begun_by v ≡ None
unbegun [] e = refl
unbegun (x ∷ v) e = go x.0 e (λ h. unbegun v h)
  where
    go : (line : Line) → (begins_attempt line || has begins_attempt v) ≡ false → (has begins_attempt v ≡ false → begun_by v ≡ None) → begun_after line x.1 (begun_by v) ≡ None
    go (Begin a change) f rest = absurd (true≢false f)
    go line f rest = rest f

unposted : (p : Plan) (c : Command) (v : Work) → AreAbout p c v → has begins_attempt v ≡ false → among posted v ≡ []
unposted p c [] h e = refl
unposted p c (x ∷ v) h e = go x.0 h.0 e (λ f. unposted p c v h.1 f)
  where
    go : (line : Line) → IsAbout p c line v → (begins_attempt line || has begins_attempt v) ≡ false → (has begins_attempt v ≡ false → among posted v ≡ []) → posted line (among posted v) ≡ []
    go (Begin a change) about f rest = absurd (true≢false f)
    go (Ask a b (request.Post attempt g kind missed) told took) about f rest = absurd (let k = about.0 in let none = unbegun v f in cc (k, none))
    go line about f rest = rest f

closed_begun : (p : Plan) (c : Command) (v : Work) → AreAbout p c v → is_majority p.shape.n (among posted v) ≡ true → has begins_attempt v ≡ true
closed_begun p c v h most = go (has begins_attempt v) refl
  where
    go : (begun : Bool) → has begins_attempt v ≡ begun → begun ≡ true
    go true e = refl
    go false e = absurd (no_majority p.shape.n (subst (λ (s : List ℕ). is_majority p.shape.n s ≡ true) (unposted p c v h e) most))

-- what enough bricks bore is closed, by the lines of its attempt
closed_anew : (p : Plan) (c : Command) (s u t w : Work) → s ++ u ≡ w → has begins_attempt s ≡ true → (borne : IsBorne p w) → has (locks (object_of borne.change)) s ≡ true → WentThroughPhases p c borne.change (s ++ t)
    → is_majority p.shape.n (among posted (s ++ t)) ≡ true
closed_anew p c s u t w whole begins borne locked carried =
    posted_most p c (s ++ t) (record {
      change = borne.change;
      begun = sym (same_change s u t begins) ∙ (ap change_by whole ∙ borne.begun);
      bricks = borne.bricks;
      parts = λ b inside. did b (subst (λ (v : Work). DidItsPart v b) (sym whole) (borne.parts b inside));
      enough = subst (λ (x : Looked). suffices p.shape (kind_for borne.change) x borne.bricks ≡ true) (same_looks (object_of borne.change) s u t locked)
          (subst (λ (v : Work). suffices p.shape (kind_for borne.change) (looked_by (object_of borne.change) v) borne.bricks ≡ true) (sym whole) borne.enough);
    }) carried
  where
    did : (b : ℕ) → DidItsPart (s ++ u) b → DidItsPart (s ++ t) b
    did b k = record {
      pre = subst (λ (x : List ℕ). member x b ≡ true) (same_prepared s u t begins) k.pre;
      operation = λ asked. subst (λ (x : List ℕ). member x b ≡ true) (same_applied s u t begins) (k.operation (subst (λ (x : List ℕ). member x b ≡ true) (sym (same_applying s u t begins)) asked));
      post = λ asked. subst (λ (x : List ℕ). member x b ≡ true) (same_posted s u t begins) (k.post (subst (λ (x : List ℕ). member x b ≡ true) (sym (same_posting s u t begins)) asked));
    }

module _ (p : Plan) (from to : List NameId) (a : ℕ) (older : List Line) (is : slice_get (script_of p a) (ended a older) ≡ Some (command.Rename from to)) where
  -- nothing refuses a rename that has begun
  unrefused_at : (w : Work) → Parts p from to w → has begins_attempt (the_make from w) ≡ true → rename_refusal p from to w ≡ None
  unrefused_at w k begun = subst (λ (path : Path). refusal_at path p from to w ≡ None) (sym found.1) (end (length from == length from) (eq-eqb (length from) (length from) refl))
    where
      found : (file : Gfid) × HasFound p from file w
      found = k.found begun

      end : (hit : Bool) → hit ≡ true → (if hit then refusal p (command.Create to) (the_make from w) else refusal p (command.Stat from) (the_walk from w)) ≡ None
      end true e = unrefused p (command.Create to) (the_make from w) k.about begun
      end false e = absurd (true≢false (sym e))

  module _ (w : Work) (said : Reply) (k : Parts p from to w) (ended : IsRenamed p from to w said) (made : IsMade p from w) where
    begun : has begins_attempt (the_make from w) ≡ true
    begun = closed_begun p (command.Create to) (the_make from w) k.about made

    halves : (if is_majority p.shape.n (among posted (the_removal from w)) then Some (reply.Ok good.Done) else Some reply.Half) ≡ Some said
    halves = made_so (has begins_attempt (the_make from w)) begun (is_majority p.shape.n (among posted (the_make from w))) made
        (subst (λ (r : Option Reply). or_halves r (by_halves p from w) ≡ Some said) (unrefused_at w k begun) ended.caused)
      where
        made_so : (b : Bool) → b ≡ true → (m : Bool) → m ≡ true → (if not b then None else (if not m then Some reply.Failed else (if is_majority p.shape.n (among posted (the_removal from w)) then Some (reply.Ok good.Done) else Some reply.Half))) ≡ Some said
            → (if is_majority p.shape.n (among posted (the_removal from w)) then Some (reply.Ok good.Done) else Some reply.Half) ≡ Some said
        made_so true e true f h = h
        made_so true e false f h = absurd (true≢false (sym f))
        made_so false e m f h = absurd (true≢false (sym e))

    -- both attempts are closed
    says_ok : (change : Change) → is_majority p.shape.n (among posted (the_removal from w)) ≡ true → SaysStored p a older change said
    says_ok change most = ByOk (go (is_majority p.shape.n (among posted (the_removal from w))) most halves)
      where
        go : (m : Bool) → m ≡ true → (if m then Some (reply.Ok good.Done) else Some reply.Half) ≡ Some said → said ≡ reply.Ok good.Done
        go true e h = cc h
        go false e h = absurd (true≢false (sym e))

    -- or the first alone
    says_half : (c : Change) (dir file : Gfid) (name : NameId) → c ≡ Make dir name file File → SaysStored p a older c said
    says_half c dir file name link = go (is_majority p.shape.n (among posted (the_removal from w))) halves
      where
        go : (m : Bool) → (if m then Some (reply.Ok good.Done) else Some reply.Half) ≡ Some said → SaysStored p a older c said
        go true h = ByOk (cc h)
        go false h = ByHalf (cc h) from to is dir file name link

  pub rename_available : (w : Work) (said : Reply) → AreLines p (command.Rename from to) w → IsRenamed p from to w said → (borne : IsBorne p w) → SaysStored p a older borne.change said
  rename_available w said lines ended borne = go (has begins_attempt (second_part w)) refl k.made
    where
      k : Parts p from to w
      k = parts_of p from to w lines

      whole : second_part w ++ first_part w ≡ w
      whole = parts_whole w

      -- the removal was begun: it is closed too
      removed : has begins_attempt (second_part w) ≡ true → IsMade p from w → SaysStored p a older borne.change said
      removed begins made = says_ok w said k ended made borne.change (closed_anew p (command.Unlink from) (second_part w) (first_part w) (upto_names (length from - 1) w) w whole begins borne (k.removal borne.change begins at_removal) ((ended.looked_for made).whole.carried borne.change at_removal))
        where
          at_removal : change_by (the_removal from w) ≡ Some borne.change
          at_removal = sym (same_change (second_part w) (first_part w) (upto_names (length from - 1) w) begins) ∙ (ap change_by whole ∙ borne.begun)

      -- or the making alone
      halfway : has begins_attempt (second_part w) ≡ false → (second_part w ≡ []) ⊎ IsMade p from w → SaysStored p a older borne.change said
      halfway none was = says_half w said k ended (by was) borne.change link.dir link.file link.name link.is
        where
          at_first : change_by (the_make from w ++ the_walk from w) ≡ Some borne.change
          at_first = ap change_by k.cut ∙ (sym (unbegun_change (second_part w) (first_part w) none) ∙ (ap change_by whole ∙ borne.begun))

          begins : has begins_attempt (the_make from w) ≡ true
          begins = has_first begins_attempt (the_make from w) (the_walk from w) k.walked (begun_is (the_make from w ++ the_walk from w) borne.change at_first)

          at_make : change_by (the_make from w) ≡ Some borne.change
          at_make = ap change_by (sym (append-nil (the_make from w))) ∙ (sym (same_change (the_make from w) (the_walk from w) [] begins) ∙ at_first)

          link : IsLink borne.change (the_make from w)
          link = k.link borne.change at_make

          by : (second_part w ≡ []) ⊎ IsMade p from w → IsMade p from w
          by (inr made) = made
          by (inl alone) = subst (λ (v : Work). is_majority p.shape.n (among posted v) ≡ true) (append-nil (the_make from w))
              (closed_anew p (command.Create to) (the_make from w) (the_walk from w) [] w (k.cut ∙ first_all w alone) begins borne link.locked
              (subst (WentThroughPhases p (command.Create to) borne.change) (sym (append-nil (the_make from w))) (ended.made.carried borne.change at_make)))

      go : (begins : Bool) → has begins_attempt (second_part w) ≡ begins → (second_part w ≡ []) ⊎ IsMade p from w → SaysStored p a older borne.change said
      go true e (inr made) = removed e made
      go true e (inl none) = absurd (true≢false (sym e ∙ ap (has begins_attempt) none))
      go false e was = halfway e was

-- While the child is looked at: what the lines show after one more, and where the removal stands then.
use Rattle.std.proofs.Common.{◌≡◌, ℕ, ◌<◌, ◌≤◌, ◌==◌, ◌&&◌, arith, not, Bool, true, false, List, ◌∷◌, Option, Some, None, length, refl, sym, ap, ◌∙◌, subst, if◌then◌else◌}
use Rattle.std.specs.Option.{option_map}
use Rattle.afr_base.specs.Bricks.{added, member, is_nothing}
use Rattle.afr_base.specs.Majority.{is_majority}
use Rattle.afr_base.specs.SetLemmas.{member_added, none_left}
use Rattle.afr_base.specs.declared.ids.ActorId.{ActorId}
use Rattle.afr_base.specs.declared.ids.BrickId.{BrickId}
use Rattle.afr_base.specs.declared.ids.Gfid.{Gfid}
use Rattle.afr_base.specs.declared.ids.Kind.TheVariants.{Names}
use Rattle.afr_base.specs.declared.ids.NameId.{NameId}
use Rattle.afr_base.specs.declared.ids.Shape.{Shape}
use Rattle.afr_choice.specs.Verdict.{good_copies, holders_of, is_holder}
use Rattle.afr_choice.specs.VerdictLemmas.{member_holders}
use Rattle.afr_choice.specs.declared.looked.Looked.{Looked}
use Rattle.afr_discipline.specs.declared.register.Register.{Register}
use Rattle.afr_discipline.proofs.FirstLemmas.{in_common}
use Rattle.afr_lines.specs.Areas.{area_for}
use Rattle.afr_lines.specs.Told.{told_by}
use Rattle.afr_lines.specs.Work.{Work}
use Rattle.afr_lines.specs.declared.answer.Answer.{Answer}
use Rattle.afr_lines.specs.declared.answer.Told.{Told}
use Rattle.afr_lines.specs.declared.answer.Told.TheVariants as as_told
use Rattle.afr_lines.specs.declared.line.Line.{Line}
use Rattle.afr_lines.specs.declared.line.Line.TheVariants.{Ask}
use Rattle.afr_lines.specs.declared.reply.Reply.{Reply}
use Rattle.afr_lines.specs.declared.reply.Reply.TheVariants as reply
use Rattle.afr_lines.specs.declared.request.Area.{Area}
use Rattle.afr_lines.specs.declared.request.Area.TheVariants.{Name}
use Rattle.afr_lines.specs.declared.request.Request.TheVariants as request
use Rattle.afr_object.specs.Tables.{object_of}
use Rattle.afr_plan.specs.declared.plan.Plan.{Plan}
use Rattle.afr_model.specs.Refusals.{by_list, by_views, meets, or_else}
use Rattle.afr_model.specs.Showing.{among, look_shows, looked_by, looking, reading_by}
use Rattle.afr_model.specs.Skipped.{IsChildLocked}
use Rattle.afr_model.specs.Standing.{asking, getting, holding, locks_area, suffices, up_to}
use Rattle.afr_client_walk.specs.Looks.{noted_look}
use Rattle.afr_client_entry.specs.Removals.Removal.{Removing, after, against, answered, both_held, brick_at, gone_on, has_takers, left, moved, on_stage, or_close, reads_at, reply_of, request_at, sets_after, takers_of}
use Rattle.afr_client_entry.specs.Removals.Sound.{IsAsking, IsBase, IsRemoval, Sound}
use Rattle.afr_client_entry.specs.declared.removing.stage.RemovalEnding.{RemovalEnding}
use Rattle.afr_client_entry.specs.declared.removing.stage.RemovalEnding.TheVariants.{NoQuorum, FewCopies, SplitBrain}
use Rattle.afr_client_entry.specs.declared.removing.stage.RemovalStage.TheVariants.{Looking, Listing, Closing}
use Rattle.afr_client_entry.proofs.Removals.AfterLemmas.{look_base}
use Rattle.afr_client_entry.proofs.Removals.Facts.{look_asked}
use Rattle.afr_client_transaction.proofs.Parts.{no_or}
use Rattle.afr_client_transaction.proofs.Requests.{after_outside, noted_is}
use Rattle.afr_law_client.specs.Fits.{missed_by}
use Rattle.afr_law_client.proofs.Calm.{calm_ask}
use Rattle.afr_law_client.proofs.Excused.{ask_excused}
use Rattle.afr_law_client.proofs.Small.{self}
use Rattle.afr_law_client.specs.Removal.RemovalTelling.{CanTell, IsJudged, OnLooks, RemovalGoes, RemovalTells, held_in, takers_by}
use Rattle.afr_law_client.proofs.Removal.Lines.{goes_look}
use Rattle.afr_law_client.proofs.Removal.Lost.{lost_missed}
use Rattle.afr_law_client.proofs.Removal.Notes.{counts_not, fewer_look, look_holds, look_leaves, others_look}
use Rattle.afr_law_client.proofs.Removal.Refused.{answered_before, few_refuse, looks_refuse}
use Rattle.afr_law_client.proofs.Removal.Takers.{in_takers, takers_in, takers_suffice}

-- ---- what the looks rule out
-- the machine's causes are those of the lines
views_say : (shape : Shape) (looked : Looked) (r : Register) → by_views shape Names looked ≡ option_map (λ (why : RemovalEnding). reply_of why r) (against shape looked)
views_say shape looked r = go (is_majority shape.n looked.reached) (is_majority shape.n (holders_of looked)) (is_nothing (good_copies shape looked Names))
  where
    go : (x y z : Bool) → (if not x then Some reply.NoQuorum else (if not y then Some reply.FewCopies else (if z then Some (reply.SplitBrain looked.views) else None)))
        ≡ option_map (λ (why : RemovalEnding). reply_of why r) (if not x then Some NoQuorum else (if not y then Some FewCopies else (if z then Some (SplitBrain looked.views) else None)))
    go false y z = refl
    go true false z = refl
    go true true true = refl
    go true true false = refl

-- and none of them is a failure
never_fails : (shape : Shape) (looked : Looked) (r : Register) (why : RemovalEnding) → by_views shape Names looked ≡ Some (reply_of why r) → reply_of why r ≡ reply.Failed → ⊥
never_fails shape looked r why e f = go (is_majority shape.n looked.reached) (is_majority shape.n (holders_of looked)) (is_nothing (good_copies shape looked Names)) (e ∙ ap (λ (x : Reply). Some x) f)
  where
    go : (x y z : Bool) → (if not x then Some reply.NoQuorum else (if not y then Some reply.FewCopies else (if z then Some (reply.SplitBrain looked.views) else None))) ≡ Some reply.Failed → ⊥
    go false y z h = cc h
    go true false z h = cc h
    go true true true h = cc h
    go true true false h = cc h

module _ (p : Plan) (path : List NameId) (x : Removing) (w : Work) (removes : IsRemoval x.change) (base : IsBase x.change x.register) (k : RemovalGoes p path x.change x.register x.child.gfid w) (d : OnLooks p x.change x.register x.child w) (head : up_to (meets x.child.gfid) w ≡ w) (takers_are : x.child.takers ≡ takers_of x.register) where
  abbrev r : Register
  r = x.register

  abbrev g : Gfid
  g = object_of x.change

  abbrev area : Area
  area = area_for x.change

  abbrev child : Gfid
  child = x.child.gfid

  abbrev also : Area
  also = Name child None

  few : p.shape.n ≤ 5
  few = subst (λ (shape : Shape). shape.n ≤ 5) k.shape base.few

  -- ---- who was looked at
  all_looked : is_nothing (left Looking x) ≡ true → (b : ℕ) → held_in area (up_to (locks_area also) w) b ≡ true → held_in also (up_to (locks_area also) w) b ≡ true → member (among (looking child) w) b ≡ true
  all_looked e b one two = go (member (among (looking child) w) b) refl
    where
      go : (y : Bool) → member (among (looking child) w) b ≡ y → y ≡ true
      go true i = refl
      go false i =
          let both = d.left b one two i in
          let held : member (both_held r) b ≡ true = in_common r.held r.second_held b ∙ rw (d.holds.of_name b, d.holds.of_child b, both.0, both.1) refl in
          let asked : member (among (looking child) w) b ≡ true = subst (λ (s : List ℕ). member s b ≡ true) d.at (none_left (both_held r) x.child.look_asked e b held) in
          absurd (cc (i, asked))

  child_locked : is_nothing (left Looking x) ≡ true → IsChildLocked p g child area w
  child_locked e = record { all = d.all; looked = λ enough b one two. all_looked e b one two }

  -- ---- who doesn't take part missed something
  by_name : (b : ℕ) → b < p.shape.n → (y : Bool) → member (among (getting area) w) b ≡ y → (y ≡ true → member (missed_by g w) b ≡ true) → member (missed_by g w) b ≡ true
  by_name b small false e granted = k.excused.locked g area b (k.locked.locked.all b small) e
  by_name b small true e granted = granted refl

  no_holder : (b : ℕ) → b < p.shape.n → member (holders_of r.looked) b ≡ false → member (missed_by g w) b ≡ true
  no_holder b small out = by_name b small (member (among (getting area) w) b) refl (λ e. e2 e)
    where
      blank : is_holder (looked_by g w) b ≡ false
      blank = sym (member_holders (looked_by g w) b (omega (arith, few, small))) ∙ subst (λ (v : Looked). member (holders_of v) b ≡ false) k.looks out

      e2 : member (among (getting area) w) b ≡ true → member (missed_by g w) b ≡ true
      e2 e = k.excused.looked g k.locked.locked.locked b (k.locked.looked_all b e) blank

  no_name : (b : ℕ) → b < p.shape.n → member r.held b ≡ false → member (missed_by g w) b ≡ true
  no_name b small out = by_name b small (member (among (getting area) w) b) refl (λ e. lost_missed g area b w d.holds.kept e (sym (d.holds.of_name b) ∙ out))

  no_child : (b : ℕ) → member r.held b ≡ true → member r.second_held b ≡ false → member (missed_by g w) b ≡ true
  no_child b held out = asked (member (among (asking also) w) b) refl (d.all b (d.fewer b (sym (d.holds.of_name b) ∙ held)))
    where
      granted : member (among (asking also) w) b ≡ true → (y : Bool) → member (among (getting also) w) b ≡ y → member (missed_by g w) b ≡ true
      granted i false e = k.excused.locked g also b i e
      granted i true e = lost_missed g also b w d.holds.kept e (sym (d.holds.of_child b) ∙ out)

      asked : (y : Bool) → member (among (asking also) w) b ≡ y → y ≡ true → member (missed_by g w) b ≡ true
      asked y e i = granted (e ∙ i) (member (among (getting also) w) b) refl

  others : (b : ℕ) → b < p.shape.n → member x.child.takers b ≡ false → member (missed_by g w) b ≡ true
  others b small out = go (member (holders_of r.looked) b) refl (member r.held b) refl (member r.second_held b) refl
    where
      none : ((member r.second_held b && member r.held b) && member (holders_of r.looked) b) ≡ false
      none =
          sym (in_common (holders_of r.looked) (both_held r) b ∙ ap (λ (y : Bool). y && member (holders_of r.looked) b) (in_common r.held r.second_held b))
          ∙ subst (λ (s : List ℕ). member s b ≡ false) takers_are out

      go : (h : Bool) → member (holders_of r.looked) b ≡ h → (n : Bool) → member r.held b ≡ n → (c : Bool) → member r.second_held b ≡ c → member (missed_by g w) b ≡ true
      go false e n f c i = no_holder b small e
      go true e false f c i = no_name b small f
      go true e true f false i = no_child b f i
      go true e true f true i = absurd (cc (rw (e, f, i) at none))

  -- ---- where nobody is left to ask
  abbrev Enough : Bool
  Enough = suffices p.shape Names (looked_by g w) (takers_by x.change child w)

  enough_is : (y : Bool) → has_takers r ≡ y → Enough ≡ y
  enough_is y h = takers_suffice p path x.change r child w base k d.holds head y h

  views_are : against r.shape x.child.looked ≡ against p.shape (looked_by child w)
  views_are = ap (λ (shape : Shape). against shape x.child.looked) k.shape ∙ ap (λ (v : Looked). against p.shape v) d.shows

  judged : is_nothing (left Looking x) ≡ true → has_takers r ≡ true → against r.shape x.child.looked ≡ None → IsJudged p x.change x.child w
  judged e h none = record {
    child = child_locked e;
    majority = d.majority;
    take = λ b m. subst (λ (s : List ℕ). member s b ≡ true) (sym takers_are) (in_takers p path x.change r child w base k d.holds head b m);
    taken = λ b m. takers_in p path x.change r child w base k d.holds head b (subst (λ (s : List ℕ). member s b ≡ true) takers_are m);
    enough = enough_is true h;
    shows = d.shows;
    passes = views_say p.shape (looked_by child w) r ∙ ap (λ (o : Option RemovalEnding). option_map (λ (why : RemovalEnding). reply_of why r) o) (sym views_are ∙ none);
    others = others;
  }

  pub looks_gone : RemovalTells p path (on_stage (after Looking x) x) w
  looks_gone = go (is_nothing (left Looking x)) refl
    where
      rules_out : is_nothing (left Looking x) ≡ true → has_takers r ≡ true → (why : Option RemovalEnding) → against r.shape x.child.looked ≡ why → RemovalTells p path (on_stage (or_close why Listing) x) w
      rules_out e h None i = (k, d.opened, judged e h i)
      rules_out e h (Some why) i =
          let seen : by_views p.shape Names (looked_by child w) ≡ Some (reply_of why r) = views_say p.shape (looked_by child w) r ∙ ap (λ (o : Option RemovalEnding). option_map (λ (why : RemovalEnding). reply_of why r) o) (sym views_are ∙ i) in
          record {
            led = k.led;
            answered = answered_before p path x.change r x.child w removes k (reply_of why r) d.opened.idle.unbegun
                (looks_refuse p path x.change r x.child w removes k d.opened.unrefused d.majority (enough_is true h) ∙ ap (λ (o : Option Reply). or_else o (by_list (reading_by p w))) seen)
                (λ f. absurd (never_fails p.shape (looked_by child w) r why seen f)) (child_locked e);
          }

      takes : is_nothing (left Looking x) ≡ true → (y : Bool) → has_takers r ≡ y → RemovalTells p path (on_stage (if y then or_close (against r.shape x.child.looked) Listing else Closing NoQuorum) x) w
      takes e true h = rules_out e h (against r.shape x.child.looked) refl
      takes e false h = record {
        led = k.led;
        answered = answered_before p path x.change r x.child w removes k reply.NoQuorum d.opened.idle.unbegun (few_refuse p path x.change r x.child w removes k d.opened.unrefused (enough_is false h)) (λ i. absurd (cc i)) (child_locked e);
      }

      go : (y : Bool) → is_nothing (left Looking x) ≡ y → RemovalTells p path (on_stage (if y then gone_on Looking r x.child else Looking) x) w
      go true e = takes e (has_takers r) refl
      go false e = (k, d)

-- ---- a look
look_same : (b : ℕ) (told : Told) (looked : Looked) → noted_look b told looked ≡ look_shows b told looked
look_same b (as_told.Seen view) looked = refl
look_same b as_told.NoObject looked = refl
look_same b told looked = refl

module _ (p : Plan) (path : List NameId) (m : Removing) (w : Work) (a : ActorId) (chosen : BrickId) (heard : Answer) (took : Bool) (log : List Line) (s : Sound m) (k : RemovalGoes p path m.change m.register m.child.gfid w) (d : OnLooks p m.change m.register m.child w) (e : IsAsking Looking m) (can : CanTell (request_at Looking m) heard) where
  abbrev told : Told
  told = told_by heard

  abbrev b : BrickId
  b = record { 0 = brick_at Looking m }

  abbrev name : Area
  name = area_for m.change

  abbrev whole_child : Area
  whole_child = Name m.child.gfid None

  abbrev q : Register
  q = after_outside m.register b.0 (request.Look m.child.gfid) told

  -- the copy that is listed then is the one that was chosen
  abbrev now : Removing
  now = reads_at chosen Looking (sets_after Looking b.0 told q m)

  abbrev more : Work
  more = (Ask a b (request.Look m.child.gfid) told took, log) ∷ w

  small : b.0 < m.register.shape.n
  small = s.base.held_within b.0 (look_asked m e)

  goes_on : RemovalGoes p path m.change q m.child.gfid more
  goes_on =
      goes_look p path m.change m.register q m.child.gfid a b told took log w k
      (look_leaves m.register b m.child.gfid told (counts_not m.register b m.change m.child.gfid s.areas.named k.words.apart)) d.locked
      (ask_excused a b (request.Look m.child.gfid) told took log w can.fits can.phase tt (omega (arith, small, s.base.few)) k.excused)
      (calm_ask a b (request.Look m.child.gfid) told took log w tt tt k.calm)

  looked_now : among (looking m.child.gfid) more ≡ added b.0 (among (looking m.child.gfid) w)
  looked_now = rw (self m.child.gfid.0) refl

  on_looks : OnLooks p m.change q now.child more
  on_looks = record {
    opened = record { idle = d.opened.idle; unread = d.opened.unread; unrefused = d.opened.unrefused };
    holds = look_holds m.register b name whole_child m.child.gfid a told took log w d.holds;
    locked = d.locked;
    all = d.all;
    fewer = λ c h. d.fewer c (fewer_look name m.child.gfid a b told took (among (holding name) w) c h);
    majority = d.majority;
    shows = rw (self m.child.gfid.0, ← d.shows) (look_same b.0 told m.child.looked);
    at = ap (added b.0) d.at ∙ sym looked_now;
    left = λ c one two out.
        let parts = no_or (b.0 == c) (member (among (looking m.child.gfid) w) c) (sym (member_added b.0 (among (looking m.child.gfid) w) c) ∙ subst (λ (x : List ℕ). member x c ≡ false) looked_now out) in
        let both = d.left c one two parts.1 in (
          others_look name m.child.gfid a b told took (among (holding name) w) c parts.0 both.0,
          others_look whole_child m.child.gfid a b told took (among (holding whole_child) w) c parts.0 both.1,
        );
  }

  pub told_look : RemovalTells p path (answered chosen Looking heard (length log) m) more
  told_look =
      subst (λ (x : Register). RemovalTells p path (moved chosen Looking b.0 heard x m) more) (sym (noted_is m.register (length log) b.0 (request_at Looking m) told s.base.outside))
      (looks_gone p path now more s.removes (look_base m.change whole_child m.register b.0 small s.base s.areas m.child.gfid told) goes_on on_looks (rw (self m.child.gfid.0) refl) refl)

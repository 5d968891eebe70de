-- What the rule is asked for by the looks at a directory that is removed is what the lines say.
use Rattle.std.proofs.Common.{◌≡◌, ◌∙◌, ℕ, ◌-◌, ◌<◌, ◌==◌, ◌&&◌, ◌||◌, not, Bool, true, false, List, [], ◌∷◌, Option, None, Some, refl, sym, ap, subst, arith, filter, length, map, if◌then◌else◌}
use Rattle.std.specs.Prelude.{is_some}
use Rattle.std.proofs.lemmas.Bool.Decides.{nat_tests}
use Rattle.std.proofs.lemmas.Bool.{or_right}
use Rattle.afr_base.specs.Bricks.{IsIn, added, all_five, is_nothing, member, minus}
use Rattle.afr_base.specs.Majority.{is_majority}
use Rattle.afr_base.specs.SetLemmas.{none_left}
use Rattle.afr_base.specs.declared.ids.ActorId.{ActorId}
use Rattle.afr_base.specs.declared.ids.BrickId.{BrickId}
use Rattle.afr_base.specs.declared.ids.Gfid.{Gfid}
use Rattle.afr_base.specs.declared.ids.Kind.{Kind}
use Rattle.afr_base.specs.declared.ids.Kind.TheVariants.{Names}
use Rattle.afr_base.specs.declared.ids.NameId.{NameId}
use Rattle.afr_base.specs.declared.ids.Shape.{Shape}
use Rattle.afr_base.proofs.TestLemmas.{not_below_itself, same_test}
use Rattle.afr_base.proofs.RisingLemmas.{has_passing}
use Rattle.afr_choice.specs.Verdict.{good_copies, holders_of}
use Rattle.afr_choice.specs.declared.looked.Looked.{Looked}
use Rattle.afr_discipline.specs.declared.register.Register.{Register}
use Rattle.afr_discipline.proofs.FirstLemmas.{in_common}
use Rattle.afr_law_client.proofs.Read.Quiet.{looking_more}
use Rattle.afr_lines.specs.Areas.{area_for}
use Rattle.afr_lines.specs.Told.{told_by}
use Rattle.afr_lines.specs.Work.{Work}
use Rattle.afr_lines.specs.declared.answer.Answer.{Answer}
use Rattle.afr_lines.specs.declared.answer.Told.{Told}
use Rattle.afr_lines.specs.declared.line.Line.{Line}
use Rattle.afr_lines.specs.declared.line.Line.TheVariants.{Ask}
use Rattle.afr_lines.specs.declared.line.Next.TheVariants as next
use Rattle.afr_lines.specs.declared.reply.Reply.{Reply}
use Rattle.afr_lines.specs.declared.reply.Reply.TheVariants as reply
use Rattle.afr_lines.specs.declared.reply.Good.TheVariants as good
use Rattle.afr_lines.specs.declared.request.Area.{Area}
use Rattle.afr_lines.specs.declared.request.Area.TheVariants.{Name}
use Rattle.afr_lines.specs.declared.request.Request.{Request}
use Rattle.afr_lines.specs.declared.request.Request.TheVariants as request
use Rattle.afr_model.specs.Answered.{Answers, IsCaused, Refuses, Stats, is_by_views}
use Rattle.afr_model.specs.Chosen as model
use Rattle.afr_model.specs.Refusals.{refusal}
use Rattle.afr_model.specs.Showing.{Path, At, among, begins_attempt, has, looked_by, looking, path_by, posted}
use Rattle.afr_model.specs.Standing.{place_by}
use Rattle.afr_object.specs.Tables.{object_of}
use Rattle.afr_plan.specs.declared.command.Command.{Command}
use Rattle.afr_plan.specs.declared.command.Command.TheVariants as command
use Rattle.afr_plan.specs.declared.plan.Plan.{Plan}
use Rattle.afr_law_client.proofs.Entry.Names.{upto_stays}
use Rattle.afr_law_picks.proofs.Asked.{AsksAs}
use Rattle.afr_law_picks.proofs.Asks.{ask_same}
use Rattle.afr_law_picks.proofs.Rule.{candidates_are, numbers_of}
use Rattle.afr_law_picks.specs.Readings.{are_over, area_at, asked_at, holds_lock, kind_here, locked_here}
use Rattle.afr_client_entry.specs.Removals.Removal.{Removing, against, answered, asks, both_held, brick_at, choices_at, has_takers, is_beginning, is_over, left, next_at, offered, or_close, register_after, reply_of, sets_after}
use Rattle.afr_client_entry.specs.Removals.Sound.{Sound}
use Rattle.afr_client_entry.specs.declared.removing.stage.RemovalEnding.{RemovalEnding}
use Rattle.afr_client_entry.specs.declared.removing.stage.RemovalEnding.TheVariants as ending
use Rattle.afr_client_entry.specs.declared.removing.stage.RemovalStage.{RemovalStage}
use Rattle.afr_client_entry.specs.declared.removing.stage.RemovalStage.TheVariants.{Applying, Beginning, Closing, Listing, Locking, Looking, Posting, Preparing}
use Rattle.afr_law_client.proofs.Removal.Notes.{look_holds}
use Rattle.afr_law_client.specs.Removal.RemovalTelling.{AreHeld, During, OnLooks, RemovalGoes, RemovalTells, dir_at, held_in}
use Rattle.afr_client_transaction.proofs.Requests.{after_outside, noted_is}
use Rattle.afr_law_client.proofs.Small.{self}
use Rattle.afr_client_walk.specs.Choosing.{candidates_of}

-- ---- small facts
-- nobody is left of a set within another
none_out : (s t : List ℕ) → IsIn s t → is_nothing (minus s t) ≡ true
none_out [] t h = refl
none_out (x ∷ xs) t h = go (member t x) (h x (rw (self x) refl)) (none_out xs t (λ y m. h y (or_right (x == y) (member xs y) m)))
  where
    go : (m : Bool) → m ≡ true → is_nothing (minus xs t) ≡ true → is_nothing (if m then minus xs t else x ∷ minus xs t) ≡ true
    go true e ih = ih
    go false e ih = absurd (cc e)

-- of two sets with the same members the same is left
nothing_same : (s t u : List ℕ) → ((y : ℕ) → member s y ≡ member t y) → is_nothing (minus s u) ≡ is_nothing (minus t u)
nothing_same s t u same = same_test (is_nothing (minus s u)) (is_nothing (minus t u)) (λ e. none_out t u (λ y m. none_left s u e y (same y ∙ m))) (λ e. none_out s u (λ y m. none_left t u e y (sym (same y) ∙ m)))

-- ---- replies by views refuse
no_posts : (begun done : Bool) (said : Reply) → (if begun then Some (if done then reply.Ok good.Done else reply.Failed) else None) ≡ Some said → is_by_views said ≡ true → ⊥
no_posts true true said e h = let f = ap plain e in cc (f, h)
  where
    plain : Option Reply → Bool
    plain None = false
    plain (Some reply) = is_by_views reply
no_posts true false said e h = let f = ap plain e in cc (f, h)
  where
    plain : Option Reply → Bool
    plain None = false
    plain (Some reply) = is_by_views reply
no_posts false done said e h = cc e

views_refuse : (p : Plan) (path : List NameId) (w : Work) (said : Reply) → IsCaused p (command.Rmdir path) w said → is_by_views said ≡ true → not (is_some (refusal p (command.Rmdir path) w)) ≡ false
views_refuse p path w said (Refuses e) h = ap (λ (x : Option Reply). not (is_some x)) e
views_refuse p path w said (Answers e object place ans) h = absurd (no_posts (has begins_attempt w) (is_majority p.shape.n (among posted w)) said ans h)
views_refuse p path w said (Stats e names is object place stat) h = absurd (cc is)

-- what the looks rule out is told by views
against_views : (shape : Shape) (looked : Looked) (r : Register) (why : RemovalEnding) → against shape looked ≡ Some why → is_by_views (reply_of why r) ≡ true
against_views shape looked r why e = go (is_majority shape.n looked.reached) (is_majority shape.n (holders_of looked)) (is_nothing (good_copies shape looked Names)) e
  where
    views : Option RemovalEnding → Bool
    views None = true
    views (Some why) = is_by_views (reply_of why r)

    go : (x y z : Bool) → (if not x then Some ending.NoQuorum else (if not y then Some ending.FewCopies else (if z then Some (ending.SplitBrain looked.views) else None))) ≡ Some why → is_by_views (reply_of why r) ≡ true
    go false y z e = sym (ap views e)
    go true false z e = sym (ap views e)
    go true true true e = sym (ap views e)
    go true true false e = absurd (cc e)

-- ---- a look at the directory
module _ (p : Plan) (path : List NameId) (m : Removing) (lines : Work) (a : ActorId) (chosen : BrickId) (heard : Answer) (took : Bool) (log : List Line) (at : ℕ) where
  abbrev c : Command
  c = command.Rmdir path

  abbrev child : Gfid
  child = m.child.gfid

  abbrev told : Told
  told = told_by heard

  abbrev b : BrickId
  b = record { 0 = brick_at Looking m }

  abbrev more : Work
  more = (Ask a b (request.Look child) told took, log) ∷ lines

  abbrev name : Area
  name = area_for m.change

  abbrev also : Area
  also = Name child None

  abbrev now : Removing
  now = answered chosen Looking heard at m

  abbrev x : Removing
  x = sets_after Looking b.0 told (register_after Looking heard at m) m

  module _ (sound : Sound m) (k : RemovalGoes p path m.change m.register child lines) (d : OnLooks p m.change m.register m.child lines) (after : Sound now) (tells : RemovalTells p path now more) (goes_on : now.stage ≡ Listing → refusal p c more ≡ None) where
    register_is : x.register ≡ after_outside m.register b.0 (request.Look child) told
    register_is = noted_is m.register at b.0 (request.Look child) told sound.base.outside

    holds : AreHeld name also x.register more
    holds = subst (λ (r : Register). AreHeld name also r more) (sym register_is) (look_holds m.register b name also child a told took log lines d.holds)

    small : (y : ℕ) → member x.register.held y ≡ true → member all_five y ≡ true
    small y h = let l = after.base.held_within y h in let few = after.base.few in five y (omega (arith, l, few))
      where
        five : (y : ℕ) → y < 5 → member all_five y ≡ true
        five y l = grind (arith, nat_tests, l)

    abbrev both_in : ℕ → Bool
    both_in y = held_in name more y && held_in also more y

    place : place_by p c more ≡ At (length path - 1) (dir_at (object_of m.change))
    place = upto_stays (length path - 1) p lines (Ask a b (request.Look child) told took) log (dir_at (object_of m.change)) k.led.place

    locked_is : locked_here p c (path_by p more) more ≡ filter both_in all_five
    locked_is =
        ap (λ (y : Path). locked_here p c y more) k.led.leads
        ∙ (rw (self (length path)) refl)
        ∙ ap (λ (y : Option Area). filter (λ b. holds_lock y more b && holds_lock (Some also) more b) all_five) (ap (λ (y : Path). area_at c y) place ∙ k.words.area)

    members : (y : ℕ) → member (filter both_in all_five) y ≡ member (both_held x.register) y
    members y =
        has_passing both_in all_five y
        ∙ (λ i. (sym (holds.of_name y) i && sym (holds.of_child y) i) && member all_five y)
        ∙ turn (member x.register.held y) (member x.register.second_held y) (member all_five y) (small y)
        ∙ sym (in_common x.register.held x.register.second_held y)
      where
        turn : (h s f : Bool) → (h ≡ true → f ≡ true) → ((h && s) && f) ≡ (s && h)
        turn true true f l = l refl
        turn true false f l = refl
        turn false true f l = refl
        turn false false f l = refl

    looked_is : among (looking child) more ≡ x.child.look_asked
    looked_is = looking_more child a b told took log lines ∙ ap (added b.0) (sym d.at)

    over_is : are_over p c child more ≡ is_nothing (left Looking x)
    over_is =
        (rw d.locked refl)
        ∙ (λ i. is_nothing (minus (locked_is i) (looked_is i)))
        ∙ nothing_same (filter both_in all_five) (both_held x.register) x.child.look_asked members

    kind_is : kind_here c (At (length path) (dir_at child)) ≡ Some Names
    kind_is = rw (not_below_itself (length path)) refl

    abbrev from : List (ℕ × ℕ)
    from = model.candidates_of p.shape Names (looked_by child more)

    -- where it comes to the list
    listed : now.stage ≡ Listing → from ≡ map numbers_of (candidates_of x.register.shape x.child.looked Names)
    listed e = sym (go (subst (λ (s : RemovalStage). During s p path now more) e tells))
      where
        go : During Listing p path now more → map numbers_of (candidates_of x.register.shape x.child.looked Names) ≡ from
        go k =
            candidates_are x.register.shape x.child.looked Names
            ∙ ap (λ (s : Shape). model.candidates_of s Names x.child.looked) k.0.shape
            ∙ ap (λ (l : Looked). model.candidates_of p.shape Names l) k.2.shows

    -- where it is refused
    closed : (why : RemovalEnding) → now.stage ≡ Closing why → is_by_views (reply_of why now.register) ≡ true → not (is_some (refusal p c more)) ≡ false
    closed why e h = go (subst (λ (s : RemovalStage). During s p path now more) e tells)
      where
        go : During (Closing why) p path now more → not (is_some (refusal p c more)) ≡ false
        go k = views_refuse p path more (reply_of why now.register) k.answered.caused h

    by_stage : (o : Bool) → is_nothing (left Looking x) ≡ o → (h : Bool) → has_takers x.register ≡ h → (why : Option RemovalEnding) → against x.register.shape x.child.looked ≡ why
        → (if o && not (is_some (refusal p c more)) then from else []) ≡ map numbers_of (offered (if o then (if h then or_close why Listing else Closing ending.NoQuorum) else Looking) x.register.shape x.child.looked)
    by_stage false over h has why rules = refl
    by_stage true over false has why rules =
        let stage_is : now.stage ≡ Closing ending.NoQuorum = λ i. if over i then (if has i then or_close (rules i) Listing else Closing ending.NoQuorum) else Looking in
        ap (λ (y : Bool). if y then from else []) (closed ending.NoQuorum stage_is refl)
    by_stage true over true has (Some why) rules =
        let stage_is : now.stage ≡ Closing why = λ i. if over i then (if has i then or_close (rules i) Listing else Closing ending.NoQuorum) else Looking in
        ap (λ (y : Bool). if y then from else []) (closed why stage_is (against_views x.register.shape x.child.looked now.register why rules))
    by_stage true over true has None rules =
        let stage_is : now.stage ≡ Listing = λ i. if over i then (if has i then or_close (rules i) Listing else Closing ending.NoQuorum) else Looking in
        ap (λ (y : Option Reply). if not (is_some y) then from else []) (goes_on stage_is) ∙ listed stage_is

    pub child_asks : asked_at p c child (kind_here c (path_by p more)) more ≡ map numbers_of (choices_at Looking heard at m)
    child_asks =
        ap (λ (y : Path). asked_at p c child (kind_here c y) more) k.led.leads
        ∙ ap (λ (y : Option Kind). asked_at p c child y more) kind_is
        ∙ ap (λ (y : Bool). if y && not (is_some (refusal p c more)) then from else []) over_is
        ∙ by_stage (is_nothing (left Looking x)) refl (has_takers x.register) refl (against x.register.shape x.child.looked) refl

-- ---- a line of a removal
pub removal_asks : (p : Plan) (path : List NameId) (m : Removing) (lines : Work) (a : ActorId) (b : BrickId) (asked : Request) (chosen : BrickId) (heard : Answer) (took : Bool) (log : List Line) (at : ℕ) → Sound m → RemovalTells p path m lines → next_at m.stage m ≡ next.Ask b asked
    → Sound (if is_beginning m.stage then m else answered chosen m.stage heard at m) → RemovalTells p path (if is_beginning m.stage then m else answered chosen m.stage heard at m) ((Ask a b asked (told_by heard) took, log) ∷ lines)
    → ((if is_beginning m.stage then m else answered chosen m.stage heard at m).stage ≡ Listing → refusal p (command.Rmdir path) ((Ask a b asked (told_by heard) took, log) ∷ lines) ≡ None)
    → AsksAs p (command.Rmdir path) asked ((Ask a b asked (told_by heard) took, log) ∷ lines) (if is_beginning m.stage then [] else choices_at m.stage heard at m)
removal_asks p path m lines a b asked chosen heard took log at sound k e after tells goes_on = by m.stage k e after tells goes_on
  where
    by : (stage : RemovalStage) → During stage p path m lines → next_at stage m ≡ next.Ask b asked → Sound (if is_beginning stage then m else answered chosen stage heard at m)
        → RemovalTells p path (if is_beginning stage then m else answered chosen stage heard at m) ((Ask a b asked (told_by heard) took, log) ∷ lines)
        → ((if is_beginning stage then m else answered chosen stage heard at m).stage ≡ Listing → refusal p (command.Rmdir path) ((Ask a b asked (told_by heard) took, log) ∷ lines) ≡ None)
        → AsksAs p (command.Rmdir path) asked ((Ask a b asked (told_by heard) took, log) ∷ lines) (if is_beginning stage then [] else choices_at stage heard at m)
    by Locking k e after tells goes_on = ask_same (λ y r. AsksAs p (command.Rmdir path) r ((Ask a y r (told_by heard) took, log) ∷ lines) []) _ b _ asked e refl
    by Looking k e after tells goes_on =
        ask_same (λ y r. RemovalTells p path (answered chosen Looking heard at m) ((Ask a y r (told_by heard) took, log) ∷ lines)
        → ((answered chosen Looking heard at m).stage ≡ Listing → refusal p (command.Rmdir path) ((Ask a y r (told_by heard) took, log) ∷ lines) ≡ None)
        → AsksAs p (command.Rmdir path) r ((Ask a y r (told_by heard) took, log) ∷ lines) (choices_at Looking heard at m)) _ b _ asked e
        (λ tells goes_on. child_asks p path m lines a chosen heard took log at sound k.0 k.1 after tells goes_on) tells goes_on
    by Listing k e after tells goes_on = ask_same (λ y r. AsksAs p (command.Rmdir path) r ((Ask a y r (told_by heard) took, log) ∷ lines) []) _ b _ asked e refl
    by Beginning k e after tells goes_on = absurd (cc e)
    by Preparing k e after tells goes_on = ask_same (λ y r. AsksAs p (command.Rmdir path) r ((Ask a y r (told_by heard) took, log) ∷ lines) []) _ b _ asked e refl
    by Applying k e after tells goes_on = ask_same (λ y r. AsksAs p (command.Rmdir path) r ((Ask a y r (told_by heard) took, log) ∷ lines) []) _ b _ asked e refl
    by Posting k e after tells goes_on = ask_same (λ y r. AsksAs p (command.Rmdir path) r ((Ask a y r (told_by heard) took, log) ∷ lines) []) _ b _ asked e refl
    by (Closing why) k e after tells goes_on = go (is_over (Closing why) m) e
      where
        go : (over : Bool) → (if over then next.End (reply_of why m.register) else asks (Closing why) m) ≡ next.Ask b asked → AsksAs p (command.Rmdir path) asked ((Ask a b asked (told_by heard) took, log) ∷ lines) []
        go true e = absurd (cc e)
        go false e = ask_same (λ y r. AsksAs p (command.Rmdir path) r ((Ask a y r (told_by heard) took, log) ∷ lines) []) _ b _ asked e refl

-- The next line of a removal is one that the discipline allows.
use Rattle.std.proofs.Common.{◌⊎◌, ◌≡◌, ℕ, ◌<◌, ◌&&◌, ◌||◌, not, ◌==◌, arith, Bool, true, false, List, [], ◌∷◌, refl, sym, ◌∙◌, ap, subst, inl, inr, Option, None, Some, if◌then◌else◌}
use Rattle.std.proofs.lemmas.Bool.{ltb-true}
use Rattle.afr_base.specs.Bricks.{lowest, member, is_nothing}
use Rattle.afr_base.specs.Majority.{is_majority}
use Rattle.afr_base.specs.SetLemmas.{lowest_in, lowest_left}
use Rattle.afr_base.specs.declared.ids.BrickId.{BrickId}
use Rattle.afr_base.specs.declared.ids.Kind.{Kind}
use Rattle.afr_base.specs.declared.ids.Kind.TheVariants.{Names}
use Rattle.afr_object.specs.Tables.{object_of}
use Rattle.afr_choice.specs.VerdictLemmas.{holders_below}
use Rattle.afr_lines.specs.declared.line.Next.{Next}
use Rattle.afr_lines.specs.declared.line.Next.TheVariants as next
use Rattle.afr_lines.specs.declared.reply.Good.TheVariants as good
use Rattle.afr_lines.specs.declared.reply.Reply.TheVariants as reply
use Rattle.afr_lines.specs.declared.request.Area.{Area}
use Rattle.afr_lines.specs.declared.request.Request.{Request}
use Rattle.afr_model_moves.specs.Keeps.{keeps_in}
use Rattle.afr_model_moves.specs.Lines.{is_ok}
use Rattle.afr_model_moves.specs.Register.{kind_in}
use Rattle.afr_model_moves.specs.Rules.{busy, is_area}
use Rattle.afr_model_moves.specs.Sets.{any}
use Rattle.afr_model_moves.proofs.AreaLemmas.{same_area_self}
use Rattle.afr_discipline.specs.Notes.{asked_at}
use Rattle.afr_discipline.specs.Stands.{number_of, seen_as, views_of}
use Rattle.afr_discipline.specs.Tests.{is_open, last_posted, may_end, one_of, plane_in, suffices_by}
use Rattle.afr_discipline.specs.declared.register.Move.{Move}
use Rattle.afr_discipline.specs.declared.register.Move.TheVariants as move
use Rattle.afr_discipline.specs.declared.register.Register.{Register}
use Rattle.afr_discipline.specs.declared.register.Step.TheVariants as step
use Rattle.afr_client_transaction.specs.Laws as laws
use Rattle.afr_client_transaction.specs.Progress.{allowed, enough}
use Rattle.afr_client_transaction.proofs.Allowed.{moves_of, on_plane, once_is, others_missed, some_number}
use Rattle.afr_client_transaction.proofs.Parts.{any_nothing, both, deny, holder_shows, lt_test, pair}
use Rattle.afr_discipline.specs.Free as free
use Rattle.afr_discipline.specs.Free.{Allows}
use Rattle.afr_client_entry.specs.Removals.Laws.{AllowedMoves}
use Rattle.afr_client_entry.specs.Removals.Removal.{Removing, asks, brick_at, is_beginning, is_over, left, next_at, reply_of, request_at, sources, whole}
use Rattle.afr_client_entry.specs.Removals.Sound.{During, Ready, Sound}
use Rattle.afr_client_entry.specs.declared.removing.stage.RemovalEnding.{RemovalEnding}
use Rattle.afr_client_entry.specs.declared.removing.stage.RemovalEnding.TheVariants.{Counted, NoQuorum, FewCopies, SplitBrain, NotEmpty, Failed}
use Rattle.afr_client_entry.specs.declared.removing.stage.RemovalStage.{RemovalStage}
use Rattle.afr_client_entry.specs.declared.removing.stage.RemovalStage.TheVariants.{Locking, Looking, Listing, Beginning, Preparing, Applying, Posting, Closing}
use Rattle.afr_client_entry.proofs.Removals.Facts.{is_busy, list_asked, lock_asked, look_asked, of_names, suits}

-- the child's area is open to a transaction that has none other
one_more : (x : Bool) (child : Area) (second : Option Area) (held : List ℕ) → ((second ≡ None) × (held ≡ [])) ⊎ (second ≡ Some child) → (x || is_open second || is_area second child) ≡ true
one_more true child second held k = refl
one_more false child second held (inl e) = subst (λ (o : Option Area). (false || is_open o || is_area o child) ≡ true) (sym e.0) refl
one_more false child second held (inr e) = subst (λ (o : Option Area). (false || is_open o || is_area o child) ≡ true) (sym e) (same_area_self child)

none_in : (n : ℕ) (s : List ℕ) → is_nothing s ≡ true → any n (member s) ≡ false
none_in n [] h = any_nothing n
none_in n (x ∷ xs) h = absurd (cc h)

-- nothing is left to unlock
nothing_held : (s h : List ℕ) → is_nothing (if is_nothing s then h else s) ≡ true → (is_nothing s ≡ true) × (is_nothing h ≡ true)
nothing_held [] h e = (refl, e)
nothing_held (x ∷ xs) h e = absurd (cc e)

module _ (m : Removing) (s : Sound m) where
  abbrev r : Register
  r = m.register

  abbrev n : ℕ
  n = r.shape.n

  lock_allowed : During Locking m → Ready Locking m → allowed r (asks Locking m) ≡ true
  lock_allowed d ready = pair _ _ (lt_test _ _ small) (pair _ _ refl (by_busy (busy n (seen_as r).law) (is_busy r (lowest (left Locking m)) small held)))
    where
      held : member r.held (lowest (left Locking m)) ≡ true
      held = lock_asked m ready

      small : lowest (left Locking m) < n
      small = s.base.held_within _ held

      by_busy : (x : Bool) → x ≡ true → (if x then not r.unlocked && one_of (seen_as r).law (whole m.child) else last_posted n (seen_as r).law) ≡ true
      by_busy true e = pair _ _ (deny _ d.0.open_still) (one_more (is_area r.area (whole m.child)) (whole m.child) r.second r.second_held s.areas.second_is)
      by_busy false e = absurd (cc e)

  look_allowed : Ready Looking m → allowed r (asks Looking m) ≡ true
  look_allowed ready = pair _ _ (lt_test _ _ (s.base.held_within _ (look_asked m ready))) refl

  list_allowed : member (sources m) m.child.reader.0 ≡ true → allowed r (asks Listing m) ≡ true
  list_allowed good = pair _ _ (lt_test _ _ (list_asked m s.child good)) refl

  plane : plane_in r.area (object_of m.change).0 Names ≡ true
  plane = subst (λ (kind : Kind). plane_in r.area (object_of m.change).0 kind ≡ true) (of_names m.change s.removes) (on_plane m.change r.area (suits m.change s.removes) s.areas.named)

  pre_allowed : During Preparing m → Ready Preparing m → allowed r (asks Preparing m) ≡ true
  pre_allowed d ready =
      let asked = lowest_left m.child.takers (asked_at r step.Pres) ready in
      let holds = d.1.among _ asked.1 in
      let shows = holder_shows _ r.looked holds (holders_below r.looked _ holds) in
      pair _ _ (lt_test _ _ (s.base.shown.reached _ shows.1))
      (pair _ _ (pair _ _ (pair _ _ (some_number d.0.number r.begun d.0.is_begun).0 plane) shows.0) (once_is 2 m.change r step.Pres _ d.0 refl asked.0))

  kind_named : (t : List ℕ) → enough r Names t ≡ true → suffices_by n (keeps_in r.shape) (kind_in r.area) (views_of r.looked) (member t) ≡ true
  kind_named t h =
      let kind : kind_in r.area ≡ Names = ap kind_in s.areas.named ∙ (suits m.change s.removes).kind ∙ of_names m.change s.removes in
      subst (λ (k : Kind). suffices_by n (keeps_in r.shape) k (views_of r.looked) (member t) ≡ true) (sym kind) h

  apply_allowed : During Applying m → Ready Applying m → allowed r (asks Applying m) ≡ true
  apply_allowed d ready =
      let asked = lowest_left r.pre (asked_at r step.Applies) ready in
      pair _ _ (lt_test _ _ (s.base.pre_within _ asked.1))
      (pair _ _ (pair _ _ (pair _ _ (some_number d.0.number r.begun d.0.is_begun).1 asked.1) (kind_named r.pre d.1)) (once_is 3 m.change r step.Applies _ d.0 refl asked.0))

  post_allowed : During Posting m → Ready Posting m → allowed r (asks Posting m) ≡ true
  post_allowed d ready =
      let asked = lowest_left r.done (asked_at r step.Posts) ready in
      pair _ _ (lt_test _ _ (s.base.done_within _ asked.1))
      (pair _ _ (pair _ _ (pair _ _ (pair _ _ (pair _ _ (some_number d.0.number r.begun d.0.is_begun).1 plane) asked.1) d.1) (once_is 4 m.change r step.Posts _ d.0 refl asked.0))
      (others_missed n r.done s.base.few))

  -- nothing is held at the end, and an ok is one of a majority
  end_allowed : (why : RemovalEnding) → is_nothing (left (Closing why) m) ≡ true → may_end n (seen_as r) (is_ok (reply_of why r)) ≡ true
  end_allowed why h = pair _ _ (pair _ _ (deny _ free) (deny _ (subst (λ (t : List ℕ). any n (member t) ≡ false) (sym s.base.none_healing) (any_nothing n)))) (acknowledged why)
    where
      none : (is_nothing r.second_held ≡ true) × (is_nothing r.held ≡ true)
      none = nothing_held r.second_held r.held h

      neither : (x y : Bool) → x ≡ false → y ≡ false → (x || y) ≡ false
      neither true y e f = absurd (cc e)
      neither false y e f = f

      free : busy n (seen_as r).law ≡ false
      free = neither _ _ (none_in n r.held none.1) (none_in n r.second_held none.0)

      by_count : (most first : Bool) → (not (is_ok (if most then reply.Ok good.Done else reply.Failed)) || (first || most)) ≡ true
      by_count true true = refl
      by_count true false = refl
      by_count false first = refl

      acknowledged : (why : RemovalEnding) → (not (is_ok (reply_of why r)) || last_posted n (seen_as r).law) ≡ true
      acknowledged Counted = by_count (is_majority n r.post) (number_of r.begun == 0)
      acknowledged NoQuorum = refl
      acknowledged FewCopies = refl
      acknowledged (SplitBrain views) = refl
      acknowledged NotEmpty = refl
      acknowledged Failed = refl

  unlock_small : (s h : List ℕ) → ((b : ℕ) → member s b ≡ true → b < n) → ((b : ℕ) → member h b ≡ true → b < n) → is_nothing (if is_nothing s then h else s) ≡ false → lowest (if is_nothing s then h else s) < n
  unlock_small [] h one two e = two _ (lowest_in h e)
  unlock_small (x ∷ xs) h one two e = one _ (lowest_in (x ∷ xs) refl)

  close_allowed : (why : RemovalEnding) → allowed r (next_at (Closing why) m) ≡ true
  close_allowed why = go (is_nothing (left (Closing why) m)) refl
    where
      go : (x : Bool) → is_nothing (left (Closing why) m) ≡ x → allowed r (if x then next.End (reply_of why r) else asks (Closing why) m) ≡ true
      go true e = end_allowed why e
      go false e = pair _ _ (lt_test _ _ (unlock_small r.second_held r.held s.areas.within s.base.held_within e)) refl

  allowed_at : (stage : RemovalStage) → During stage m → Ready stage m → allowed r (next_at stage m) ≡ true
  allowed_at Locking d ready = lock_allowed d ready
  allowed_at Looking d ready = look_allowed ready
  allowed_at Listing d ready = list_allowed d.2
  allowed_at Beginning d ready = d.0
  allowed_at Preparing d ready = pre_allowed d ready
  allowed_at Applying d ready = apply_allowed d ready
  allowed_at Posting d ready = post_allowed d ready
  allowed_at (Closing why) d ready = close_allowed why

-- whatever the bricks have answered so far, the next line is allowed
pub allowed_moves : AllowedMoves
allowed_moves m s step is = moves_of m.register (next_at m.stage m) step s.base.outside (allowed_at m s m.stage s.during s.ready) is

-- a move of a line is one for the transaction too
moves : (line : Next) (of : Move) → free.IsMoveOf line of → laws.IsMoveOf line of
moves (next.Ask b request) (move.Ask c asked) is = is
moves (next.Begin change) (move.Begin of) is = is
moves (next.End said) (move.End ok) is = is
moves line of is = absurd is

pub allows_next : (m : Removing) → Sound m → Allows m.register (next_at m.stage m)
allows_next m s of is = allowed_moves m s of (moves (next_at m.stage m) of is)

-- ---- whom the next line asks
-- a removal that is neither over nor at its Begin line asks
next_asks : (stage : RemovalStage) (m : Removing) → is_over stage m ≡ false → is_beginning stage ≡ false → next_at stage m ≡ asks stage m
next_asks Locking m more away = refl
next_asks Looking m more away = refl
next_asks Listing m more away = refl
next_asks Beginning m more away = absurd (cc away)
next_asks Preparing m more away = refl
next_asks Applying m more away = refl
next_asks Posting m more away = refl
next_asks (Closing why) m more away = rw more refl

-- the request that the next line says is the stage's
pub asked_is : (m : Removing) (b : BrickId) (q : Request) → is_over m.stage m ≡ false → is_beginning m.stage ≡ false → next_at m.stage m ≡ next.Ask b q → (b.0 ≡ brick_at m.stage m) × (q ≡ request_at m.stage m)
asked_is m b q more away e = go (sym (next_asks m.stage m more away) ∙ e)
  where
    brick_in : Next → ℕ
    brick_in (next.Ask c r) = c.0
    brick_in other = 0

    go : asks m.stage m ≡ next.Ask b q → (b.0 ≡ brick_at m.stage m) × (q ≡ request_at m.stage m)
    go h = (sym (ap brick_in h), sym (cc h))

-- and of one of the five bricks
pub asked_small : (m : Removing) → Sound m → (b : BrickId) (q : Request) → next_at m.stage m ≡ next.Ask b q → b.0 < 5
asked_small m s b q e =
    let below : b.0 < m.register.shape.n = ltb-true _ _ (both _ _ (subst (λ (line : Next). allowed m.register line ≡ true) e (allowed_at m s m.stage s.during s.ready))).0 in
    let few = s.base.few in
    omega (arith, below, few)

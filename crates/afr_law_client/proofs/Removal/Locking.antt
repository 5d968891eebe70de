-- While the child is locked: what the lines show after one more, and where the removal stands then.
use Rattle.std.proofs.Common.{◌≡◌, ◌≢◌, ℕ, ◌<◌, ◌==◌, ◌&&◌, arith, not, Bool, true, false, List, [], ◌∷◌, Some, None, length, refl, sym, ◌∙◌, subst, if◌then◌else◌, ◌⊎◌, inl, inr}
use Rattle.std.proofs.lemmas.Bool.Decides.{eqb_tells}
use Rattle.afr_base.specs.Bricks.{member, is_nothing, removed}
use Rattle.afr_base.specs.Majority.{is_majority}
use Rattle.afr_base.specs.SetLemmas.{lowest_left, majority_grows, member_added, member_removed, none_left}
use Rattle.afr_base.specs.declared.ids.ActorId.{ActorId}
use Rattle.afr_base.specs.declared.ids.BrickId.{BrickId}
use Rattle.afr_base.specs.declared.ids.Gfid.{Gfid}
use Rattle.afr_base.specs.declared.ids.Kind.TheVariants.{Names}
use Rattle.afr_base.specs.declared.ids.NameId.{NameId}
use Rattle.afr_choice.specs.Looks.{no_looks}
use Rattle.afr_choice.specs.Verdict.{holders_of}
use Rattle.afr_discipline.specs.declared.register.Register.{Register}
use Rattle.afr_lines.specs.Areas.{area_for}
use Rattle.afr_lines.specs.Overlap.{same_area}
use Rattle.afr_lines.specs.Told.{told_by}
use Rattle.afr_lines.specs.Work.{Work}
use Rattle.afr_lines.specs.declared.answer.Answer.{Answer}
use Rattle.afr_lines.specs.declared.answer.Told.{Told}
use Rattle.afr_lines.specs.declared.answer.Told.TheVariants as as_told
use Rattle.afr_lines.specs.declared.line.Line.{Line}
use Rattle.afr_lines.specs.declared.line.Line.TheVariants.{Ask}
use Rattle.afr_lines.specs.declared.reply.Reply.TheVariants as reply
use Rattle.afr_lines.specs.declared.request.Area.{Area}
use Rattle.afr_lines.specs.declared.request.Area.TheVariants.{Name}
use Rattle.afr_lines.specs.declared.request.Request.TheVariants as request
use Rattle.afr_object.specs.Tables.{object_of}
use Rattle.afr_lines.specs.declared.lock.Domain.TheVariants.{Work as WorkDomain}
use Rattle.afr_plan.specs.declared.plan.Plan.{Plan}
use Rattle.afr_model.specs.Refusals.{meets}
use Rattle.afr_model.specs.Showing.{among, has, is_held, locks, looked_by, looking}
use Rattle.afr_model.specs.Skipped.{IsChildLocked}
use Rattle.afr_model.specs.Standing.{asking, asks_name, getting, holding, locks_area, marked, suffices, up_to}
use Rattle.afr_client_entry.specs.Removals.Removal.{Removing, after, answered, both_held, brick_at, gone_on, has_takers, left, moved, on_stage, request_at, sets_after, takers_of}
use Rattle.afr_client_entry.specs.Removals.Sound as sound
use Rattle.afr_client_entry.specs.Removals.Sound.{IsAsking, IsBase, IsRemoval, Sound}
use Rattle.afr_client_entry.specs.declared.removing.stage.RemovalEnding.TheVariants.{NoQuorum}
use Rattle.afr_client_entry.specs.declared.removing.stage.RemovalStage.TheVariants.{Locking, Looking, Closing}
use Rattle.afr_client_entry.proofs.Removals.AfterLemmas.{lock_base, locked_is}
use Rattle.afr_client_entry.proofs.Removals.Facts.{apart, common_right, is_busy, lock_asked}
use Rattle.afr_client_transaction.proofs.Kept.{most_of}
use Rattle.afr_client_transaction.proofs.Parts.{no_or}
use Rattle.afr_client_transaction.proofs.Requests.{locked_w, noted_is}
use Rattle.afr_law_client.proofs.Calm.{calm_ask}
use Rattle.afr_law_client.proofs.Excused.{ask_excused}
use Rattle.afr_law_client.proofs.Small.{held_told, marked_new, self}
use Rattle.afr_law_client.specs.Removal.RemovalTelling.{CanTell, OnLocks, OnLooks, RemovalGoes, RemovalTells, held_in, takers_by}
use Rattle.afr_law_client.proofs.Removal.Lines.{goes_lock}
use Rattle.afr_law_client.proofs.Removal.Lost.{held_granted}
use Rattle.afr_law_client.proofs.Removal.Notes.{fewer_lock, lock_holds, lock_leaves, others_lock}
use Rattle.afr_law_client.proofs.Removal.Refused.{answered_before, few_refuse}
use Rattle.afr_law_client.proofs.Removal.Takers.{takers_suffice}
use Rattle.afr_model_moves.proofs.AreaLemmas.{same_area_self}

-- the last line has locked the child
pub record IsFresh (child : Gfid) (w : Work) : Type 0 where
  pub locked : has (locks child) w ≡ true
  pub unseen : looked_by child w ≡ no_looks
  pub unlooked : among (looking child) w ≡ []
  pub last : up_to (locks_area (Name child None)) w ≡ w
  pub head : up_to (meets child) w ≡ w

pub fresh_lock : (g : Gfid) (a : ActorId) (b : BrickId) (told : Told) (took : Bool) (older : List Line) (w : Work) → IsFresh g ((Ask a b (request.Lock WorkDomain (Name g None)) told took, older) ∷ w)
fresh_lock g a b told took older w = record {
  locked = rw (self g.0) refl;
  unseen = rw (self g.0) refl;
  unlooked = rw (self g.0) refl;
  last = rw (same_area_self (Name g None)) refl;
  head = rw (self g.0) refl;
}

-- ---- where nobody is left to ask
module _ (p : Plan) (path : List NameId) (x : Removing) (w : Work) (removes : IsRemoval x.change) (base : IsBase x.change x.register) (k : RemovalGoes p path x.change x.register x.child.gfid w) (d : OnLocks p x.change x.register x.child w) (f : IsFresh x.child.gfid w) (unlooked : x.child.look_asked ≡ []) where
  abbrev area : Area
  area = area_for x.change

  abbrev child : Gfid
  child = x.child.gfid

  all_asked : is_nothing (left Locking x) ≡ true → (b : ℕ) → held_in area (up_to asks_name w) b ≡ true → member (among (asking (Name child None)) w) b ≡ true
  all_asked e b h = go (member (among (asking (Name child None)) w) b) refl
    where
      go : (y : Bool) → member (among (asking (Name child None)) w) b ≡ y → y ≡ true
      go true i = refl
      go false i =
          let held : member x.register.held b ≡ true = d.holds.of_name b ∙ d.left b h i in
          let asked : member (among (asking (Name child None)) w) b ≡ true = subst (λ (s : List ℕ). member s b ≡ true) d.asked (none_left x.register.held x.child.lock_asked e b held) in
          absurd (cc (i, asked))

  -- enough bricks go on to be looked at
  majority : has_takers x.register ≡ true → is_majority p.shape.n (among (getting (Name child None)) w) ≡ true
  majority h =
      majority_grows p.shape.n (takers_of x.register) (among (getting (Name child None)) w)
      (λ b m. held_granted (Name child None) w b (sym (d.holds.of_child b) ∙ common_right x.register.held x.register.second_held b (common_right (holders_of x.register.looked) (both_held x.register) b m)))
      (subst (λ (s : _). is_majority s.n (takers_of x.register) ≡ true) k.shape (most_of x.register Names (takers_of x.register) h))

  looks_now : is_nothing (left Locking x) ≡ true → has_takers x.register ≡ true → OnLooks p x.change x.register x.child w
  looks_now e h = record {
    opened = d.opened;
    holds = d.holds;
    locked = f.locked;
    all = all_asked e;
    fewer = d.fewer;
    majority = majority h;
    shows = d.unseen ∙ sym f.unseen;
    at = unlooked ∙ sym f.unlooked;
    left = λ b name also out. (subst (λ (v : Work). held_in area v b ≡ true) f.last name, subst (λ (v : Work). held_in (Name child None) v b ≡ true) f.last also);
  }

  -- too few do
  few : has_takers x.register ≡ false → suffices p.shape Names (looked_by (object_of x.change) w) (takers_by x.change child w) ≡ false
  few h = takers_suffice p path x.change x.register child w base k d.holds f.head false h

  locked_alone : is_nothing (left Locking x) ≡ true → has_takers x.register ≡ false → IsChildLocked p (object_of x.change) child area w
  locked_alone e h = record {
    all = all_asked e;
    looked = λ enough. absurd (lacks enough);
  }
    where
      lacks : suffices p.shape Names (looked_by (object_of x.change) w) (takers_by x.change child (up_to (locks_area (Name child None)) w)) ≡ true → ⊥
      lacks enough =
          let more : suffices p.shape Names (looked_by (object_of x.change) w) (takers_by x.change child w) ≡ true = subst (λ (v : Work). suffices p.shape Names (looked_by (object_of x.change) w) (takers_by x.change child v) ≡ true) f.last enough in
          let none = few h in
          cc (more, none)

  pub locks_gone : RemovalTells p path (on_stage (after Locking x) x) w
  locks_gone = go (is_nothing (left Locking x)) refl
    where
      takes : is_nothing (left Locking x) ≡ true → (y : Bool) → has_takers x.register ≡ y → RemovalTells p path (on_stage (if y then Looking else Closing NoQuorum) x) w
      takes e true h = (k, looks_now e h)
      takes e false h = record {
        led = k.led;
        answered = answered_before p path x.change x.register x.child w removes k reply.NoQuorum d.opened.idle.unbegun (few_refuse p path x.change x.register x.child w removes k d.opened.unrefused (few h)) (λ i. absurd (cc i)) (locked_alone e h);
      }

      go : (y : Bool) → is_nothing (left Locking x) ≡ y → RemovalTells p path (on_stage (if y then gone_on Locking x.register x.child else Locking) x) w
      go true e = takes e (has_takers x.register) refl
      go false e = (k, d)

-- ---- a lock
-- a brick where another actor holds a lock keeps the name's
same_held : (name : Area) (a : ActorId) (b : BrickId) (other : Area) (took : Bool) (s : List ℕ) → same_area name other ≡ false → (told : Told) → is_held told ≡ true → (c : ℕ) → member s c ≡ true → member (holding name (Ask a b (request.Lock WorkDomain other) told took) s) c ≡ true
same_held name a b other took s apart (as_told.Held owner) h c m = m
same_held name a b other took s apart told h c m = absurd (cc h)

module _ (p : Plan) (path : List NameId) (m : Removing) (w : Work) (a : ActorId) (chosen : BrickId) (heard : Answer) (took : Bool) (log : List Line) (s : Sound m) (k : RemovalGoes p path m.change m.register m.child.gfid w) (d : OnLocks p m.change m.register m.child w) (ds : sound.During Locking m) (e : IsAsking Locking m) (can : CanTell (request_at Locking m) heard) where
  abbrev r : Register
  r = m.register

  abbrev told : Told
  told = told_by heard

  abbrev b : BrickId
  b = record { 0 = brick_at Locking m }

  abbrev name : Area
  name = area_for m.change

  abbrev also : Area
  also = Name m.child.gfid None

  abbrev q : Register
  q = locked_w true false r also b.0 told

  abbrev now : Removing
  now = sets_after Locking b.0 told q m

  abbrev more : Work
  more = (Ask a b (request.Lock WorkDomain also) told took, log) ∷ w

  held : member r.held b.0 ≡ true
  held = lock_asked m e

  small : b.0 < r.shape.n
  small = s.base.held_within b.0 held

  new : member m.child.lock_asked b.0 ≡ false
  new = (lowest_left r.held m.child.lock_asked e).0

  sep : same_area name also ≡ false
  sep = apart m.change s.removes (Some name) m.child.gfid refl

  goes_on : RemovalGoes p path m.change q m.child.gfid more
  goes_on =
      goes_lock p path m.change r q m.child.gfid a b told took log w k s.removes (lock_leaves r b also told)
      (ask_excused a b (request.Lock WorkDomain also) told took log w can.fits can.phase tt (omega (arith, small, s.base.few)) k.excused)
      (calm_ask a b (request.Lock WorkDomain also) told took log w tt tt k.calm)

  asked_now : among (asking also) more ≡ marked (not (is_held told)) b.0 (among (asking also) w)
  asked_now = rw (same_area_self also) refl

  unasked : member (among (asking also) w) b.0 ≡ false
  unasked = subst (λ (x : List ℕ). member x b.0 ≡ false) d.asked new

  left_on : (c : ℕ) → held_in name (up_to asks_name w) c ≡ true → member (among (asking also) more) c ≡ false → held_in name more c ≡ true
  left_on c h out = go (is_held told) refl (subst (λ (x : List ℕ). member x c ≡ false) asked_now out)
    where
      outside : ((b.0 == c) ≡ true) × (b.0 ≡ c) ⊎ ((b.0 == c) ≡ false) × (b.0 ≢ c) → member (removed b.0 (among (asking also) w)) c ≡ false → member (among (asking also) w) c ≡ false
      outside (inl same) n = subst (λ (x : ℕ). member (among (asking also) w) x ≡ false) same.1 unasked
      outside (inr other) n = by (b.0 == c) (member (among (asking also) w) c) other.0 (sym (member_removed b.0 (among (asking also) w) c) ∙ n)
        where
          by : (x y : Bool) → x ≡ false → (not x && y) ≡ false → y ≡ false
          by true y i h = absurd (cc i)
          by false y i h = h

      go : (x : Bool) → is_held told ≡ x → member (marked (not x) b.0 (among (asking also) w)) c ≡ false → held_in name more c ≡ true
      go true i n = same_held name a b also took (among (holding name) w) sep told i c (d.left c h (outside (eqb_tells b.0 c) n))
      go false i n =
          let parts = no_or (b.0 == c) (member (among (asking also) w) c) (sym (member_added b.0 (among (asking also) w) c) ∙ n) in
          others_lock name also a b told took (among (holding name) w) sep c parts.0 (d.left c h parts.1)

  on_locks : OnLocks p m.change q now.child more
  on_locks = record {
    opened = record { idle = d.opened.idle; unread = d.opened.unread; unrefused = d.opened.unrefused };
    holds = lock_holds r b name also a told took log w sep d.holds;
    asked = rw (same_area_self also, ← held_told told, ← d.asked) (marked_new _ b.0 m.child.lock_asked new);
    left = left_on;
    fewer = λ c h. d.fewer c (fewer_lock name also a b told took (among (holding name) w) sep c h);
    unseen = d.unseen;
  }

  pub told_lock : RemovalTells p path (answered chosen Locking heard (length log) m) more
  told_lock =
      subst (λ (x : Register). RemovalTells p path (moved chosen Locking b.0 heard x m) more)
      (sym (noted_is r (length log) b.0 (request_at Locking m) told s.base.outside ∙ locked_is m.change also r b.0 small s.base s.areas (is_busy r b.0 small held) (apart m.change s.removes r.area m.child.gfid s.areas.named) told))
      (locks_gone p path now more s.removes (lock_base m.change also r b.0 small s.base s.areas told) goes_on on_locks (fresh_lock m.child.gfid a b told took log w) ds.1)

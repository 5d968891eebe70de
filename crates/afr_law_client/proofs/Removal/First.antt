-- A removal that begins, where the name was just found to lead to a directory.
use Rattle.std.proofs.Common.{◌≡◌, ℕ, ◌==◌, ◌&&◌, Bool, true, false, List, [], ◌∷◌, None, refl, sym, ap, ◌∙◌, subst, if◌then◌else◌}
use Rattle.std.proofs.Math.Bool.{and-false}
use Rattle.afr_base.specs.Bricks.{is_nothing, member, minus}
use Rattle.afr_base.specs.Majority.{is_majority}
use Rattle.afr_base.specs.SetLemmas.{majority_some, none_left}
use Rattle.afr_base.specs.declared.ids.Gfid.{Gfid}
use Rattle.afr_base.specs.declared.ids.NameId.{NameId}
use Rattle.afr_base.specs.declared.ids.Shape.{Shape}
use Rattle.afr_choice.specs.Verdict.{holders_of}
use Rattle.afr_discipline.specs.declared.register.Register.{Register}
use Rattle.afr_lines.specs.Areas.{area_for}
use Rattle.afr_lines.specs.Overlap.{same_area}
use Rattle.afr_lines.specs.Work.{Work}
use Rattle.afr_lines.specs.declared.line.Line.{Line}
use Rattle.afr_lines.specs.declared.line.Line.TheVariants.{Ask}
use Rattle.afr_lines.specs.declared.reply.Reply.TheVariants as reply
use Rattle.afr_lines.specs.declared.request.Area.{Area}
use Rattle.afr_lines.specs.declared.request.Area.TheVariants.{Name}
use Rattle.afr_lines.specs.declared.request.Request.TheVariants as request
use Rattle.afr_object.specs.Tables.{object_of}
use Rattle.afr_object.specs.declared.change.Change.{Change}
use Rattle.afr_object.specs.declared.change.Change.TheVariants as change_of
use Rattle.afr_lines.specs.declared.lock.Domain.TheVariants.{Work as WorkDomain}
use Rattle.afr_plan.specs.declared.plan.Plan.{Plan}
use Rattle.afr_model.specs.Showing.{among, has, locks, looking}
use Rattle.afr_model.specs.Skipped.{IsChildLocked, IsLooked}
use Rattle.afr_model.specs.Standing.{asking, getting, holding, locks_area, up_to}
use Rattle.afr_client_entry.specs.Removals.Removal.{Removing, both_held, gone_on, has_takers, left, on_stage, removing, starting}
use Rattle.afr_client_entry.specs.Removals.Sound.{IsRemoval, IsUnbegun}
use Rattle.afr_client_entry.specs.declared.removing.stage.RemovalEnding.TheVariants.{NoQuorum}
use Rattle.afr_client_entry.specs.declared.removing.stage.RemovalStage.TheVariants.{Locking, Looking, Closing}
use Rattle.afr_client_entry.proofs.Removals.Facts.{common_right, some_takers}
use Rattle.afr_client_entry.proofs.Removals.FirstLemmas.{named_of, unbegun_of}
use Rattle.afr_client_transaction.specs.Progress.{TransactionProgress, is_beginning}
use Rattle.afr_client_transaction.specs.Sound as changing
use Rattle.afr_client_transaction.specs.Sound.{Sound}
use Rattle.afr_client_transaction.specs.declared.stage.Stage.{Stage}
use Rattle.afr_client_transaction.specs.declared.stage.Stage.TheVariants.{Beginning}
use Rattle.afr_client_transaction.proofs.Parts.{no_or}
use Rattle.afr_law_client.specs.Tells as telling
use Rattle.afr_law_client.specs.Tells.{lookups_allow}
use Rattle.afr_law_client.proofs.Small.{same_gfid}
use Rattle.afr_law_client.specs.Removal.RemovalLaws.{IsFound, RemovalBegins}
use Rattle.afr_law_client.specs.Removal.RemovalTelling.{OnLocks, RemovalGoes, RemovalTells, held_in}
use Rattle.afr_law_client.proofs.Removal.Listing.{start_is}
use Rattle.afr_law_client.proofs.Removal.Lost.{held_granted}
use Rattle.afr_law_client.proofs.Removal.Refused.{answered_before, none_refuse}

-- ---- an area that no line locks
-- nobody was asked for it, nobody granted it, and no line is its last
module _ (area : Area) where
  none_of : (w : Work) → has (locks_area area) w ≡ false → (among (asking area) w ≡ []) × (among (getting area) w ≡ [])
  none_of [] none = (refl, refl)
  none_of (x ∷ w) none = let parts = no_or (locks_area area x.0) (has (locks_area area) w) none in by x.0 (among (asking area) w) (among (getting area) w) parts.0 (none_of w parts.1)
    where
      by : (line : Line) (asked granted : List ℕ) → locks_area area line ≡ false → (asked ≡ []) × (granted ≡ []) → (asking area line asked ≡ []) × (getting area line granted ≡ [])
      by (Ask a b (request.Lock WorkDomain other) told took) asked granted free k = rw free k
      by line asked granted free k = k

  none_last : (w : Work) → has (locks_area area) w ≡ false → up_to (locks_area area) w ≡ []
  none_last [] none = refl
  none_last (x ∷ w) none = let parts = no_or (locks_area area x.0) (has (locks_area area) w) none in go (locks_area area x.0) parts.0 (none_last w parts.1)
    where
      go : (f : Bool) → f ≡ false → up_to (locks_area area) w ≡ [] → (if f then x ∷ w else up_to (locks_area area) w) ≡ []
      go true e rest = absurd (cc e)
      go false e rest = rest

-- the whole of a directory is no name's area
whole_apart : (change : Change) → IsRemoval change → (g : Gfid) → same_area (Name g None) (area_for change) ≡ false
whole_apart (change_of.Remove dir name what) is g = and-false (g.0 == dir.0)
whole_apart (change_of.Write h at bytes) is g = absurd is
whole_apart (change_of.Cut h len) is g = absurd is
whole_apart (change_of.SetAttr h key value) is g = absurd is
whole_apart (change_of.Make dir name h what) is g = absurd is

nobody : {A : Type 0} → (s : List ℕ) (b : ℕ) → s ≡ [] → member s b ≡ true → A
nobody s b e m = absurd (cc (subst (λ (s : List ℕ). member s b ≡ true) e m))

outside : (s : List ℕ) (b : ℕ) → ((m : member s b ≡ true) → ⊥) → member s b ≡ false
outside s b none = go (member s b) refl
  where
    go : (x : Bool) → member s b ≡ x → x ≡ false
    go true e = absurd (none e)
    go false e = refl

module _ (p : Plan) (path : List NameId) (child : Gfid) (t : TransactionProgress) (w : Work) (s : Sound t) (k : IsFound p path child t w) where
  abbrev r : Register
  r = t.register

  abbrev area : Area
  area = area_for t.change

  abbrev also : Area
  also = Name child None

  abbrev now : Removing
  now = starting t.change t.register child

  at_begin : is_beginning t.stage ≡ true
  at_begin = subst (λ (stage : Stage). is_beginning stage ≡ true) (sym k.stage) refl

  d : telling.During Beginning p.shape t w
  d = subst (λ (stage : Stage). telling.During stage p.shape t w) k.stage k.tells.during

  ds : changing.During Beginning t
  ds = subst (λ (stage : Stage). changing.During stage t) k.stage s.during

  unbegun : IsUnbegun r
  unbegun = unbegun_of t s at_begin

  unlocked : has (locks_area also) w ≡ false
  unlocked = k.tells.alone.unlocked also (whole_apart t.change k.removes child)

  looked : IsLooked p.shape.n w
  looked h seen free b l = go ((object_of t.change).0 == h.0) refl
    where
      go : (f : Bool) → ((object_of t.change).0 == h.0) ≡ f → member (among (looking h) w) b ≡ true
      go true e = let here : has (locks h) w ≡ true = subst (λ (x : Gfid). has (locks x) w ≡ true) (same_gfid (object_of t.change) h e) d.allows.locked.locked in absurd (cc (here, free))
      go false e = k.tells.alone.looked h e seen b l

  goes : RemovalGoes p path t.change r child w
  goes = record {
    shape = k.tells.shape_is;
    words = k.words;
    led = k.led;
    locked = d.allows;
    looks = d.looks.shows;
    allows = subst (λ (shape : Shape). lookups_allow shape t.change r.looked ≡ true) k.tells.shape_is (sym (start_is t.change r unbegun.first unbegun.open_still (named_of t s at_begin)) ∙ ds.1);
    sets = record { prepared = k.tells.sets.prepared; applied = k.tells.sets.applied; posted = k.tells.sets.posted; number = k.tells.sets.number };
    looked = looked;
    alone = λ other part apart. k.tells.alone.unlocked other apart;
    excused = k.excused;
    calm = k.calm;
  }

  second_none : (b : ℕ) → member r.second_held b ≡ member (among (holding also) w) b
  second_none b =
      outside r.second_held b (λ m. nobody r.second_held b s.base.none_second m)
      ∙ sym (outside (among (holding also) w) b (λ m. nobody (among (getting also) w) b (none_of also w unlocked).1 (held_granted also w b m)))

  on_locks : OnLocks p t.change r now.child w
  on_locks = record {
    opened = record { idle = d.idle; unread = k.unread; unrefused = k.unrefused };
    holds = record { of_name = k.held; of_child = second_none; kept = k.kept };
    asked = sym (none_of also w unlocked).0;
    left = λ b h out. subst (λ (v : Work). held_in area v b ≡ true) k.just_read h;
    fewer = λ b h. subst (λ (v : Work). held_in area v b ≡ true) (sym k.just_read) h;
    unseen = refl;
  }

  -- where the name is locked nowhere any more
  locked_nowhere : is_nothing (left Locking now) ≡ true → IsChildLocked p (object_of t.change) child area w
  locked_nowhere e = record {
    all = λ b h. nobody [] b refl (none_left r.held [] e b (k.held b ∙ subst (λ (v : Work). held_in area v b ≡ true) k.just_read h));
    looked = λ enough b one two. nobody (among (holding area) (up_to (locks_area also) w)) b (ap (λ (v : Work). among (holding area) v) (none_last also w unlocked)) one;
  }

  few : is_majority p.shape.n (among (getting also) w) ≡ false
  few = go (is_majority p.shape.n (among (getting also) w)) refl
    where
      go : (x : Bool) → is_majority p.shape.n (among (getting also) w) ≡ x → x ≡ false
      go true e =
          let some : is_nothing (minus (among (getting also) w) []) ≡ false = majority_some p.shape.n (among (getting also) w) e in
          let none : is_nothing (minus (among (getting also) w) []) ≡ true = ap (λ (x : List ℕ). is_nothing (minus x [])) (none_of also w unlocked).1 in
          absurd (cc (some, none))
      go false e = refl

  pub begins_there : RemovalTells p path (removing t.change t.register child) w
  begins_there = go (is_nothing (left Locking now)) refl
    where
      takes : is_nothing (left Locking now) ≡ true → (y : Bool) → has_takers r ≡ y → RemovalTells p path (on_stage (if y then Looking else Closing NoQuorum) now) w
      takes e true h =
          let one = some_takers r h in
          nobody r.second_held one.0 s.base.none_second (common_right r.held r.second_held one.0 (common_right (holders_of r.looked) (both_held r) one.0 one.1))
      takes e false h = record {
        led = k.led;
        answered = answered_before p path t.change r now.child w k.removes goes reply.NoQuorum d.idle.unbegun (none_refuse p path t.change r now.child w k.removes goes k.unrefused few) (λ i. absurd (cc i)) (locked_nowhere e);
      }

      go : (y : Bool) → is_nothing (left Locking now) ≡ y → RemovalTells p path (on_stage (if y then gone_on Locking r now.child else Locking) now) w
      go true e = takes e (has_takers r) refl
      go false e = (goes, on_locks)

pub begins : RemovalBegins
begins p path child t w s k = begins_there p path child t w s k

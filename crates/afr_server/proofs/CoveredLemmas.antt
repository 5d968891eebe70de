-- A lock that the log's list has is one of the server's, so the law's covering lock is the server's.
use Rattle.std.proofs.Common.{◌≡◌, ℕ, List, [], ◌∷◌, map, sym, subst, arith, ◌⊎◌, inl, inr, Option}
use Rattle.std.specs.List.{Contains}
use Rattle.std.proofs.lemmas.List.Elements.{Contains-append_cases, Contains-append_left, Contains-append_right, Contains-push, Contains-push_cases}
use Rattle.afr_base.specs.declared.ids.ActorId.{ActorId}
use Rattle.afr_base.specs.declared.ids.Gfid.{Gfid}
use Rattle.afr_base.specs.declared.ids.NameId.{NameId}
use Rattle.afr_lines.specs.Log.{change_at}
use Rattle.afr_lines.specs.declared.line.Line.{Line}
use Rattle.afr_lines.specs.declared.request.Area.{Area}
use Rattle.afr_lines.specs.declared.request.Area.TheVariants.{Range, Name}
use Rattle.afr_lines.specs.declared.request.Request.{Request}
use Rattle.afr_lines.specs.declared.request.Request.TheVariants.{Lock, Unlock, Look, ReadBytes, ReadName, ReadAttr, ReadAttrs, Index, Pre, Apply, Post, Mend, Settle}
use Rattle.afr_lines.specs.declared.request.Request.TheVariants as request
use Rattle.afr_model.specs.Locks.{locks_held}
use Rattle.afr_model.specs.Tables.{Past}
use Rattle.afr_model_moves.specs.Covering.{Covers, HasHealLock, HasItsLocks, IsCovered}
use Rattle.afr_model_moves.specs.Rules.{heal_area}
use Rattle.afr_name_locks.specs.Names.{name_lock}
use Rattle.afr_object.specs.declared.change.Change.{Change}
use Rattle.afr_object.specs.declared.change.Load.{Load}
use Rattle.afr_object.specs.declared.change.Load.TheVariants as load
use Rattle.afr_plan.specs.declared.plan.Plan.{Plan}
use Rattle.afr_range_locks.specs.Locks.{range_lock}
use Rattle.afr_lines.specs.declared.lock.Domain.{Domain}
use Rattle.afr_lines.specs.declared.lock.Domain.TheVariants.{Work, Heal}
use Rattle.afr_lines.specs.declared.lock.HeldLock.{HeldLock}
use Rattle.afr_server.specs.Carried.{Brings}
use Rattle.afr_server.specs.Covered.{IsUnderLocks, change_with, locks_of, of_name, of_range}
use Rattle.afr_server.specs.Log.{IsServed, name_before, names_in, range_before, ranges_in}
use Rattle.afr_server.specs.Serving.{Serving}

-- ---- what a list has, its first or a later one
none_in : {A : Type 0} (x : A) → Contains [] x → ⊥
none_in x h = absurd (omega (arith, h.1))

one_of : {A : Type 0} (first : A) (more : List A) (x : A) → Contains (first ∷ more) x → (first ≡ x) ⊎ Contains more x
one_of first more x h =
    elim (Contains-append_cases (first ∷ []) more x h) [
      | inl here ↦ elim (Contains-push_cases [] first x here) [ inl none ↦ absurd (none_in x none) | inr same ↦ inl same ]
      | inr later ↦ inr later
    ]

first_in : {A : Type 0} (x : A) (more : List A) → Contains (x ∷ more) x
first_in x more = Contains-append_left (x ∷ []) more x (Contains-push [] x)

later_in : {A : Type 0} (first : A) (more : List A) (x : A) → Contains more x → Contains (first ∷ more) x
later_in first more x h = Contains-append_right (first ∷ []) more x h

in_map : {A B : Type 0} (f : A → B) (xs : List A) (x : A) → Contains xs x → Contains (map f xs) (f x)
in_map f [] x h = absurd (none_in x h)
in_map f (first ∷ more) x h = elim (one_of first more x h) [ inl same ↦ subst (λ (y : _). Contains (f first ∷ map f more) (f y)) same (first_in (f first) (map f more)) | inr later ↦ later_in (f first) (map f more) (f x) (in_map f more x later) ]

-- ---- the tables have the locks of their sort
in_ranges : (a : ActorId) (d : Domain) (g : Gfid) (from to : ℕ) (held : List (HeldLock Area)) → Contains held (record { owner = a; domain = d; area = Range g from to }) → Contains (ranges_in held) (range_lock a d g from to)
in_ranges a d g from to [] h = absurd (none_in _ h)
in_ranges a d g from to (lock ∷ more) h =
    elim (one_of lock more _ h) [
      | inl same ↦ subst (λ (l : HeldLock Area). Contains (range_before l.owner l.domain l.area (ranges_in more)) (range_lock a d g from to)) (sym same) (first_in (range_lock a d g from to) (ranges_in more))
      | inr later ↦ passes lock.area (in_ranges a d g from to more later)
    ]
  where
    passes : (area : Area) → Contains (ranges_in more) (range_lock a d g from to) → Contains (range_before lock.owner lock.domain area (ranges_in more)) (range_lock a d g from to)
    passes (Range h start end) there = later_in (range_lock lock.owner lock.domain h start end) (ranges_in more) (range_lock a d g from to) there
    passes (Name h name) there = there

in_names : (a : ActorId) (d : Domain) (g : Gfid) (name : Option NameId) (held : List (HeldLock Area)) → Contains held (record { owner = a; domain = d; area = Name g name }) → Contains (names_in held) (name_lock a d g name)
in_names a d g name [] h = absurd (none_in _ h)
in_names a d g name (lock ∷ more) h =
    elim (one_of lock more _ h) [
      | inl same ↦ subst (λ (l : HeldLock Area). Contains (name_before l.owner l.domain l.area (names_in more)) (name_lock a d g name)) (sym same) (first_in (name_lock a d g name) (names_in more))
      | inr later ↦ passes lock.area (in_names a d g name more later)
    ]
  where
    passes : (area : Area) → Contains (names_in more) (name_lock a d g name) → Contains (name_before lock.owner lock.domain area (names_in more)) (name_lock a d g name)
    passes (Range h start end) there = there
    passes (Name h other) there = later_in (name_lock lock.owner lock.domain h other) (names_in more) (name_lock a d g name) there

-- a lock that is held by the log is held on the server
pub held_served : (p : Plan) (log : List Line) (b : ℕ) (a : ActorId) (d : Domain) (area : Area) (s : Serving) → IsServed p log b s → Contains (locks_held b log) (record { owner = a; domain = d; area = area }) → Contains (locks_of s) (record { owner = a; domain = d; area = area })
held_served p log b a d (Range g from to) s v h = Contains-append_left (map of_range s.ranges) (map of_name s.names) _ (in_map of_range s.ranges (range_lock a d g from to) (rw v.ranges (in_ranges a d g from to (locks_held b log) h)))
held_served p log b a d (Name g name) s v h = Contains-append_right (map of_range s.ranges) (map of_name s.names) _ (in_map of_name s.names (name_lock a d g name) (rw v.names (in_names a d g name (locks_held b log) h)))

heal_served : (p : Plan) (log : List Line) (b : ℕ) (a : ActorId) (r : Request) (s : Serving) → IsServed p log b s → HasHealLock (locks_held b log) a r → HasHealLock (locks_of s) a r
heal_served p log b a (Settle g kind less) s v h = held_served p log b a Heal (heal_area g.0) s v h
heal_served p log b a (Lock d area) s v h = tt
heal_served p log b a (Unlock d area) s v h = tt
heal_served p log b a (Look g) s v h = tt
heal_served p log b a (ReadBytes g at len) s v h = tt
heal_served p log b a (ReadName g n) s v h = tt
heal_served p log b a (request.List g) s v h = tt
heal_served p log b a (ReadAttr g k) s v h = tt
heal_served p log b a (ReadAttrs g) s v h = tt
heal_served p log b a Index s v h = tt
heal_served p log b a (Pre g k) s v h = tt
heal_served p log b a (Apply n) s v h = tt
heal_served p log b a (Post n g k m) s v h = tt
heal_served p log b a (Mend rep) s v h = tt

-- what the law says of a request, the server asks
pub under_locks : (p : Plan) (log : List Line) (b : ℕ) (a : ActorId) (r : Request) (change : Option Change) (l : Load) (s : Serving) → IsServed p log b s → change ≡ change_with r l → HasItsLocks (locks_held b log) a r change → IsUnderLocks a r l s
under_locks p log b a r change l s v same law = λ changes.
    let c : IsCovered (locks_held b log) a r change = law changes in
    record {
      area = c.area;
      work = held_served p log b a Work c.area s v c.work;
      covers = subst (Covers c.area r) same c.covers;
      heal = heal_served p log b a r s v c.heal;
    }

-- the change of an operation's attempt is that of its load
pub same_change : (attempt : ℕ) (l : Load) (log : List Line) (past : Past) → Brings (Apply attempt) l log past → change_at attempt log ≡ change_with (Apply attempt) l
same_change attempt (load.Change change) log past brings = brings
same_change attempt load.Nothing log past brings = absurd brings
same_change attempt (load.Bytes bytes) log past brings = absurd brings
same_change attempt (load.Attrs attrs) log past brings = absurd brings
same_change attempt (load.Names names) log past brings = absurd brings

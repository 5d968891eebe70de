-- The locks by positions are those of the list of lines.
use Rattle.std.proofs.Common.{◌≡◌, ℕ, ◌<◌, Bool, true, false, ◌&&◌, ◌||◌, not, ◌⊎◌, inl, inr, refl, sym, ◌∙◌, ap, subst, arith, List, [], ◌∷◌, ◌++◌, length, filter, true≢false}
use Rattle.std.specs.Prelude.{Option, None, Some, ◌==◌, if◌then◌else◌}
use Rattle.afr_base.specs.declared.ids.ActorId.{ActorId}
use Rattle.afr_base.specs.declared.ids.NameId.{NameId}
use Rattle.afr_lines.specs.declared.lock.Domain.{Domain}
use Rattle.afr_lines.specs.declared.lock.Domain.TheVariants.{Work, Heal}
use Rattle.afr_lines.specs.declared.answer.Told.TheVariants.{Granted}
use Rattle.afr_lines.specs.declared.line.Line.{Line}
use Rattle.afr_lines.specs.declared.line.Line.TheVariants.{Ask, Begin, HealBegin, End, HealEnd, Event}
use Rattle.afr_lines.specs.declared.request.Area.{Area}
use Rattle.afr_lines.specs.declared.request.Area.TheVariants.{Range, Name}
use Rattle.afr_lines.specs.declared.request.Request.TheVariants.{Lock, Unlock}
use Rattle.afr_lines.specs.Locks.{same_domain, conflicts, first_conflict, same_name}
use Rattle.afr_lines.specs.declared.lock.HeldLock.{HeldLock}
use Rattle.afr_lines.specs.Overlap.{same_area, overlap}
use Rattle.afr_model.specs.Locks.{releases, outlives, granted_by_line, locks_held}
use Rattle.afr_model.specs.Sessions.{ends_session}
use Rattle.afr_model_moves.specs.Past.{Log, before, held, grants, frees, unlocks, blocks}
use Rattle.afr_model_moves.proofs.ByPosition.{IsPast}
use Rattle.afr_law.proofs.Model.Sessions.{ends_same}
use Rattle.afr_law.proofs.Safety.Locks.{step_cases, step_true, before_is, held_past}
use Rattle.afr_model_moves.proofs.Tests.{same_self, same_no, turned}
use Rattle.std.proofs.lemmas.Bool.{eqb-true}

-- a lock of a list
abbrev pub In : HeldLock Area → List (HeldLock Area) → Type 0
In lock [] = ⊥
In lock (x ∷ xs) = (lock ≡ x) ⊎ In lock xs

in_left : (lock : HeldLock Area) (xs ys : List (HeldLock Area)) → In lock xs → In lock (xs ++ ys)
in_left lock [] ys h = absurd h
in_left lock (x ∷ xs) ys (inl e) = inl e
in_left lock (x ∷ xs) ys (inr h) = inr (in_left lock xs ys h)

in_right : (lock : HeldLock Area) (xs ys : List (HeldLock Area)) → In lock ys → In lock (xs ++ ys)
in_right lock [] ys h = h
in_right lock (x ∷ xs) ys h = inr (in_right lock xs ys h)

in_either : (lock : HeldLock Area) (xs ys : List (HeldLock Area)) → In lock (xs ++ ys) → In lock xs ⊎ In lock ys
in_either lock [] ys h = inr h
in_either lock (x ∷ xs) ys (inl e) = inl (inl e)
in_either lock (x ∷ xs) ys (inr h) = elim (in_either lock xs ys h) [ inl a ↦ inl (inr a) | inr b ↦ inr b ]

in_kept : (test : HeldLock Area → Bool) (lock : HeldLock Area) (xs : List (HeldLock Area)) → In lock xs → test lock ≡ true → In lock (filter test xs)
in_kept test lock [] h t = absurd h
in_kept test lock (x ∷ xs) (inl e) t = (let hit : test x ≡ true = subst (λ y. test y ≡ true) e t in rw hit (inl e))
in_kept test lock (x ∷ xs) (inr h) t = go (test x) (in_kept test lock xs h t)
  where
    go : (hit : Bool) → In lock (filter test xs) → In lock (if hit then x ∷ filter test xs else filter test xs)
    go true k = inr k
    go false k = k

in_filter : (test : HeldLock Area → Bool) (lock : HeldLock Area) (xs : List (HeldLock Area)) → In lock (filter test xs) → In lock xs × (test lock ≡ true)
in_filter test lock [] h = absurd h
in_filter test lock (x ∷ xs) h = go (test x) refl h (λ k. in_filter test lock xs k)
  where
    go : (hit : Bool) → test x ≡ hit → In lock (if hit then x ∷ filter test xs else filter test xs) → (In lock (filter test xs) → In lock xs × (test lock ≡ true)) → In lock (x ∷ xs) × (test lock ≡ true)
    go true e (inl k) rest = (inl k, subst (λ y. test y ≡ true) (sym k) e)
    go true e (inr k) rest = (let w = rest k in (inr w.0, w.1))
    go false e k rest = (let w = rest k in (inr w.0, w.1))

-- the tests don't mind the order
domain_turned : (d e : Domain) → same_domain d e ≡ same_domain e d
domain_turned Work Work = refl
domain_turned Work Heal = refl
domain_turned Heal Work = refl
domain_turned Heal Heal = refl

name_turned : (n m : Option NameId) → same_name n m ≡ same_name m n
name_turned None None = refl
name_turned None (Some m) = refl
name_turned (Some n) None = refl
name_turned (Some n) (Some m) = turned n.0 m.0

area_turned : (a b : Area) → same_area a b ≡ same_area b a
area_turned (Range g from to) (Range h start end) = λ i. turned g.0 h.0 i && turned from start i && turned to end i
area_turned (Range g from to) (Name h m) = refl
area_turned (Name g n) (Range h start end) = refl
area_turned (Name g n) (Name h m) = λ i. turned g.0 h.0 i && name_turned n m i

-- the line that granted a lock on brick b
abbrev pub line_for : ℕ → HeldLock Area → Bool → Line
line_for b lock took = Ask lock.owner (record { 0 = b }) (Lock lock.domain lock.area) Granted took

-- a line frees a lock exactly where the lock doesn't outlive it
frees_is : (b : ℕ) (lock : HeldLock Area) (took : Bool) (line : Line) → frees b (Some (line_for b lock took)) (Some line) ≡ not (outlives line b lock)
frees_is b lock took line = (λ i. ends_same lock.owner.0 b line i || unlocks lock.owner.0 b lock.domain lock.area (Some line)) ∙ (λ i. ends_session lock.owner.0 b line || unlocks_is line i) ∙ turn (ends_session lock.owner.0 b line) (releases line b lock)
  where
    turn : (e r : Bool) → (e || r) ≡ not (not r && not e)
    turn true true = refl
    turn true false = refl
    turn false true = refl
    turn false false = refl

    five : (t y a d e : Bool) → (d && e && a && y && t) ≡ (t && y && (a && d && e))
    five t y a d e = grind arith

    unlocks_is : (line : Line) → unlocks lock.owner.0 b lock.domain lock.area (Some line) ≡ releases line b lock
    unlocks_is (Ask x y (Unlock d e) told took) =
        (λ i. domain_turned lock.domain d i && area_turned lock.area e i && (x.0 == lock.owner.0) && (y.0 == b) && took)
        ∙ five took (y.0 == b) (x.0 == lock.owner.0) (same_domain d lock.domain) (same_area e lock.area)
    unlocks_is (Ask x y _ told took) = refl
    unlocks_is (Begin x change) = refl
    unlocks_is (HealBegin x g kind) = refl
    unlocks_is (End x reply) = refl
    unlocks_is (HealEnd x g kind reply) = refl
    unlocks_is (Event e) = refl

-- the lock of a line that grants one
granted_line : (b : ℕ) (line : Line) → grants b (Some line) ≡ true → (lock : HeldLock Area) × (took : Bool) × (line ≡ line_for b lock took) × In lock (granted_by_line b line)
granted_line b (Ask x y (Lock domain area) Granted took) h =
    (record { owner = x; domain = domain; area = area }, took, ap (λ (n : ℕ). Ask x (record { 0 = n }) (Lock domain area) Granted took) (eqb-true y.0 b h), rw h (inl refl))
granted_line b _ h = absurd (true≢false (sym h))

granted_back : (b : ℕ) (line : Line) (lock : HeldLock Area) → In lock (granted_by_line b line) → (took : Bool) × (line ≡ line_for b lock took) × (grants b (Some line) ≡ true)
granted_back b (Ask x y (Lock domain area) Granted took) lock h = go (y.0 == b) refl h
  where
    go : (hit : Bool) → (y.0 == b) ≡ hit → In lock (if hit then record { owner = x; domain = domain; area = area } ∷ [] else []) → (t : Bool) × (Ask x y (Lock domain area) Granted took ≡ line_for b lock t) × ((y.0 == b) ≡ true)
    go false e k = absurd k
    go true e (inr k) = absurd k
    go true e (inl k) = (took, (λ i. Ask (sym k i).owner (record { 0 = eqb-true y.0 b e i }) (Lock (sym k i).domain (sym k i).area) Granted took), e)
granted_back b _ lock h = absurd h

module _ (L : Log) where
  -- a lock that is held stands in the list
  pub held_in : (b : ℕ) (older : List Line) → IsPast L older → (p : ℕ) → held L (length older) b p ≡ true → (lock : HeldLock Area) × (took : Bool) × (L p ≡ Some (line_for b lock took)) × In lock (locks_held b older)
  unfolding held
  held_in b [] h p k = absurd (true≢false (sym k))
  held_in b (line ∷ older) h p k =
      elim (step_cases (p == length older) (grants b (L (length older))) (held L (length older) b p) (frees b (before L (length older) p) (L (length older))) k) [
        | inl w ↦ new (granted_line b line (ap (grants b) (sym h.0) ∙ w.1)) (eqb-true p (length older) w.0)
        | inr w ↦ old (held_in b older h.1 p w.1) (held_past L (length older) b p w.1) w.2
      ]
    where
      new : ((lock : HeldLock Area) × (took : Bool) × (line ≡ line_for b lock took) × In lock (granted_by_line b line)) → p ≡ length older → (lock : HeldLock Area) × (took : Bool) × (L p ≡ Some (line_for b lock took)) × In lock (locks_held b (line ∷ older))
      new w same = (w.0, w.1, ap L same ∙ h.0 ∙ ap (λ (l : Line). Some l) w.2, in_right w.0 (filter (outlives line b) (locks_held b older)) (granted_by_line b line) w.3)

      negated : (x y : Bool) → x ≡ not y → x ≡ false → y ≡ true
      negated x y e f = grind arith

      old : ((lock : HeldLock Area) × (took : Bool) × (L p ≡ Some (line_for b lock took)) × In lock (locks_held b older)) → p < length older → frees b (before L (length older) p) (L (length older)) ≡ false
          → (lock : HeldLock Area) × (took : Bool) × (L p ≡ Some (line_for b lock took)) × In lock (locks_held b (line ∷ older))
      old w past kept =
          let is : frees b (before L (length older) p) (L (length older)) ≡ frees b (Some (line_for b w.0 w.1)) (Some line) = (λ i. frees b ((before_is L (length older) p past ∙ w.2) i) (h.0 i)) in
          let stays : outlives line b w.0 ≡ true = negated _ _ (frees_is b w.0 w.1 line) (sym is ∙ kept) in
          (w.0, w.1, w.2, in_left w.0 (filter (outlives line b) (locks_held b older)) (granted_by_line b line) (in_kept (outlives line b) w.0 (locks_held b older) w.3 stays))

  -- a lock of the list is held
  pub in_held : (b : ℕ) (older : List Line) → IsPast L older → (lock : HeldLock Area) → In lock (locks_held b older) → (p : ℕ) × (took : Bool) × (L p ≡ Some (line_for b lock took)) × (held L (length older) b p ≡ true)
  unfolding held
  in_held b [] h lock k = absurd k
  in_held b (line ∷ older) h lock k =
      elim (in_either lock (filter (outlives line b) (locks_held b older)) (granted_by_line b line) k) [
        | inl kept ↦ (let f = in_filter (outlives line b) lock (locks_held b older) kept in old (in_held b older h.1 lock f.0) f.1)
        | inr fresh ↦ (let g = granted_back b line lock fresh in (length older, g.0, h.0 ∙ ap (λ (l : Line). Some l) g.1, rw (same_self (length older), h.0) g.2))
      ]
    where
      negated : (x y : Bool) → x ≡ not y → y ≡ true → x ≡ false
      negated x y e f = grind arith

      old : ((p : ℕ) × (took : Bool) × (L p ≡ Some (line_for b lock took)) × (held L (length older) b p ≡ true)) → outlives line b lock ≡ true
          → (p : ℕ) × (took : Bool) × (L p ≡ Some (line_for b lock took)) × ((if p == length older then grants b (L (length older)) else (held L (length older) b p && not (frees b (before L (length older) p) (L (length older))))) ≡ true)
      old w stays =
          let past = held_past L (length older) b w.0 w.3 in
          let is : frees b (before L (length older) w.0) (L (length older)) ≡ frees b (Some (line_for b lock w.1)) (Some line) = (λ i. frees b ((before_is L (length older) w.0 past ∙ w.2) i) (h.0 i)) in
          (w.0, w.1, w.2, step_true (w.0 == length older) (grants b (L (length older))) (held L (length older) b w.0) (frees b (before L (length older) w.0) (L (length older))) (same_no w.0 (length older) past) w.3 (is ∙ negated _ _ (frees_is b lock w.1 line) stays))

-- the lock that an actor asks for
abbrev pub wanted : ℕ → Domain → Area → HeldLock Area
wanted a domain area = record { owner = record { 0 = a }; domain = domain; area = area }

-- who is in the way
none_conflicts : (a : ℕ) (domain : Domain) (area : Area) (xs : List (HeldLock Area)) → first_conflict overlap (wanted a domain area) xs ≡ None → (lock : HeldLock Area) → In lock xs → conflicts overlap (wanted a domain area) lock ≡ false
none_conflicts a domain area [] e lock h = absurd h
none_conflicts a domain area (x ∷ xs) e lock h = go (conflicts overlap (wanted a domain area) x) refl e h (λ k m. none_conflicts a domain area xs k lock m)
  where
    go : (hit : Bool) → conflicts overlap (wanted a domain area) x ≡ hit → (if hit then Some x.owner else first_conflict overlap (wanted a domain area) xs) ≡ None → (lock ≡ x) ⊎ In lock xs → (first_conflict overlap (wanted a domain area) xs ≡ None → In lock xs → conflicts overlap (wanted a domain area) lock ≡ false)
        → conflicts overlap (wanted a domain area) lock ≡ false
    go true f e h rest = absurd (cc e)
    go false f e (inl same) rest = ap (conflicts overlap (wanted a domain area)) same ∙ f
    go false f e (inr m) rest = rest e m

some_conflicts : (a : ℕ) (domain : Domain) (area : Area) (xs : List (HeldLock Area)) (owner : ActorId) → first_conflict overlap (wanted a domain area) xs ≡ Some owner → (lock : HeldLock Area) × In lock xs × (conflicts overlap (wanted a domain area) lock ≡ true)
some_conflicts a domain area [] owner e = absurd (cc e)
some_conflicts a domain area (x ∷ xs) owner e = go (conflicts overlap (wanted a domain area) x) refl e (λ k. some_conflicts a domain area xs owner k)
  where
    go : (hit : Bool) → conflicts overlap (wanted a domain area) x ≡ hit → (if hit then Some x.owner else first_conflict overlap (wanted a domain area) xs) ≡ Some owner → (first_conflict overlap (wanted a domain area) xs ≡ Some owner → (lock : HeldLock Area) × In lock xs × (conflicts overlap (wanted a domain area) lock ≡ true))
        → (lock : HeldLock Area) × In lock (x ∷ xs) × (conflicts overlap (wanted a domain area) lock ≡ true)
    go true f e rest = (x, inl refl, f)
    go false f e rest = (let w = rest e in (w.0, inr w.1, w.2))

blocks_is : (a b : ℕ) (domain : Domain) (area : Area) (lock : HeldLock Area) (took : Bool) → blocks a domain area (Some (line_for b lock took)) ≡ conflicts overlap (wanted a domain area) lock
blocks_is a b domain area lock took = turn (same_domain domain lock.domain) (lock.owner.0 == a) (overlap area lock.area)
  where
    turn : (d s o : Bool) → (d && not s && o) ≡ (not s && d && o)
    turn d s o = grind arith

module _ (L : Log) (a b : ℕ) (domain : Domain) (area : Area) (older : List Line) (past : IsPast L older) where
  -- where nobody is in the way, no held lock is
  pub free_way : first_conflict overlap (wanted a domain area) (locks_held b older) ≡ None → (p : ℕ) → held L (length older) b p ≡ true → blocks a domain area (L p) ≡ false
  free_way none p h =
      let w = held_in L b older past p h in
      ap (blocks a domain area) w.2 ∙ blocks_is a b domain area w.0 w.1 ∙ none_conflicts a domain area (locks_held b older) none w.0 w.3

  -- and where one is, a held lock is
  pub taken_way : (owner : ActorId) → first_conflict overlap (wanted a domain area) (locks_held b older) ≡ Some owner → (p : ℕ) × (held L (length older) b p ≡ true) × (blocks a domain area (L p) ≡ true)
  taken_way owner some =
      let c = some_conflicts a domain area (locks_held b older) owner some in
      let w = in_held L b older past c.0 c.1 in
      (w.0, w.3, ap (blocks a domain area) w.2 ∙ blocks_is a b domain area c.0 w.1 ∙ c.2)

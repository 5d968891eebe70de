-- No lock outlives the session of its owner.
use Rattle.std.proofs.Common.{◌≡◌, ℕ, Bool, true, false, List, [], ◌∷◌, ◌++◌, refl, sym, ap, subst, arith, if◌then◌else◌, ◌==◌, not, ◌⊎◌, inl, inr, Option, Some, None}
use Rattle.std.proofs.lemmas.Bool.Decides.{eqb_tells, nat_tests}
use Rattle.std.specs.List.{filter}
use Rattle.afr_base.specs.declared.ids.ActorId.{ActorId}
use Rattle.afr_lines.specs.Locks.{without_owner, is_lock}
use Rattle.afr_lines.specs.declared.lock.HeldLock.{HeldLock}
use Rattle.afr_session.specs.Links.{Links, link_of, joined, met, opened_once, opens}
use Rattle.afr_lines.specs.declared.request.Area.TheVariants.{Range, Name}
use Rattle.afr_lines.specs.declared.request.Request.{Request}
use Rattle.afr_lines.specs.declared.request.Request.TheVariants.{Lock, Unlock}
use Rattle.afr_lines.specs.declared.request.Area.{Area}
use Rattle.afr_lines.specs.declared.lock.Domain.{Domain}
use Rattle.afr_server.proofs.RequestLemmas.{by_locks}
use Rattle.afr_name_locks.specs.Names.{name_lock, same_dir_name}
use Rattle.afr_name_locks.specs.declared.names.DirName.{DirName}
use Rattle.afr_range_locks.specs.Locks.{range_lock, same_range}
use Rattle.afr_range_locks.specs.declared.ranges.ObjectRange.{ObjectRange}
use Rattle.afr_session.specs.Calls.{Does, only}
use Rattle.afr_session.specs.Calls.Call.{Cut, End, Join, Start, Stop}
use Rattle.afr_session.specs.declared.link.Link.{Link}
use Rattle.afr_server.specs.Outcome.{link_served}
use Rattle.afr_server.specs.Carried.{joined_by, names_after, ranges_after}
use Rattle.afr_server.specs.Serving.{AreOwned, IsGuarded}
use Rattle.afr_model_moves.proofs.Tests.{same_self}

pub owned_grows : {A : Type 0} (links links' : Links) (held : List (HeldLock A)) → ((x : ℕ) → (link_of x links).live ≡ true → (link_of x links').live ≡ true) → AreOwned links held → AreOwned links' held
owned_grows links links' [] more o = tt
owned_grows links links' (lock ∷ held) more o = (more lock.owner.0 o.0, owned_grows links links' held more o.1)

pub owned_filter : {A : Type 0} (links : Links) (f : HeldLock A → Bool) (held : List (HeldLock A)) → AreOwned links held → AreOwned links (filter f held)
owned_filter links f [] o = tt
owned_filter links f (lock ∷ held) o = kept (f lock) (owned_filter links f held o.1)
  where
    kept : (u : Bool) → AreOwned links (filter f held) → AreOwned links (if u then lock ∷ filter f held else filter f held)
    kept true r = (o.0, r)
    kept false r = r

pub owned_push : {A : Type 0} (links : Links) (wanted : HeldLock A) (held : List (HeldLock A)) → AreOwned links held → (link_of wanted.owner.0 links).live ≡ true → AreOwned links (held ++ wanted ∷ [])
owned_push links wanted [] o live = (live, tt)
owned_push links wanted (lock ∷ held) o live = (o.0, owned_push links wanted held o.1 live)

-- the others' locks, where only one actor's session ended
pub owned_others : {A : Type 0} (links links' : Links) (a : ActorId) (held : List (HeldLock A)) → ((x : ℕ) → (x == a.0) ≡ false → (link_of x links).live ≡ true → (link_of x links').live ≡ true) → AreOwned links held → AreOwned links' (without_owner a held)
owned_others links links' a [] more o = tt
owned_others links links' a (lock ∷ held) more o = kept (lock.owner.0 == a.0) refl (owned_others links links' a held more o.1)
  where
    kept : (u : Bool) → (lock.owner.0 == a.0) ≡ u → AreOwned links' (without_owner a held) → AreOwned links' (if not u then lock ∷ without_owner a held else without_owner a held)
    kept true e r = r
    kept false e r = (more lock.owner.0 e o.0, r)

-- an actor without a session has no lock
pub none_owned : {A : Type 0} (links : Links) (a : ActorId) (held : List (HeldLock A)) → (link_of a.0 links).live ≡ false → AreOwned links held → without_owner a held ≡ held
none_owned links a [] gone o = refl
none_owned links a (lock ∷ held) gone o = kept (eqb_tells lock.owner.0 a.0) (none_owned links a held gone o.1)
  where
    kept : ((lock.owner.0 == a.0) ≡ true) × (lock.owner.0 ≡ a.0) ⊎ ((lock.owner.0 == a.0) ≡ false) × (lock.owner.0 ≡ a.0 → ⊥) → without_owner a held ≡ held → without_owner a (lock ∷ held) ≡ lock ∷ held
    kept (inl e) r = let l : (link_of a.0 links).live ≡ true = rw (← e.1) o.0 in absurd (cc)
    kept (inr e) r = rw e.0 (ap (λ (ys : List (HeldLock _)). lock ∷ ys) r)

-- nor has anybody, where nobody has a session
pub all_gone : {A : Type 0} (links : Links) (held : List (HeldLock A)) → ((x : ℕ) → (link_of x links).live ≡ false) → AreOwned links held → held ≡ []
all_gone links [] gone o = refl
all_gone links (lock ∷ held) gone o = let l = gone lock.owner.0 in let k = o.0 in absurd (cc)

-- ---- each call
live_if : (c : Bool) (x y : Link) → x.live ≡ true → y.live ≡ true → (if c then x else y).live ≡ true
live_if true x y hx hy = hx
live_if false x y hx hy = hy

-- who has a session has one after a meeting
stays_met : (first started : Bool) (l : Link) → l.live ≡ true → (link_served first false started l).live ≡ true
stays_met first started l h = live_if first (met started l) l (live_if (opens started l) (opened_once l) l refl h) h

stays_served : (a x : ℕ) (first started : Bool) (l : Link) → l.live ≡ true → (only a x (link_served first false started) l).live ≡ true
stays_served a x first started l h = live_if (a == x) (link_served first false started l) l (stays_met first started l h) h

pub guard_count : {r : List (HeldLock ObjectRange)} {n : List (HeldLock DirName)} (a : ℕ) (first started : Bool) (links links' : Links) → ((x : ℕ) → link_of x links' ≡ only a x (link_served first false started) (link_of x links)) → IsGuarded links r n → IsGuarded links' r n
guard_count {r} {n} a first started links links' e g = record { over_ranges = owned_grows links links' r grows g.over_ranges; over_names = owned_grows links links' n grows g.over_names }
  where
    grows : (x : ℕ) → (link_of x links).live ≡ true → (link_of x links').live ≡ true
    grows x h = rw (e x) (stays_served a x first started (link_of x links) h)

pub guard_join : {r : List (HeldLock ObjectRange)} {n : List (HeldLock DirName)} (a : ℕ) (links links' : Links) → Does (Join a) links links' → IsGuarded links r n → IsGuarded links' r n
guard_join {r} {n} a links links' d g = record { over_ranges = owned_grows links links' r grows g.over_ranges; over_names = owned_grows links links' n grows g.over_names }
  where
    grows : (x : ℕ) → (link_of x links).live ≡ true → (link_of x links').live ≡ true
    grows x h = rw (d.links x) (live_if (a == x) (joined (link_of x links)) (link_of x links) h h)

pub guard_start : {r : List (HeldLock ObjectRange)} {n : List (HeldLock DirName)} (links links' : Links) → Does Start links links' → IsGuarded links r n → IsGuarded links' r n
guard_start {r} {n} links links' d g = record { over_ranges = owned_grows links links' r (λ x h. rw (d.links x) h) g.over_ranges; over_names = owned_grows links links' n (λ x h. rw (d.links x) h) g.over_names }

swapped : (a x : ℕ) → (x == a) ≡ false → (a == x) ≡ false
swapped a x h = grind (arith, nat_tests, h)

pub guard_end : {r : List (HeldLock ObjectRange)} {n : List (HeldLock DirName)} (a : ActorId) (links links' : Links) → Does (End a.0) links links' → IsGuarded links r n → IsGuarded links' (without_owner a r) (without_owner a n)
guard_end {r} {n} a links links' d g = record { over_ranges = owned_others links links' a r others g.over_ranges; over_names = owned_others links links' a n others g.over_names }
  where
    others : (x : ℕ) → (x == a.0) ≡ false → (link_of x links).live ≡ true → (link_of x links').live ≡ true
    others x o h = rw (d.links x, swapped a.0 x o) h

pub guard_cut : {r : List (HeldLock ObjectRange)} {n : List (HeldLock DirName)} (a : ActorId) (links links' : Links) → Does (Cut a.0) links links' → IsGuarded links r n → IsGuarded links' (without_owner a r) (without_owner a n)
guard_cut {r} {n} a links links' d g = record { over_ranges = owned_others links links' a r others g.over_ranges; over_names = owned_others links links' a n others g.over_names }
  where
    others : (x : ℕ) → (x == a.0) ≡ false → (link_of x links).live ≡ true → (link_of x links').live ≡ true
    others x o h = rw (d.links x, swapped a.0 x o) h

owned_joined : {A : Type 0} (links : Links) (way : Option ActorId) (wanted : HeldLock A) (held : List (HeldLock A)) → AreOwned links held → (link_of wanted.owner.0 links).live ≡ true → AreOwned links (joined_by way wanted held)
owned_joined links None wanted held o live = owned_push links wanted held o live
owned_joined links (Some owner) wanted held o live = o

owned_takes : (links : Links) (a : ActorId) (d : Domain) (area : Area) (way : Option ActorId) (r : List (HeldLock ObjectRange)) (n : List (HeldLock DirName)) → (link_of a.0 links).live ≡ true → IsGuarded links r n → IsGuarded links (ranges_after a (Lock d area) way r) (names_after a (Lock d area) way n)
owned_takes links a d (Range g from to) way r n live o = record { over_ranges = owned_joined links way (range_lock a d g from to) r o.over_ranges live; over_names = o.over_names }
owned_takes links a d (Name g name) way r n live o = record { over_ranges = o.over_ranges; over_names = owned_joined links way (name_lock a d g name) n o.over_names live }

owned_frees : (links : Links) (a : ActorId) (d : Domain) (area : Area) (way : Option ActorId) (r : List (HeldLock ObjectRange)) (n : List (HeldLock DirName)) → IsGuarded links r n → IsGuarded links (ranges_after a (Unlock d area) way r) (names_after a (Unlock d area) way n)
owned_frees links a d (Range g from to) way r n o = record { over_ranges = owned_filter links (λ lock. not (is_lock same_range (range_lock a d g from to) lock)) r o.over_ranges; over_names = o.over_names }
owned_frees links a d (Name g name) way r n o = record { over_ranges = o.over_ranges; over_names = owned_filter links (λ lock. not (is_lock same_dir_name (name_lock a d g name) lock)) n o.over_names }

owned_after : (links : Links) (a : ActorId) (request : Request) (way : Option ActorId) (r : List (HeldLock ObjectRange)) (n : List (HeldLock DirName)) → (link_of a.0 links).live ≡ true → IsGuarded links r n → IsGuarded links (ranges_after a request way r) (names_after a request way n)
owned_after links a request way r n live o =
    by_locks (λ q. IsGuarded links (ranges_after a q way r) (names_after a q way n)) (λ d area. owned_takes links a d area way r n live o) (λ d area. owned_frees links a d area way r n o)
    (λ q plain. record { over_ranges = subst (AreOwned links) (sym (plain.ranges a way r)) o.over_ranges; over_names = subst (AreOwned links) (sym (plain.names a way n)) o.over_names }) request

-- a request that is carried out for an actor whose session is live after it
pub guard_carry : (a : ActorId) (request : Request) (way : Option ActorId) (first started : Bool) (links links' : Links) (r r' : List (HeldLock ObjectRange)) (n n' : List (HeldLock DirName))
    → ((x : ℕ) → link_of x links' ≡ only a.0 x (link_served first false started) (link_of x links)) → (link_served first false started (link_of a.0 links)).live ≡ true
    → r' ≡ ranges_after a request way r → n' ≡ names_after a request way n → IsGuarded links r n → IsGuarded links' r' n'
guard_carry a request way first started links links' r r' n n' each live er en g =
    rw (er, en) (owned_after links' a request way r n here (guard_count a.0 first started links links' each g))
  where
    here : (link_of a.0 links').live ≡ true
    here = rw (each a.0, same_self a.0) live

-- ---- what is already so
pub cut_gone : (a : ActorId) (links links' : Links) → Does (Cut a.0) links links' → links' ≡ links → (link_of a.0 links).live ≡ false
cut_gone a links links' d same = let e = d.links a.0 in ap (λ (l : Link). l.live) (rw (same, same_self a.0) at e)

pub stop_gone : (links links' : Links) (x : ℕ) → Does Stop links links' → links' ≡ links → (link_of x links).live ≡ false
stop_gone links links' x d same = let e = d.links x in ap (λ (l : Link). l.live) (rw same at e)

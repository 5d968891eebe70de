-- The locks of two tables are those of one list, in the order in which they were granted.
use Rattle.std.proofs.Common.{◌≡◌, ℕ, Bool, true, false, List, [], ◌∷◌, ◌++◌, refl, sym, ap, ◌∙◌, arith, Option, Some, None, if◌then◌else◌, ◌==◌, ◌&&◌, not}
use Rattle.std.proofs.lemmas.Bool.Decides.{nat_tests}
use Rattle.std.specs.List.{filter}
use Rattle.std.specs.Prelude.{take, drop}
use Rattle.std.specs.BTreeMap.{is_at}
use Rattle.std.specs.Map.{lookup}
use Rattle.std.proofs.lemmas.List.{append-nil}
use Rattle.std.proofs.lemmas.List.Elements.{filter-append}
use Rattle.afr_object.specs.Repairs.{repaired}
use Rattle.afr_object.specs.Tables.{copy_at, key_cmp, name_cmp, view_of, Table}
use Rattle.afr_object.specs.Object.{Object}
use Rattle.afr_lines.specs.Log.{change_at}
use Rattle.afr_lines.specs.declared.answer.Answer.{Answer}
use Rattle.afr_lines.specs.declared.answer.Answer.TheVariants as answer
use Rattle.afr_base.specs.declared.ids.ActorId.{ActorId}
use Rattle.afr_base.specs.declared.ids.BrickId.{BrickId}
use Rattle.afr_base.specs.declared.ids.Gfid.{Gfid}
use Rattle.afr_base.specs.declared.ids.NameId.{NameId}
use Rattle.afr_lines.specs.declared.fault.Fault.{Fault}
use Rattle.afr_lines.specs.declared.fault.Fault.TheVariants.{Fail, Lost}
use Rattle.afr_lines.specs.Told.{told_by}
use Rattle.afr_lines.specs.declared.answer.Told.{Told}
use Rattle.afr_lines.specs.declared.answer.Told.TheVariants as as_told
use Rattle.afr_lines.specs.declared.line.Line.{Line}
use Rattle.afr_lines.specs.declared.line.Line.TheVariants.{Ask}
use Rattle.afr_lines.specs.declared.request.Area.{Area}
use Rattle.afr_lines.specs.declared.request.Area.TheVariants.{Range, Name}
use Rattle.afr_lines.specs.declared.request.Request.{Request}
use Rattle.afr_lines.specs.declared.request.Request.TheVariants.{Lock, Unlock, Look, ReadBytes, ReadName, ReadAttr, ReadAttrs, Index, Pre, Apply, Post, Mend, Settle}
use Rattle.afr_lines.specs.declared.request.Request.TheVariants as request
use Rattle.afr_model.specs.Honest.{answer_by, copy_answer, copy_for, lock_answer, over_session}
use Rattle.afr_lines.specs.Overlap.{overlap}
use Rattle.afr_model.specs.Locks.{outlives, granted_by_line, releases}
use Rattle.afr_model.specs.Sessions.{ends_session}
use Rattle.afr_name_locks.specs.Names.{name_lock, overlap_dir_name, same_dir_name}
use Rattle.afr_name_locks.specs.declared.names.DirName.{DirName}
use Rattle.afr_range_locks.specs.Locks.{overlap_range, range_lock, same_range}
use Rattle.afr_lines.specs.Locks.{conflicts, first_conflict, is_lock, same_domain, without_owner}
use Rattle.afr_lines.specs.declared.lock.Domain.{Domain}
use Rattle.afr_lines.specs.declared.lock.HeldLock.{HeldLock}
use Rattle.afr_range_locks.specs.declared.ranges.ObjectRange.{ObjectRange}
use Rattle.afr_server.proofs.ListLemmas.{filter_and, filter_true, never}
use Rattle.afr_server.proofs.RequestLemmas.{by_locks}
use Rattle.afr_server.specs.Carried.{joined_by, names_after, ranges_after}
use Rattle.afr_server.specs.Log.{name_before, names_in, range_before, ranges_in}
use Rattle.afr_server.specs.Outcome.{is_carried_out, is_lost, locks_served}
use Rattle.afr_model_moves.proofs.Tests.{same_self}

-- ---- ranges
pub ranges-filter : (P : HeldLock Area → Bool) (Q : HeldLock ObjectRange → Bool) → ((o : ActorId) (d : Domain) (g : Gfid) (from to : ℕ) → P (record { owner = o; domain = d; area = Range g from to }) ≡ Q (range_lock o d g from to)) → (held : List (HeldLock Area)) → ranges_in (filter P held) ≡ filter Q (ranges_in held)
ranges-filter P Q h [] = refl
ranges-filter P Q h (lock ∷ more) = step lock.area (ranges-filter P Q h more)
  where
    kept : (u : Bool) (g : Gfid) (from to : ℕ) → ranges_in (filter P more) ≡ filter Q (ranges_in more) → ranges_in (if u then (record { owner = lock.owner; domain = lock.domain; area = Range g from to }) ∷ filter P more else filter P more) ≡ (if u then range_lock lock.owner lock.domain g from to ∷ filter Q (ranges_in more) else filter Q (ranges_in more))
    kept true g from to r = ap (λ (ys : List _). range_lock lock.owner lock.domain g from to ∷ ys) r
    kept false g from to r = r

    skipped : (u : Bool) (area : Area) → range_before lock.owner lock.domain area (ranges_in (filter P more)) ≡ ranges_in (filter P more) → ranges_in (if u then (record { owner = lock.owner; domain = lock.domain; area = area }) ∷ filter P more else filter P more) ≡ ranges_in (filter P more)
    skipped true area r = r
    skipped false area r = refl

    step : (area : Area) → ranges_in (filter P more) ≡ filter Q (ranges_in more)
        → ranges_in (if P (record { owner = lock.owner; domain = lock.domain; area = area }) then (record { owner = lock.owner; domain = lock.domain; area = area }) ∷ filter P more else filter P more) ≡ filter Q (range_before lock.owner lock.domain area (ranges_in more))
    step (Range g from to) r = rw (h lock.owner lock.domain g from to) (kept (Q (range_lock lock.owner lock.domain g from to)) g from to r)
    step (Name g name) r = skipped (P (record { owner = lock.owner; domain = lock.domain; area = Name g name })) (Name g name) refl ∙ r

pub ranges-append : (xs ys : List (HeldLock Area)) → ranges_in (xs ++ ys) ≡ ranges_in xs ++ ranges_in ys
ranges-append [] ys = refl
ranges-append (lock ∷ more) ys = step lock.area (ranges-append more ys)
  where
    step : (area : Area) → ranges_in (more ++ ys) ≡ ranges_in more ++ ranges_in ys → range_before lock.owner lock.domain area (ranges_in (more ++ ys)) ≡ range_before lock.owner lock.domain area (ranges_in more) ++ ranges_in ys
    step (Range g from to) r = ap (λ (zs : List _). range_lock lock.owner lock.domain g from to ∷ zs) r
    step (Name g name) r = r

-- who is in the way is the same in the table as in the list
pub ranges-conflict : (a : ActorId) (domain : Domain) (g : Gfid) (from to : ℕ) (held : List (HeldLock Area)) → first_conflict overlap (record { owner = a; domain = domain; area = Range g from to }) held ≡ first_conflict overlap_range (range_lock a domain g from to) (ranges_in held)
ranges-conflict a domain g from to [] = refl
ranges-conflict a domain g from to (lock ∷ more) = step lock.area (ranges-conflict a domain g from to more)
  where
    step : (area : Area) → first_conflict overlap (record { owner = a; domain = domain; area = Range g from to }) more ≡ first_conflict overlap_range (range_lock a domain g from to) (ranges_in more)
        → (if conflicts overlap (record { owner = a; domain = domain; area = Range g from to }) (record { owner = lock.owner; domain = lock.domain; area = area }) then Some lock.owner else first_conflict overlap (record { owner = a; domain = domain; area = Range g from to }) more)
        ≡ first_conflict overlap_range (range_lock a domain g from to) (range_before lock.owner lock.domain area (ranges_in more))
    step (Range g' from' to') r = ap (λ (more : Option ActorId). if conflicts overlap_range (range_lock a domain g from to) (range_lock lock.owner lock.domain g' from' to') then Some lock.owner else more) r
    step (Name g' name') r = rw (never (not (lock.owner.0 == a.0)) (same_domain domain lock.domain)) r

-- ---- names
pub names-filter : (P : HeldLock Area → Bool) (Q : HeldLock DirName → Bool) → ((o : ActorId) (d : Domain) (g : Gfid) (name : Option NameId) → P (record { owner = o; domain = d; area = Name g name }) ≡ Q (name_lock o d g name)) → (held : List (HeldLock Area)) → names_in (filter P held) ≡ filter Q (names_in held)
names-filter P Q h [] = refl
names-filter P Q h (lock ∷ more) = step lock.area (names-filter P Q h more)
  where
    kept : (u : Bool) (g : Gfid) (name : Option NameId) → names_in (filter P more) ≡ filter Q (names_in more) → names_in (if u then (record { owner = lock.owner; domain = lock.domain; area = Name g name }) ∷ filter P more else filter P more) ≡ (if u then name_lock lock.owner lock.domain g name ∷ filter Q (names_in more) else filter Q (names_in more))
    kept true g name r = ap (λ (ys : List _). name_lock lock.owner lock.domain g name ∷ ys) r
    kept false g name r = r

    skipped : (u : Bool) (area : Area) → name_before lock.owner lock.domain area (names_in (filter P more)) ≡ names_in (filter P more) → names_in (if u then (record { owner = lock.owner; domain = lock.domain; area = area }) ∷ filter P more else filter P more) ≡ names_in (filter P more)
    skipped true area r = r
    skipped false area r = refl

    step : (area : Area) → names_in (filter P more) ≡ filter Q (names_in more)
        → names_in (if P (record { owner = lock.owner; domain = lock.domain; area = area }) then (record { owner = lock.owner; domain = lock.domain; area = area }) ∷ filter P more else filter P more) ≡ filter Q (name_before lock.owner lock.domain area (names_in more))
    step (Name g name) r = rw (h lock.owner lock.domain g name) (kept (Q (name_lock lock.owner lock.domain g name)) g name r)
    step (Range g from to) r = skipped (P (record { owner = lock.owner; domain = lock.domain; area = Range g from to })) (Range g from to) refl ∙ r

pub names-append : (xs ys : List (HeldLock Area)) → names_in (xs ++ ys) ≡ names_in xs ++ names_in ys
names-append [] ys = refl
names-append (lock ∷ more) ys = step lock.area (names-append more ys)
  where
    step : (area : Area) → names_in (more ++ ys) ≡ names_in more ++ names_in ys → name_before lock.owner lock.domain area (names_in (more ++ ys)) ≡ name_before lock.owner lock.domain area (names_in more) ++ names_in ys
    step (Name g name) r = ap (λ (zs : List _). name_lock lock.owner lock.domain g name ∷ zs) r
    step (Range g from to) r = r

-- who is in the way is the same in the table as in the list
pub names-conflict : (a : ActorId) (domain : Domain) (g : Gfid) (name : Option NameId) (held : List (HeldLock Area)) → first_conflict overlap (record { owner = a; domain = domain; area = Name g name }) held ≡ first_conflict overlap_dir_name (name_lock a domain g name) (names_in held)
names-conflict a domain g name [] = refl
names-conflict a domain g name (lock ∷ more) = step lock.area (names-conflict a domain g name more)
  where
    step : (area : Area) → first_conflict overlap (record { owner = a; domain = domain; area = Name g name }) more ≡ first_conflict overlap_dir_name (name_lock a domain g name) (names_in more)
        → (if conflicts overlap (record { owner = a; domain = domain; area = Name g name }) (record { owner = lock.owner; domain = lock.domain; area = area }) then Some lock.owner else first_conflict overlap (record { owner = a; domain = domain; area = Name g name }) more)
        ≡ first_conflict overlap_dir_name (name_lock a domain g name) (name_before lock.owner lock.domain area (names_in more))
    step (Name g' name') r = ap (λ (more : Option ActorId). if conflicts overlap_dir_name (name_lock a domain g name) (name_lock lock.owner lock.domain g' name') then Some lock.owner else more) r
    step (Range g' from' to') r = rw (never (not (lock.owner.0 == a.0)) (same_domain domain lock.domain)) r

-- ---- what a line does to the locks
-- an answer that says that there is no session, or that was lost
abbrev pub is_unheard : Told → Bool
is_unheard as_told.NotConnected = true
is_unheard told = false

abbrev pub is_granted : Told → Bool
is_granted as_told.Granted = true
is_granted told = false

heard_lock : (way : Option ActorId) → is_unheard (told_by (lock_answer way)) ≡ false
heard_lock None = refl
heard_lock (Some owner) = refl

heard_copy : (f : Object → Answer) (c : Option Object) → ((o : Object) → is_unheard (told_by (f o)) ≡ false) → is_unheard (told_by (copy_answer f c)) ≡ false
heard_copy f None h = refl
heard_copy f (Some o) h = h o

-- a brick that carries a request out and is heard doesn't say that there is no session
pub answers_heard : (way : Option ActorId) (r : Request) (t : Table) (older : List Line) → is_unheard (told_by (answer_by way r t older)) ≡ false
answers_heard way (Lock d area) t older = heard_lock way
answers_heard way (Unlock d area) t older = refl
answers_heard way (Look g) t older = heard_copy (λ o. answer.Seen (view_of o)) (copy_at g t) (λ o. refl)
answers_heard way (ReadBytes g at len) t older = heard_copy (λ o. answer.Bytes (take len (drop at o.content))) (copy_at g t) (λ o. refl)
answers_heard way (ReadName g n) t older = heard_copy (λ o. answer.Entry (lookup (is_at (name_cmp n)) o.names)) (copy_at g t) (λ o. refl)
answers_heard way (request.List g) t older = heard_copy (λ o. answer.Names o.names) (copy_at g t) (λ o. refl)
answers_heard way (ReadAttr g k) t older = heard_copy (λ o. answer.Value (lookup (is_at (key_cmp k)) o.attrs)) (copy_at g t) (λ o. refl)
answers_heard way (ReadAttrs g) t older = heard_copy (λ o. answer.Attrs o.attrs) (copy_at g t) (λ o. refl)
answers_heard way Index t older = refl
answers_heard way (Pre g k) t older = heard_copy (λ o. answer.Done) (copy_at g t) (λ o. refl)
answers_heard way (Apply n) t older = heard_copy (λ o. answer.Done) (copy_for (change_at n older) t) (λ o. refl)
answers_heard way (Post n g k m) t older = heard_copy (λ o. answer.Done) (copy_at g t) (λ o. refl)
answers_heard way (Mend rep) t older = heard_copy (λ o. answer.Done) (copy_at (repaired rep) t) (λ o. refl)
answers_heard way (Settle g k less) t older = heard_copy (λ o. answer.Done) (copy_at g t) (λ o. refl)

pub ends_heard : (x y : ℕ) (a : ActorId) (b : BrickId) (r : Request) (told : Told) (took : Bool) → is_unheard told ≡ false → ends_session x y (Ask a b r told took) ≡ false
ends_heard x y a b r as_told.Granted took h = refl
ends_heard x y a b r (as_told.Held owner) took h = refl
ends_heard x y a b r (as_told.Seen view) took h = refl
ends_heard x y a b r as_told.Done took h = refl
ends_heard x y a b r as_told.Given took h = refl
ends_heard x y a b r as_told.NoObject took h = refl
ends_heard x y a b r as_told.NotConnected took h = absurd (cc)
ends_heard x y a b r as_told.Failed took h = refl

pub releases_refused : (a : ActorId) (b : BrickId) (r : Request) (told : Told) (y : ℕ) (lock : HeldLock Area) → releases (Ask a b r told false) y lock ≡ false
releases_refused a b r told y lock = by_locks (λ r. releases (Ask a b r told false) y lock ≡ false) (λ d area. refl) (λ d area. refl) (λ r plain. plain.releases a b told false y lock) r

granted_none_lock : (a : ActorId) (b : BrickId) (d : Domain) (area : Area) (told : Told) (took : Bool) (y : ℕ) → is_granted told ≡ false → granted_by_line y (Ask a b (Lock d area) told took) ≡ []
granted_none_lock a b d area as_told.Granted took y h = absurd (cc)
granted_none_lock a b d area (as_told.Held owner) took y h = refl
granted_none_lock a b d area (as_told.Seen view) took y h = refl
granted_none_lock a b d area as_told.Done took y h = refl
granted_none_lock a b d area as_told.Given took y h = refl
granted_none_lock a b d area as_told.NoObject took y h = refl
granted_none_lock a b d area as_told.NotConnected took y h = refl
granted_none_lock a b d area as_told.Failed took y h = refl

pub granted_none : (a : ActorId) (b : BrickId) (r : Request) (told : Told) (took : Bool) (y : ℕ) → is_granted told ≡ false → granted_by_line y (Ask a b r told took) ≡ []
granted_none a b r told took y h = by_locks (λ r. granted_by_line y (Ask a b r told took) ≡ []) (λ d area. granted_none_lock a b d area told took y h) (λ d area. refl) (λ r plain. plain.grants a b told took y) r

-- the list of a brick's locks after a line
abbrev pub locks_next : Line → ℕ → List (HeldLock Area) → List (HeldLock Area)
locks_next line y held = filter (outlives line y) held ++ granted_by_line y line

-- a line that grants and releases nothing and ends no session leaves them
pub same_locks : (line : Line) (y : ℕ) (held : List (HeldLock Area)) → ((lock : HeldLock Area) → releases line y lock ≡ false) → ((x : ℕ) → ends_session x y line ≡ false) → granted_by_line y line ≡ [] → locks_next line y held ≡ held
same_locks line y held r e g = rw g (append-nil (filter (outlives line y) held) ∙ filter_true (outlives line y) held (λ lock. rw (r lock, e lock.owner.0) refl))

refused_ends : (x y : ℕ) (a : ActorId) (b : BrickId) (r : Request) → ends_session x y (Ask a b r as_told.NotConnected false) ≡ false
refused_ends x y a b r = never (a.0 == x) (b.0 == y)

-- the lock's owner is gone, or not
gone : (a o b : ℕ) → (true && not ((a == o) && (b == b) && true)) ≡ not (o == a)
gone a o b = grind (arith, nat_tests)

both_gone : (a o b : ℕ) (x : Bool) → (not (true && (b == b) && x) && not ((a == o) && (b == b) && true)) ≡ (not x && not (o == a))
both_gone a o b true = grind (arith, nat_tests)
both_gone a o b false = grind (arith, nat_tests)

-- ---- ranges after a request whose answer was lost
ranges_lost_plain : (a : ActorId) (b : BrickId) (r : Request) (held : List (HeldLock Area)) → ((lock : HeldLock Area) → releases (Ask a b r as_told.NotConnected true) b.0 lock ≡ false) → ranges_in (locks_next (Ask a b r as_told.NotConnected true) b.0 held) ≡ without_owner a (ranges_in held)
ranges_lost_plain a b r held kept =
    rw (granted_none a b r as_told.NotConnected true b.0 refl, append-nil (filter (outlives (Ask a b r as_told.NotConnected true) b.0) held))
    (ranges-filter (outlives (Ask a b r as_told.NotConnected true) b.0) (λ lock. not (lock.owner.0 == a.0)) (λ o d g from to. rw (kept (record { owner = o; domain = d; area = Range g from to })) (gone a.0 o.0 b.0)) held)

ranges_without_joined : (a : ActorId) (domain : Domain) (g : Gfid) (from to : ℕ) (way : Option ActorId) (held : List (HeldLock ObjectRange)) → without_owner a (joined_by way (range_lock a domain g from to) held) ≡ without_owner a held
ranges_without_joined a domain g from to None held = filter-append (λ lock. not (lock.owner.0 == a.0)) held (range_lock a domain g from to ∷ []) ∙ rw (same_self a.0) (append-nil (without_owner a held))
ranges_without_joined a domain g from to (Some owner) held = refl

ranges_lost_lock : (a : ActorId) (b : BrickId) (domain : Domain) (area : Area) (way : Option ActorId) (held : List (HeldLock Area)) → ranges_in (locks_next (Ask a b (Lock domain area) as_told.NotConnected true) b.0 held) ≡ without_owner a (ranges_after a (Lock domain area) way (ranges_in held))
ranges_lost_lock a b domain (Range g from to) way held = ranges_lost_plain a b (Lock domain (Range g from to)) held (λ lock. refl) ∙ sym (ranges_without_joined a domain g from to way (ranges_in held))
ranges_lost_lock a b domain (Name g name) way held = ranges_lost_plain a b (Lock domain (Name g name)) held (λ lock. refl)

ranges_lost_unlock : (a : ActorId) (b : BrickId) (domain : Domain) (area : Area) (way : Option ActorId) (held : List (HeldLock Area)) → ranges_in (locks_next (Ask a b (Unlock domain area) as_told.NotConnected true) b.0 held) ≡ without_owner a (ranges_after a (Unlock domain area) way (ranges_in held))
ranges_lost_unlock a b domain (Range g from to) way held =
    end_in ∙ ranges-filter (outlives (Ask a b (Unlock domain (Range g from to)) as_told.NotConnected true) b.0) both each held
    ∙ filter_and (λ lock. not (is_lock same_range (range_lock a domain g from to) lock)) (λ lock. not (lock.owner.0 == a.0)) both (ranges_in held) (λ lock. refl)
  where
    both : HeldLock ObjectRange → Bool
    both lock = not (is_lock same_range (range_lock a domain g from to) lock) && not (lock.owner.0 == a.0)

    end_in : ranges_in (filter (outlives (Ask a b (Unlock domain (Range g from to)) as_told.NotConnected true) b.0) held ++ []) ≡ ranges_in (filter (outlives (Ask a b (Unlock domain (Range g from to)) as_told.NotConnected true) b.0) held)
    end_in = ap ranges_in (append-nil (filter (outlives (Ask a b (Unlock domain (Range g from to)) as_told.NotConnected true) b.0) held))

    each : (o : ActorId) (d : Domain) (g' : Gfid) (from' to' : ℕ) → outlives (Ask a b (Unlock domain (Range g from to)) as_told.NotConnected true) b.0 (record { owner = o; domain = d; area = Range g' from' to' }) ≡ both (range_lock o d g' from' to')
    each o d g' from' to' = both_gone a.0 o.0 b.0 (is_lock same_range (range_lock a domain g from to) (range_lock o d g' from' to'))
ranges_lost_unlock a b domain (Name g name) way held =
    ap ranges_in (append-nil (filter (outlives (Ask a b (Unlock domain (Name g name)) as_told.NotConnected true) b.0) held))
    ∙ ranges-filter (outlives (Ask a b (Unlock domain (Name g name)) as_told.NotConnected true) b.0) (λ lock. not (lock.owner.0 == a.0)) (λ o d g' from' to'. both_gone a.0 o.0 b.0 ((a.0 == o.0) && same_domain domain d && false) ∙ rw (never (a.0 == o.0) (same_domain domain d)) refl) held

ranges_lost : (a : ActorId) (b : BrickId) (r : Request) (way : Option ActorId) (held : List (HeldLock Area)) → ranges_in (locks_next (Ask a b r as_told.NotConnected true) b.0 held) ≡ without_owner a (ranges_after a r way (ranges_in held))
ranges_lost a b r way held =
    by_locks (λ r. ranges_in (locks_next (Ask a b r as_told.NotConnected true) b.0 held) ≡ without_owner a (ranges_after a r way (ranges_in held)))
    (λ domain area. ranges_lost_lock a b domain area way held) (λ domain area. ranges_lost_unlock a b domain area way held)
    (λ r plain. ranges_lost_plain a b r held (λ lock. plain.releases a b as_told.NotConnected true b.0 lock) ∙ ap (without_owner a) (sym (plain.ranges a way (ranges_in held)))) r

-- ---- names after a request whose answer was lost
names_lost_plain : (a : ActorId) (b : BrickId) (r : Request) (held : List (HeldLock Area)) → ((lock : HeldLock Area) → releases (Ask a b r as_told.NotConnected true) b.0 lock ≡ false) → names_in (locks_next (Ask a b r as_told.NotConnected true) b.0 held) ≡ without_owner a (names_in held)
names_lost_plain a b r held kept =
    rw (granted_none a b r as_told.NotConnected true b.0 refl, append-nil (filter (outlives (Ask a b r as_told.NotConnected true) b.0) held))
    (names-filter (outlives (Ask a b r as_told.NotConnected true) b.0) (λ lock. not (lock.owner.0 == a.0)) (λ o d g name. rw (kept (record { owner = o; domain = d; area = Name g name })) (gone a.0 o.0 b.0)) held)

names_without_joined : (a : ActorId) (domain : Domain) (g : Gfid) (name : Option NameId) (way : Option ActorId) (held : List (HeldLock DirName)) → without_owner a (joined_by way (name_lock a domain g name) held) ≡ without_owner a held
names_without_joined a domain g name None held = filter-append (λ lock. not (lock.owner.0 == a.0)) held (name_lock a domain g name ∷ []) ∙ rw (same_self a.0) (append-nil (without_owner a held))
names_without_joined a domain g name (Some owner) held = refl

names_lost_lock : (a : ActorId) (b : BrickId) (domain : Domain) (area : Area) (way : Option ActorId) (held : List (HeldLock Area)) → names_in (locks_next (Ask a b (Lock domain area) as_told.NotConnected true) b.0 held) ≡ without_owner a (names_after a (Lock domain area) way (names_in held))
names_lost_lock a b domain (Name g name) way held = names_lost_plain a b (Lock domain (Name g name)) held (λ lock. refl) ∙ sym (names_without_joined a domain g name way (names_in held))
names_lost_lock a b domain (Range g from to) way held = names_lost_plain a b (Lock domain (Range g from to)) held (λ lock. refl)

names_lost_unlock : (a : ActorId) (b : BrickId) (domain : Domain) (area : Area) (way : Option ActorId) (held : List (HeldLock Area)) → names_in (locks_next (Ask a b (Unlock domain area) as_told.NotConnected true) b.0 held) ≡ without_owner a (names_after a (Unlock domain area) way (names_in held))
names_lost_unlock a b domain (Name g name) way held =
    end_in ∙ names-filter (outlives (Ask a b (Unlock domain (Name g name)) as_told.NotConnected true) b.0) both each held
    ∙ filter_and (λ lock. not (is_lock same_dir_name (name_lock a domain g name) lock)) (λ lock. not (lock.owner.0 == a.0)) both (names_in held) (λ lock. refl)
  where
    both : HeldLock DirName → Bool
    both lock = not (is_lock same_dir_name (name_lock a domain g name) lock) && not (lock.owner.0 == a.0)

    end_in : names_in (filter (outlives (Ask a b (Unlock domain (Name g name)) as_told.NotConnected true) b.0) held ++ []) ≡ names_in (filter (outlives (Ask a b (Unlock domain (Name g name)) as_told.NotConnected true) b.0) held)
    end_in = ap names_in (append-nil (filter (outlives (Ask a b (Unlock domain (Name g name)) as_told.NotConnected true) b.0) held))

    each : (o : ActorId) (d : Domain) (g' : Gfid) (name' : Option NameId) → outlives (Ask a b (Unlock domain (Name g name)) as_told.NotConnected true) b.0 (record { owner = o; domain = d; area = Name g' name' }) ≡ both (name_lock o d g' name')
    each o d g' name' = both_gone a.0 o.0 b.0 (is_lock same_dir_name (name_lock a domain g name) (name_lock o d g' name'))
names_lost_unlock a b domain (Range g from to) way held =
    ap names_in (append-nil (filter (outlives (Ask a b (Unlock domain (Range g from to)) as_told.NotConnected true) b.0) held))
    ∙ names-filter (outlives (Ask a b (Unlock domain (Range g from to)) as_told.NotConnected true) b.0) (λ lock. not (lock.owner.0 == a.0)) (λ o d g' name'. both_gone a.0 o.0 b.0 ((a.0 == o.0) && same_domain domain d && false) ∙ rw (never (a.0 == o.0) (same_domain domain d)) refl) held

names_lost : (a : ActorId) (b : BrickId) (r : Request) (way : Option ActorId) (held : List (HeldLock Area)) → names_in (locks_next (Ask a b r as_told.NotConnected true) b.0 held) ≡ without_owner a (names_after a r way (names_in held))
names_lost a b r way held =
    by_locks (λ r. names_in (locks_next (Ask a b r as_told.NotConnected true) b.0 held) ≡ without_owner a (names_after a r way (names_in held)))
    (λ domain area. names_lost_lock a b domain area way held) (λ domain area. names_lost_unlock a b domain area way held)
    (λ r plain. names_lost_plain a b r held (λ lock. plain.releases a b as_told.NotConnected true b.0 lock) ∙ ap (without_owner a) (sym (plain.names a way (names_in held)))) r

-- ---- after a request that was answered
told_same : (a : ActorId) (b : BrickId) (r : Request) (told : Told) (held : List (HeldLock Area)) → ((lock : HeldLock Area) → releases (Ask a b r told true) b.0 lock ≡ false) → granted_by_line b.0 (Ask a b r told true) ≡ [] → is_unheard told ≡ false → locks_next (Ask a b r told true) b.0 held ≡ held
told_same a b r told held kept none heard = same_locks (Ask a b r told true) b.0 held kept (λ x. ends_heard x b.0 a b r told true heard) none

told_granted : (a : ActorId) (b : BrickId) (domain : Domain) (area : Area) (held : List (HeldLock Area)) → locks_next (Ask a b (Lock domain area) as_told.Granted true) b.0 held ≡ held ++ (record { owner = a; domain = domain; area = area }) ∷ []
told_granted a b domain area held = rw (same_self b.0, filter_true (outlives (Ask a b (Lock domain area) as_told.Granted true) b.0) held (λ lock. refl)) refl

released : (o : ℕ) (x : Bool) (b : ℕ) → (not (true && (b == b) && x) && true) ≡ not x
released o true b = grind (arith, nat_tests)
released o false b = grind (arith, nat_tests)

ranges_told_lock : (a : ActorId) (b : BrickId) (domain : Domain) (area : Area) (way : Option ActorId) (t : Table) (older : List Line) (held : List (HeldLock Area)) → ranges_in (locks_next (Ask a b (Lock domain area) (told_by (answer_by way (Lock domain area) t older)) true) b.0 held) ≡ ranges_after a (Lock domain area) way (ranges_in held)
ranges_told_lock a b domain (Range g from to) None t older held = ap ranges_in (told_granted a b domain (Range g from to) held) ∙ ranges-append held ((record { owner = a; domain = domain; area = Range g from to }) ∷ [])
ranges_told_lock a b domain (Range g from to) (Some owner) t older held = ap ranges_in (told_same a b (Lock domain (Range g from to)) (as_told.Held owner) held (λ lock. refl) refl refl)
ranges_told_lock a b domain (Name g name) None t older held = ap ranges_in (told_granted a b domain (Name g name) held) ∙ ranges-append held ((record { owner = a; domain = domain; area = Name g name }) ∷ []) ∙ append-nil (ranges_in held)
ranges_told_lock a b domain (Name g name) (Some owner) t older held = ap ranges_in (told_same a b (Lock domain (Name g name)) (as_told.Held owner) held (λ lock. refl) refl refl)

ranges_told_unlock : (a : ActorId) (b : BrickId) (domain : Domain) (area : Area) (way : Option ActorId) (t : Table) (older : List Line) (held : List (HeldLock Area)) → ranges_in (locks_next (Ask a b (Unlock domain area) (told_by (answer_by way (Unlock domain area) t older)) true) b.0 held) ≡ ranges_after a (Unlock domain area) way (ranges_in held)
ranges_told_unlock a b domain (Range g from to) way t older held =
    ap ranges_in (append-nil (filter (outlives (Ask a b (Unlock domain (Range g from to)) as_told.Done true) b.0) held))
    ∙ ranges-filter (outlives (Ask a b (Unlock domain (Range g from to)) as_told.Done true) b.0) (λ lock. not (is_lock same_range (range_lock a domain g from to) lock)) (λ o d g' from' to'. released o.0 (is_lock same_range (range_lock a domain g from to) (range_lock o d g' from' to')) b.0) held
ranges_told_unlock a b domain (Name g name) way t older held =
    ap ranges_in (append-nil (filter (outlives (Ask a b (Unlock domain (Name g name)) as_told.Done true) b.0) held))
    ∙ ranges-filter (outlives (Ask a b (Unlock domain (Name g name)) as_told.Done true) b.0) (λ lock. true) (λ o d g' from' to'. released o.0 ((a.0 == o.0) && same_domain domain d && false) b.0 ∙ rw (never (a.0 == o.0) (same_domain domain d)) refl) held
    ∙ filter_true (λ lock. true) (ranges_in held) (λ lock. refl)

ranges_told : (a : ActorId) (b : BrickId) (r : Request) (way : Option ActorId) (t : Table) (older : List Line) (held : List (HeldLock Area)) → ranges_in (locks_next (Ask a b r (told_by (answer_by way r t older)) true) b.0 held) ≡ ranges_after a r way (ranges_in held)
ranges_told a b r way t older held =
    by_locks (λ r. ranges_in (locks_next (Ask a b r (told_by (answer_by way r t older)) true) b.0 held) ≡ ranges_after a r way (ranges_in held))
    (λ domain area. ranges_told_lock a b domain area way t older held) (λ domain area. ranges_told_unlock a b domain area way t older held)
    (λ r plain. ap ranges_in (told_same a b r (told_by (answer_by way r t older)) held (λ lock. plain.releases a b (told_by (answer_by way r t older)) true b.0 lock) (plain.grants a b (told_by (answer_by way r t older)) true b.0) (answers_heard way r t older)) ∙ sym (plain.ranges a way (ranges_in held))) r

-- the table after a request is what the log then says
pub ranges_served : (live : Bool) (fault : Option Fault) (a : ActorId) (b : BrickId) (r : Request) (way : Option ActorId) (t : Table) (older : List Line) (held : List (HeldLock Area))
    → ranges_in (locks_next (Ask a b r (over_session live fault (told_by (answer_by way r t older))).told (over_session live fault (told_by (answer_by way r t older))).took) b.0 held)
    ≡ locks_served (is_carried_out live fault) (is_lost live fault) a (ranges_after a r way (ranges_in held)) (ranges_in held)
ranges_served false fault a b r way t older held = ap ranges_in (same_locks (Ask a b r as_told.NotConnected false) b.0 held (λ lock. releases_refused a b r as_told.NotConnected b.0 lock) (λ x. refused_ends x b.0 a b r) (granted_none a b r as_told.NotConnected false b.0 refl))
ranges_served true (Some Fail) a b r way t older held = ap ranges_in (same_locks (Ask a b r as_told.Failed false) b.0 held (λ lock. releases_refused a b r as_told.Failed b.0 lock) (λ x. refl) (granted_none a b r as_told.Failed false b.0 refl))
ranges_served true (Some Lost) a b r way t older held = ranges_lost a b r way held
ranges_served true None a b r way t older held = ranges_told a b r way t older held

names_told_lock : (a : ActorId) (b : BrickId) (domain : Domain) (area : Area) (way : Option ActorId) (t : Table) (older : List Line) (held : List (HeldLock Area)) → names_in (locks_next (Ask a b (Lock domain area) (told_by (answer_by way (Lock domain area) t older)) true) b.0 held) ≡ names_after a (Lock domain area) way (names_in held)
names_told_lock a b domain (Name g name) None t older held = ap names_in (told_granted a b domain (Name g name) held) ∙ names-append held ((record { owner = a; domain = domain; area = Name g name }) ∷ [])
names_told_lock a b domain (Name g name) (Some owner) t older held = ap names_in (told_same a b (Lock domain (Name g name)) (as_told.Held owner) held (λ lock. refl) refl refl)
names_told_lock a b domain (Range g from to) None t older held = ap names_in (told_granted a b domain (Range g from to) held) ∙ names-append held ((record { owner = a; domain = domain; area = Range g from to }) ∷ []) ∙ append-nil (names_in held)
names_told_lock a b domain (Range g from to) (Some owner) t older held = ap names_in (told_same a b (Lock domain (Range g from to)) (as_told.Held owner) held (λ lock. refl) refl refl)

names_told_unlock : (a : ActorId) (b : BrickId) (domain : Domain) (area : Area) (way : Option ActorId) (t : Table) (older : List Line) (held : List (HeldLock Area)) → names_in (locks_next (Ask a b (Unlock domain area) (told_by (answer_by way (Unlock domain area) t older)) true) b.0 held) ≡ names_after a (Unlock domain area) way (names_in held)
names_told_unlock a b domain (Name g name) way t older held =
    ap names_in (append-nil (filter (outlives (Ask a b (Unlock domain (Name g name)) as_told.Done true) b.0) held))
    ∙ names-filter (outlives (Ask a b (Unlock domain (Name g name)) as_told.Done true) b.0) (λ lock. not (is_lock same_dir_name (name_lock a domain g name) lock)) (λ o d g' name'. released o.0 (is_lock same_dir_name (name_lock a domain g name) (name_lock o d g' name')) b.0) held
names_told_unlock a b domain (Range g from to) way t older held =
    ap names_in (append-nil (filter (outlives (Ask a b (Unlock domain (Range g from to)) as_told.Done true) b.0) held))
    ∙ names-filter (outlives (Ask a b (Unlock domain (Range g from to)) as_told.Done true) b.0) (λ lock. true) (λ o d g' name'. released o.0 ((a.0 == o.0) && same_domain domain d && false) b.0 ∙ rw (never (a.0 == o.0) (same_domain domain d)) refl) held
    ∙ filter_true (λ lock. true) (names_in held) (λ lock. refl)

names_told : (a : ActorId) (b : BrickId) (r : Request) (way : Option ActorId) (t : Table) (older : List Line) (held : List (HeldLock Area)) → names_in (locks_next (Ask a b r (told_by (answer_by way r t older)) true) b.0 held) ≡ names_after a r way (names_in held)
names_told a b r way t older held =
    by_locks (λ r. names_in (locks_next (Ask a b r (told_by (answer_by way r t older)) true) b.0 held) ≡ names_after a r way (names_in held))
    (λ domain area. names_told_lock a b domain area way t older held) (λ domain area. names_told_unlock a b domain area way t older held)
    (λ r plain. ap names_in (told_same a b r (told_by (answer_by way r t older)) held (λ lock. plain.releases a b (told_by (answer_by way r t older)) true b.0 lock) (plain.grants a b (told_by (answer_by way r t older)) true b.0) (answers_heard way r t older)) ∙ sym (plain.names a way (names_in held))) r

-- the table after a request is what the log then says
pub names_served : (live : Bool) (fault : Option Fault) (a : ActorId) (b : BrickId) (r : Request) (way : Option ActorId) (t : Table) (older : List Line) (held : List (HeldLock Area))
    → names_in (locks_next (Ask a b r (over_session live fault (told_by (answer_by way r t older))).told (over_session live fault (told_by (answer_by way r t older))).took) b.0 held)
    ≡ locks_served (is_carried_out live fault) (is_lost live fault) a (names_after a r way (names_in held)) (names_in held)
names_served false fault a b r way t older held = ap names_in (same_locks (Ask a b r as_told.NotConnected false) b.0 held (λ lock. releases_refused a b r as_told.NotConnected b.0 lock) (λ x. refused_ends x b.0 a b r) (granted_none a b r as_told.NotConnected false b.0 refl))
names_served true (Some Fail) a b r way t older held = ap names_in (same_locks (Ask a b r as_told.Failed false) b.0 held (λ lock. releases_refused a b r as_told.Failed b.0 lock) (λ x. refl) (granted_none a b r as_told.Failed false b.0 refl))
names_served true (Some Lost) a b r way t older held = names_lost a b r way held
names_served true None a b r way t older held = names_told a b r way t older held

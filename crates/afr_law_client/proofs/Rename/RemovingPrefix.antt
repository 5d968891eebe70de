-- The walk to the directory of the old name: what its lines show of it, once the whole path was walked.
use Rattle.std.proofs.Common.{◌≡◌, ◌⊎◌, ℕ, ◌+◌, ◌<◌, ◌≤◌, ◌||◌, ◌==◌, nat_le, Bool, true, false, List, [], ◌∷◌, Option, Some, None, refl, sym, ap, ◌∙◌, subst, arith, if◌then◌else◌, inl, inr}
use Rattle.std.proofs.lemmas.Bool.Decides.{nat_tests, eqb_tells}
use Rattle.std.proofs.lemmas.Bool.{or_right, or_parts, or_from}
use Rattle.afr_base.specs.Bricks.{added_if, member}
use Rattle.afr_base.specs.SetLemmas.{member_added}
use Rattle.afr_base.specs.declared.ids.Gfid.{Gfid}
use Rattle.afr_base.proofs.TestLemmas.{or_more, or_second}
use Rattle.afr_lines.specs.Work.{Work}
use Rattle.afr_lines.specs.declared.answer.Told.{Told}
use Rattle.afr_lines.specs.declared.answer.Told.TheVariants as as_told
use Rattle.afr_lines.specs.declared.line.Line.{Line}
use Rattle.afr_lines.specs.declared.line.Line.TheVariants.{Ask}
use Rattle.afr_lines.specs.declared.request.Request.{Request}
use Rattle.afr_lines.specs.declared.request.Request.TheVariants as request
use Rattle.afr_lines.specs.declared.lock.Domain.TheVariants.{Work as WorkDomain}
use Rattle.afr_object.specs.Tables.{Table, copy_at}
use Rattle.afr_object.specs.declared.entry.Entry.{Entry}
use Rattle.afr_object.specs.Object.{Object}
use Rattle.afr_plan.specs.declared.plan.Plan.{Plan}
use Rattle.afr_model.specs.Parts.{names_asked, upto_names}
use Rattle.afr_model.specs.Renamed.{AreLegs, LegEnds, since_name}
use Rattle.afr_model.specs.Showing.{Path, At, NoName, Untold, NotAsked, Reading, among, given_by, has, locks, looking, looks_at, one_name, path_after, path_by, reading_after, reading_by, reading_told}
use Rattle.afr_model.specs.Skipped.{IsLooked}
use Rattle.afr_model.specs.Standing.{asks_name, kept_at, locks_any, path_upto}
use Rattle.afr_model.specs.Tables.{entry_at, holds}
use Rattle.afr_law_client.specs.Read.Lines.{LookedAll, OnlyReads}
use Rattle.afr_law_client.proofs.Rename.MakingParts.{or_left}

-- ---- how far it has led
-- a path has read no more names than were asked
read_asked : (p : Plan) (w : Work) (read : ℕ) (object : Entry) → path_by p w ≡ At read object → read ≤ names_asked w
read_asked p [] read object e = let none : 0 ≡ read = ap read_in e in omega (arith, none)
  where
    read_in : Path → ℕ
    read_in (At read object) = read
    read_in other = 0
read_asked p (x ∷ w) read object e = go (λ r o f. read_asked p w r o f) x.0 e
  where
    read_in : Path → ℕ
    read_in (At read object) = read
    read_in other = 0

    named : ((r : ℕ) (o : Entry) → path_by p w ≡ At r o → r ≤ names_asked w) → (q : Path) → path_by p w ≡ q → (entry : Option Entry) → one_name entry q ≡ At read object → read ≤ names_asked w + 1
    named rest (At r o) f None h = absurd (cc h)
    named rest (At r o) f (Some found) h = let l = rest r o f in let same : r + 1 ≡ read = ap read_in h in omega (arith, l, same)
    named rest NoName f None h = absurd (cc h)
    named rest NoName f (Some found) h = absurd (cc h)
    named rest Untold f None h = absurd (cc h)
    named rest Untold f (Some found) h = absurd (cc h)

    go : ((r : ℕ) (o : Entry) → path_by p w ≡ At r o → r ≤ names_asked w) → (line : Line) → path_after p line x.1 (path_by p w) ≡ At read object → read ≤ (if asks_name line then names_asked w + 1 else names_asked w)
    go rest (Ask a b (request.ReadName g name) as_told.Given took) f = named rest (path_by p w) refl (entry_at g name (holds p x.1 b.0)) f
    go rest (Ask a b (request.ReadName g name) told took) f = absurd (cc f)
    go rest line f = rest read object f

-- where no more names were asked, the path to that many is the whole path
pub upto_whole : (p : Plan) (k : ℕ) (w : Work) → nat_le (names_asked w) k ≡ true → path_upto k p w ≡ path_by p w
upto_whole p k [] few = refl
upto_whole p k (x ∷ w) few = ap (λ (u : Path). kept_at k u (path_after p x.0 x.1 u)) (upto_whole p k w fewer) ∙ goes (path_by p w) refl
  where
    fewer : nat_le (names_asked w) k ≡ true
    fewer = go (asks_name x.0) few
      where
        go : (t : Bool) → nat_le (if t then names_asked w + 1 else names_asked w) k ≡ true → nat_le (names_asked w) k ≡ true
        go true e = grind (arith, nat_tests, e)
        go false e = e

    -- a line that asks no name leaves it
    still : (line : Line) → asks_name line ≡ false → (q : Path) → path_after p line x.1 q ≡ q
    still (Ask a b (request.ReadName g name) told took) e q = absurd (cc e)
    still line e q = refl

    there : (read : ℕ) (object : Entry) → path_by p w ≡ At read object → (read ≡ k) → asks_name x.0 ≡ false
    there read object e same = go (asks_name x.0) refl few
      where
        go : (t : Bool) → asks_name x.0 ≡ t → nat_le (if t then names_asked w + 1 else names_asked w) k ≡ true → t ≡ false
        go true f l = let r = read_asked p w read object e in absurd (grind (arith, nat_tests, l, r, same))
        go false f l = refl

    goes : (q : Path) → path_by p w ≡ q → kept_at k q (path_after p x.0 x.1 q) ≡ path_after p x.0 x.1 q
    goes (At read object) e = by (read == k) (eqb_tells read k)
      where
        by : (t : Bool) → (t ≡ true) × (read ≡ k) ⊎ (t ≡ false) × (read ≡ k → ⊥) → (if t then At read object else path_after p x.0 x.1 (At read object)) ≡ path_after p x.0 x.1 (At read object)
        by true (inl h) = sym (still x.0 (there read object e h.1) (At read object))
        by true (inr h) = absurd (cc h.0)
        by false h = refl
    goes NoName e = refl
    goes Untold e = refl

-- up to so many names no more were asked
pub few_upto : (k : ℕ) (w : Work) → nat_le (names_asked (upto_names k w)) k ≡ true
few_upto k [] = grind (arith, nat_tests)
few_upto k (x ∷ w) = go (few_upto k w) (nat_le k (names_asked w)) refl
  where
    one : (t : Bool) → nat_le k (names_asked w) ≡ false → nat_le (if t then names_asked w + 1 else names_asked w) k ≡ true
    one true e = grind (arith, nat_tests, e)
    one false e = grind (arith, nat_tests, e)

    go : nat_le (names_asked (upto_names k w)) k ≡ true → (t : Bool) → nat_le k (names_asked w) ≡ t → nat_le (names_asked (if t then upto_names k w else x ∷ w)) k ≡ true
    go rest true e = rest
    go rest false e = one (asks_name x.0) e

-- ---- every object on it was looked at on every brick
-- it ends at a name
ends_named : (k : ℕ) (w : Work) → nat_le k (names_asked w) ≡ true → since_name (upto_names k w) ≡ []
ends_named k [] e = refl
ends_named k (x ∷ w) e = go (λ f. ends_named k w f) (nat_le k (names_asked w)) refl
  where
    named : (t : Bool) → nat_le k (if t then names_asked w + 1 else names_asked w) ≡ true → nat_le k (names_asked w) ≡ false → (if t then [] else x ∷ since_name w) ≡ []
    named true f g = refl
    named false f g = absurd (cc (f, g))

    go : (nat_le k (names_asked w) ≡ true → since_name (upto_names k w) ≡ []) → (t : Bool) → nat_le k (names_asked w) ≡ t → since_name (if t then upto_names k w else x ∷ w) ≡ []
    go rest true f = rest f
    go rest false f = named (asks_name x.0) e f

-- a line that locks nothing keeps those that were looked at
looking_keeps : (g : Gfid) (line : Line) (s : List ℕ) (b : ℕ) → locks_any line ≡ false → member s b ≡ true → member (looking g line s) b ≡ true
looking_keeps g (Ask a c (request.Look h) told took) s b free m = go (h.0 == g.0)
  where
    go : (t : Bool) → member (if t then added_if true c.0 s else s) b ≡ true
    go true = member_added c.0 s b ∙ or_right (c.0 == b) (member s b) m
    go false = m
looking_keeps g (Ask a c (request.Lock WorkDomain area) told took) s b free m = absurd (cc free)
looking_keeps g line s b free m = m

-- who is looked at after some lines is so after more of them
looking_more : (g : Gfid) (line : Line) (s u : List ℕ) (b : ℕ) → locks_any line ≡ false → (member s b ≡ true → member u b ≡ true) → member (looking g line s) b ≡ true → member (looking g line u) b ≡ true
looking_more g (Ask a c (request.Look h) told took) s u b free more m = go (h.0 == g.0) m
  where
    go : (t : Bool) → member (if t then added_if true c.0 s else s) b ≡ true → member (if t then added_if true c.0 u else u) b ≡ true
    go true m = member_added c.0 u b ∙ or_more (c.0 == b) (member s b) (member u b) more (sym (member_added c.0 s b) ∙ m)
    go false m = more m
looking_more g (Ask a c (request.Lock WorkDomain area) told took) s u b free more m = absurd (cc free)
looking_more g line s u b free more m = more m

-- those that were looked at since a name were looked at
looking_since : (g : Gfid) (w : Work) (b : ℕ) → has locks_any w ≡ false → member (among (looking g) (since_name w)) b ≡ true → member (among (looking g) w) b ≡ true
looking_since g [] b free m = m
looking_since g (x ∷ w) b free m =
    let both = or_parts (locks_any x.0) (has locks_any w) free in
    go (looking_more g x.0 (among (looking g) (since_name w)) (among (looking g) w) b both.0 (looking_since g w b both.1)) (asks_name x.0) m
  where
    none : member [] b ≡ true → ⊥
    none e = cc e

    go : (member (looking g x.0 (among (looking g) (since_name w))) b ≡ true → member (looking g x.0 (among (looking g) w)) b ≡ true) → (t : Bool) → member (among (looking g) (if t then [] else x ∷ since_name w)) b ≡ true
        → member (looking g x.0 (among (looking g) w)) b ≡ true
    go more true m = absurd (none m)
    go more false m = more m

-- ---- the looks of its legs
locks_some : (g : Gfid) (line : Line) → locks_any line ≡ false → locks g line ≡ false
locks_some g (Ask a b (request.Lock WorkDomain area) told took) e = absurd (cc e)
locks_some g line e = refl

unlocked_since : (g : Gfid) (w : Work) → has locks_any w ≡ false → has (locks g) (since_name w) ≡ false
unlocked_since g [] e = refl
unlocked_since g (x ∷ w) e = let both = or_parts (locks_any x.0) (has locks_any w) e in go both.0 (unlocked_since g w both.1) (asks_name x.0)
  where
    go : locks_any x.0 ≡ false → has (locks g) (since_name w) ≡ false → (t : Bool) → has (locks g) (if t then [] else x ∷ since_name w) ≡ false
    go now before true = refl
    go now before false = or_from (locks g x.0) (has (locks g) (since_name w)) (locks_some g x.0 now) before

-- an object that was looked at before the last name was looked at on every brick
pub legs_look : (n : ℕ) (w : Work) → AreLegs n w → has locks_any w ≡ false → (g : Gfid) (b : ℕ) → b < n → has (looks_at g) w ≡ true → (has (looks_at g) (since_name w) ≡ true) ⊎ (member (among (looking g) w) b ≡ true)
legs_look n [] legs free g b l e = absurd (cc e)
legs_look n (x ∷ w) legs free g b l e = go (λ f. legs_look n w legs.1 (or_parts (locks_any x.0) (has locks_any w) free).1 g b l f) (asks_name x.0) refl legs.0
  where
    both : (locks_any x.0 ≡ false) × (has locks_any w ≡ false)
    both = or_parts (locks_any x.0) (has locks_any w) free

    keeps : member (among (looking g) w) b ≡ true → member (looking g x.0 (among (looking g) w)) b ≡ true
    keeps m = looking_keeps g x.0 (among (looking g) w) b both.0 m

    named : (line : Line) → asks_name line ≡ true → looks_at g line ≡ false
    named (Ask a c (request.ReadName h name) told took) f = refl
    named line f = absurd (cc f)

    before : IsLooked n (since_name w) → (has (looks_at g) (since_name w) ≡ true) ⊎ (member (among (looking g) w) b ≡ true) → (has (looks_at g) [] ≡ true) ⊎ (member (looking g x.0 (among (looking g) w)) b ≡ true)
    before leg (inl h) = inr (keeps (looking_since g w b both.1 (leg g h (unlocked_since g w both.1) b l)))
    before leg (inr h) = inr (keeps h)

    since : (has (looks_at g) (since_name w) ≡ true) ⊎ (member (among (looking g) w) b ≡ true) → (has (looks_at g) (x ∷ since_name w) ≡ true) ⊎ (member (looking g x.0 (among (looking g) w)) b ≡ true)
    since (inl h) = inl (or_right (looks_at g x.0) (has (looks_at g) (since_name w)) h)
    since (inr h) = inr (keeps h)

    now : (has (looks_at g) w ≡ true → (has (looks_at g) (since_name w) ≡ true) ⊎ (member (among (looking g) w) b ≡ true)) → (t : Bool) → looks_at g x.0 ≡ t → (t || has (looks_at g) w) ≡ true
        → (has (looks_at g) (x ∷ since_name w) ≡ true) ⊎ (member (looking g x.0 (among (looking g) w)) b ≡ true)
    now rest true h m = inl (or_left (looks_at g x.0) (has (looks_at g) (since_name w)) h)
    now rest false h m = since (rest m)

    go : (has (looks_at g) w ≡ true → (has (looks_at g) (since_name w) ≡ true) ⊎ (member (among (looking g) w) b ≡ true)) → (t : Bool) → asks_name x.0 ≡ t → LegEnds t n w
        → (has (looks_at g) (if t then [] else x ∷ since_name w) ≡ true) ⊎ (member (looking g x.0 (among (looking g) w)) b ≡ true)
    go rest true f leg = before leg (rest (or_second (looks_at g x.0) (has (looks_at g) w) (named x.0 f) e))
    go rest false f leg = now rest (looks_at g x.0) refl e

-- so it is of the walk to the directory
pub all_before : (n k : ℕ) (w : Work) → AreLegs n (upto_names k w) → has locks_any (upto_names k w) ≡ false → nat_le k (names_asked w) ≡ true → LookedAll n (upto_names k w)
all_before n k w legs free all g seen b l = go (legs_look n (upto_names k w) legs free g b l seen)
  where
    ended : has (looks_at g) (since_name (upto_names k w)) ≡ true → ⊥
    ended h = let e = ends_named k w all in absurd (none (subst (λ (s : Work). has (looks_at g) s ≡ true) e h))
      where
        none : has (looks_at g) [] ≡ true → ⊥
        none f = cc f

    go : (has (looks_at g) (since_name (upto_names k w)) ≡ true) ⊎ (member (among (looking g) (upto_names k w)) b ≡ true) → member (among (looking g) (upto_names k w)) b ≡ true
    go (inl h) = absurd (ended h)
    go (inr h) = h

-- ---- what was read on it
-- a read shows something
some_read : (asked : Request) (g : Gfid) (told : Told) (t : Table) → reading_told asked g told t ≡ NotAsked → ⊥
some_read asked g as_told.Given t e = go (copy_at g t) e
  where
    go : (o : Option Object) → given_by asked o ≡ NotAsked → ⊥
    go None f = cc f
    go (Some o) f = cc f
some_read asked g told t e = cc e

-- nothing was read before, where nothing was read
given_some : (q : Reading) (line : Line) (older : List Line) (p : Plan) → reading_after p line older q ≡ NotAsked → q ≡ NotAsked
given_some q (Ask a b (request.ReadBytes g at len) told took) older p e = absurd (some_read (request.ReadBytes g at len) g told (holds p older b.0) e)
given_some q (Ask a b (request.List g) told took) older p e = absurd (some_read (request.List g) g told (holds p older b.0) e)
given_some q (Ask a b (request.ReadAttr g key) told took) older p e = absurd (some_read (request.ReadAttr g key) g told (holds p older b.0) e)
given_some q line older p e = e

pub unread_before : (p : Plan) (x : Line × List Line) (w : Work) → reading_by p (x ∷ w) ≡ NotAsked → reading_by p w ≡ NotAsked
unread_before p x w e = given_some (reading_by p w) x.0 x.1 p e

-- nothing was refused before, where nothing was
pub none_before : (test : Line → Bool) (x : Line × List Line) (w : Work) → has test (x ∷ w) ≡ false → has test w ≡ false
none_before test x w e = (or_parts (test x.0) (has test w) e).1

pub only_before : (n : ℕ) (x : Line × List Line) (w : Work) → OnlyReads n (x ∷ w) → OnlyReads n w
only_before n x w e = e.1

pub legs_before : (n : ℕ) (x : Line × List Line) (w : Work) → AreLegs n (x ∷ w) → AreLegs n w
legs_before n x w e = e.1

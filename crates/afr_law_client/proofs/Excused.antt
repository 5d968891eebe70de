-- Who was asked and didn't do it missed something.
use Rattle.std.proofs.Common.{◌≡◌, ◌≢◌, ℕ, ◌<◌, ◌==◌, ◌&&◌, ◌||◌, Bool, true, false, not, List, [], ◌∷◌, Some, None, length, refl, sym, ◌∙◌, arith, subst, if◌then◌else◌, ◌⊎◌, inl, inr}
use Rattle.std.proofs.lemmas.Bool.Decides.{eqb_tells}
use Rattle.std.proofs.Math.Bool.{or-true}
use Rattle.afr_base.specs.Bricks.{added, added_if, removed, member}
use Rattle.afr_base.specs.SetLemmas.{member_added, member_added_if, member_removed}
use Rattle.afr_base.specs.declared.ids.ActorId.{ActorId}
use Rattle.afr_base.specs.declared.ids.BrickId.{BrickId}
use Rattle.afr_base.specs.declared.ids.Gfid.{Gfid}
use Rattle.afr_object.specs.declared.change.Change.{Change}
use Rattle.afr_choice.specs.Looks.{no_looks}
use Rattle.afr_choice.specs.LooksLemmas.{holder_after_look, holder_after_other_look, holder_after_loss, holder_after_other_loss, length_after_look, length_after_loss}
use Rattle.afr_choice.specs.Verdict.{is_holder}
use Rattle.afr_choice.specs.declared.looked.Looked.{Looked}
use Rattle.afr_lines.specs.Areas.{object_of_area}
use Rattle.afr_lines.specs.Overlap.{same_area}
use Rattle.afr_lines.specs.Work.{Work}
use Rattle.afr_lines.specs.declared.answer.Told.{Told}
use Rattle.afr_lines.specs.declared.answer.Told.TheVariants as as_told
use Rattle.afr_lines.specs.declared.line.Line.{Line}
use Rattle.afr_lines.specs.declared.line.Line.TheVariants.{Ask, Begin}
use Rattle.afr_lines.specs.declared.request.Area.{Area}
use Rattle.afr_lines.specs.declared.request.Request.{Request}
use Rattle.afr_lines.specs.declared.request.Request.TheVariants as request
use Rattle.afr_lines.specs.declared.lock.Domain.TheVariants.{Work as WorkDomain}
use Rattle.afr_model.specs.Blamed.{misses, missing}
use Rattle.afr_model.specs.Showing.{among, has, is_done, is_fault, is_granted, is_held, locks, look_shows, looked_after, looked_by, looking, preparing, prepared, applying, applied_at}
use Rattle.afr_model.specs.Standing.{since, locks_any, asking, getting, marked}
use Rattle.afr_law_client.specs.Fits.{AreExcused, ComesLocked, Excuses, Fits, FitsPhase, is_miss, is_seen, missed_by}
use Rattle.afr_law_client.specs.Laws.{ExcusedFirst}
use Rattle.afr_law_client.proofs.First.{none_asked}
use Rattle.afr_law_client.proofs.Small.{self}

-- ---- the lines since the first lock
-- where no line passes, none comes since
since_none : (test : Line → Bool) (w : Work) → has test w ≡ false → since test w ≡ []
since_none test [] none = refl
since_none test (x ∷ w) none = go (test x.0) refl (has test w) refl none
  where
    go : (here : Bool) → test x.0 ≡ here → (before : Bool) → has test w ≡ before → (here || before) ≡ false → since test (x ∷ w) ≡ []
    go true e before f none = absurd (cc none)
    go false e true f none = absurd (cc none)
    go false e false f none = rw (e, f) refl

-- each line joins those that missed something, or leaves them
missing_grows : (g : Gfid) (line : Line) (s : List ℕ) (c : ℕ) → member s c ≡ true → member (missing g line s) c ≡ true
missing_grows g (Ask a b r told took) s c m = member_added_if (misses g r told) b.0 s c ∙ rw m (or-true (misses g r told && (b.0 == c)))
missing_grows g line s c m = m

-- a fault is missed whatever it was asked for, and that the object isn't there where it was looked at
pub fault_misses : (g : Gfid) (r : Request) (told : Told) → is_fault told ≡ true → misses g r told ≡ true
fault_misses g (request.Look h) as_told.NoObject e = absurd (cc e)
fault_misses g (request.Look h) told e = e
fault_misses g r told e = e

look_misses : (g h : Gfid) (told : Told) → (h.0 == g.0) ≡ true → is_miss told ≡ true → misses g (request.Look h) told ≡ true
look_misses g h as_told.NoObject same e = same
look_misses g h told same e = e

-- the lines since the first lock, with one more
abbrev since_next : Line → List Line → Work → Bool → Work
since_next line older lines before = if before then (line, older) ∷ since locks_any lines else (if locks_any line then (line, older) ∷ [] else [])

-- whoever missed something before has missed it now
pub missed_grows : (g : Gfid) (line : Line) (older : List Line) (lines : Work) (c : ℕ) → member (missed_by g lines) c ≡ true → member (missed_by g ((line, older) ∷ lines)) c ≡ true
missed_grows g line older lines c m = go (has locks_any lines) refl
  where
    go : (before : Bool) → has locks_any lines ≡ before → member (among (missing g) (since_next line older lines before)) c ≡ true
    go true e = missing_grows g line (missed_by g lines) c m
    go false e = absurd (cc (subst (λ (w : Work). member (among (missing g) w) c ≡ true) (since_none locks_any lines e) m))

-- a brick that misses what it is asked from the first lock on has missed something
pub missed_now : (g : Gfid) (a : ActorId) (b : BrickId) (r : Request) (told : Told) (took : Bool) (older : List Line) (lines : Work) → (has locks_any lines ≡ false → locks_any (Ask a b r told took) ≡ true) → misses g r told ≡ true
    → member (missed_by g ((Ask a b r told took, older) ∷ lines)) b.0 ≡ true
missed_now g a b r told took older lines locked miss = go (has locks_any lines) refl
  where
    joins : (s : List ℕ) → member (missing g (Ask a b r told took) s) b.0 ≡ true
    joins s = member_added_if (misses g r told) b.0 s b.0 ∙ rw (miss, self b.0) refl

    go : (before : Bool) → has locks_any lines ≡ before → member (among (missing g) (since_next (Ask a b r told took) older lines before)) b.0 ≡ true
    go true e = joins (missed_by g lines)
    go false e = rw (locked e) (joins [])

-- a lock on an object is one
pub any_lock : (g : Gfid) (w : Work) → has (locks g) w ≡ true → has locks_any w ≡ true
any_lock g [] h = absurd (cc h)
any_lock g (x ∷ w) h = go x.0 refl h (any_lock g w)
  where
    go : (line : Line) → x.0 ≡ line → (locks g line || has (locks g) w) ≡ true → (has (locks g) w ≡ true → has locks_any w ≡ true) → (locks_any x.0 || has locks_any w) ≡ true
    go (Ask a b (request.Lock WorkDomain area) told took) e h rest = rw e refl
    go line e h rest = rw e (rest h)

-- ---- one more line
-- whoever missed something before has missed it now
abbrev pub Grows : List ℕ → List ℕ → Type 0
Grows was now = (b : ℕ) → member was b ≡ true → member now b ≡ true

-- a set of those that were asked, one of those that did it, and one brick more
one_excused : (b : ℕ) (asked did was now : List ℕ) (ok : Bool) → Grows was now → (ok ≡ false → member now b ≡ true) → Excuses was asked did → Excuses now (added b asked) (added_if ok b did)
one_excused b asked did was now ok grows new k c m n = go ok refl (eqb_tells b c) (sym (member_added b asked c) ∙ m) (sym (member_added_if ok b did c) ∙ n)
  where
    go : (f : Bool) → ok ≡ f → ((b == c) ≡ true) × (b ≡ c) ⊎ ((b == c) ≡ false) × (b ≢ c) → ((b == c) || member asked c) ≡ true → ((ok && (b == c)) || member did c) ≡ false → member now c ≡ true
    go true e (inl same) m n = absurd (cc (rw (e, same.0) at n))
    go false e (inl same) m n = subst (λ (x : ℕ). member now x ≡ true) same.1 (new e)
    go true e (inr other) m n = grows c (k c (rw other.0 at m) (rw (e, other.0) at n))
    go false e (inr other) m n = grows c (k c (rw other.0 at m) (rw e at n))

-- those that were asked for a lock of an area
lock_excused : (area : Area) (a : ActorId) (b : BrickId) (r : Request) (told : Told) (took : Bool) (asked got was now : List ℕ) → Fits r told → Grows was now
    → (locks_any (Ask a b r told took) ≡ true → is_fault told ≡ true → member now b.0 ≡ true) → Excuses was asked got
    → Excuses now (asking area (Ask a b r told took) asked) (getting area (Ask a b r told took) got)
lock_excused area a b (request.Lock WorkDomain other) told took asked got was now fits grows new k = go (same_area area other) (is_held told) refl (is_granted told) refl
  where
    go : (same held : Bool) → is_held told ≡ held → (granted : Bool) → is_granted told ≡ granted
        → Excuses now (if same then marked (not held) b.0 asked else asked) (if same && granted then added b.0 got else got)
    go false held e granted f = λ c m n. grows c (k c m n)
    go true false e granted f = one_excused b.0 asked got was now granted grows (λ no. new refl (fits (f ∙ no) e)) k
    go true true e granted f = λ c m n. grows c (k c (stays c m) (lacks granted c n))
      where
        stays : (c : ℕ) → member (removed b.0 asked) c ≡ true → member asked c ≡ true
        stays c m = within (not (b.0 == c)) (sym (member_removed b.0 asked c) ∙ m)
          where
            within : (f : Bool) → (f && member asked c) ≡ true → member asked c ≡ true
            within true h = h
            within false h = absurd (cc h)

        lacks : (granted : Bool) (c : ℕ) → member (added_if granted b.0 got) c ≡ false → member got c ≡ false
        lacks granted c n = outside (granted && (b.0 == c)) (sym (member_added_if granted b.0 got c) ∙ n)
          where
            outside : (f : Bool) → (f || member got c) ≡ false → member got c ≡ false
            outside true h = absurd (cc h)
            outside false h = h
lock_excused area a b r told took asked got was now fits grows new k = λ c m n. grows c (k c m n)

-- what a look shows of the brick, and of the others
look_shows_it : (b : ℕ) (told : Told) (looked : Looked) → b < length looked.views → is_holder (look_shows b told looked) b ≡ is_seen told
look_shows_it b (as_told.Seen view) looked small = holder_after_look b (Some view) looked small
look_shows_it b as_told.NoObject looked small = holder_after_look b None looked small
look_shows_it b told looked small = holder_after_loss b looked

look_shows_others : (b c : ℕ) (told : Told) (looked : Looked) → c ≢ b → is_holder (look_shows b told looked) c ≡ is_holder looked c
look_shows_others b c (as_told.Seen view) looked other = holder_after_other_look b c (Some view) looked other
look_shows_others b c as_told.NoObject looked other = holder_after_other_look b c None looked other
look_shows_others b c told looked other = holder_after_other_loss b c looked other

look_shows_five : (b : ℕ) (told : Told) (looked : Looked) → length (look_shows b told looked).views ≡ length looked.views
look_shows_five b (as_told.Seen view) looked = length_after_look b (Some view) looked
look_shows_five b as_told.NoObject looked = length_after_look b None looked
look_shows_five b told looked = length_after_loss b looked

-- there are five places for views
five_views : (g : Gfid) (w : Work) → length (looked_by g w).views ≡ 5
five_views g [] = refl
five_views g (x ∷ w) = go x.0 (looked_by g w) (five_views g w)
  where
    go : (line : Line) (looked : Looked) → length looked.views ≡ 5 → length (looked_after g line looked).views ≡ 5
    go (Ask a b (request.Look h) told took) looked five = by (h.0 == g.0)
      where
        by : (same : Bool) → length (if same then look_shows b.0 told looked else looked).views ≡ 5
        by true = look_shows_five b.0 told looked ∙ five
        by false = five
    go (Ask a b (request.Lock WorkDomain area) told took) looked five = by ((object_of_area area).0 == g.0)
      where
        by : (same : Bool) → length (if same then no_looks else looked).views ≡ 5
        by true = refl
        by false = five
    go line looked five = five

-- what was looked at since a lock, and showed nothing, missed something
abbrev pub Shows : List ℕ → List ℕ → Looked → Type 0
Shows missed asked looked = (b : ℕ) → member asked b ≡ true → is_holder looked b ≡ false → member missed b ≡ true

-- those that were looked at
look_excused : (g : Gfid) (a : ActorId) (b : BrickId) (r : Request) (told : Told) (took : Bool) (asked : List ℕ) (looked : Looked) (was now : List ℕ) (locked : Bool) → Fits r told → Grows was now
    → b.0 < length looked.views → (locked ≡ true → misses g r told ≡ true → member now b.0 ≡ true) → (locked ≡ true → Shows was asked looked) → (locks g (Ask a b r told took) || locked) ≡ true
    → Shows now (looking g (Ask a b r told took) asked) (looked_after g (Ask a b r told took) looked)
look_excused g a b (request.Look h) told took asked looked was now locked fits grows small new k is = go (h.0 == g.0) refl
  where
    go : (same : Bool) → (h.0 == g.0) ≡ same → Shows now (if same then added_if true b.0 asked else asked) (if same then look_shows b.0 told looked else looked)
    go false it = λ c m n. grows c (k is c m n)
    go true it = λ c m n. by c (eqb_tells b.0 c) (sym (member_added b.0 asked c) ∙ m) n
      where
        by : (c : ℕ) → ((b.0 == c) ≡ true) × (b.0 ≡ c) ⊎ ((b.0 == c) ≡ false) × (b.0 ≢ c) → ((b.0 == c) || member asked c) ≡ true → is_holder (look_shows b.0 told looked) c ≡ false → member now c ≡ true
        by c (inl same) m n =
            subst (λ (x : ℕ). member now x ≡ true) same.1
            (new is (look_misses g h told it (fits (sym (look_shows_it b.0 told looked small) ∙ subst (λ (x : ℕ). is_holder (look_shows b.0 told looked) x ≡ false) (sym same.1) n))))
        by c (inr other) m n = let apart = other.1 in grows c (k is c (rw other.0 at m) (sym (look_shows_others b.0 c told looked (λ e. apart (sym e))) ∙ n))
look_excused g a b (request.Lock WorkDomain area) told took asked looked was now locked fits grows small new k is = go ((object_of_area area).0 == g.0) is
  where
    go : (same : Bool) → (same || locked) ≡ true → Shows now (if same then [] else asked) (if same then no_looks else looked)
    go true is = λ c m n. absurd (cc m)
    go false is = λ c m n. grows c (k is c m n)
look_excused g a b r told took asked looked was now locked fits grows small new k is = λ c m n. grows c (k is c m n)

pre_excused : (a : ActorId) (b : BrickId) (r : Request) (told : Told) (took : Bool) (asked did was now : List ℕ) (lines : Work) → FitsPhase r told → Grows was now → ComesLocked r lines
    → (has locks_any lines ≡ true → is_fault told ≡ true → member now b.0 ≡ true) → Excuses was asked did → Excuses now (preparing (Ask a b r told took) asked) (prepared (Ask a b r told took) did)
pre_excused a b (request.Pre g kind) told took asked did was now lines fits grows locked new k = one_excused b.0 asked did was now (is_done told) grows (λ no. new locked (fits no)) k
pre_excused a b r told took asked did was now lines fits grows locked new k = λ c m n. grows c (k c m n)

-- those that were asked for the operation
apply_excused : (a : ActorId) (b : BrickId) (r : Request) (told : Told) (took : Bool) (asked did was now : List ℕ) (lines : Work) → FitsPhase r told → Grows was now → ComesLocked r lines
    → (has locks_any lines ≡ true → is_fault told ≡ true → member now b.0 ≡ true) → Excuses was asked did → Excuses now (applying (Ask a b r told took) asked) (applied_at (Ask a b r told took) did)
apply_excused a b (request.Apply attempt) told took asked did was now lines fits grows locked new k = one_excused b.0 asked did was now (is_done told) grows (λ no. new locked (fits no)) k
apply_excused a b r told took asked did was now lines fits grows locked new k = λ c m n. grows c (k c m n)

-- a request and its answer
pub ask_excused : (a : ActorId) (b : BrickId) (r : Request) (told : Told) (took : Bool) (older : List Line) (lines : Work) → Fits r told → FitsPhase r told → ComesLocked r lines → b.0 < 5 → AreExcused lines
    → AreExcused ((Ask a b r told took, older) ∷ lines)
ask_excused a b r told took older lines fits phase locked small k = record {
  locked = λ g area. lock_excused area a b r told took (among (asking area) lines) (among (getting area) lines) (missed_by g lines) (now g) fits (grows g)
      (λ locks fault. missed_now g a b r told took older lines (λ none. locks) (fault_misses g r told fault)) (k.locked g area);
  looked = λ g. look_excused g a b r told took (among (looking g) lines) (looked_by g lines) (missed_by g lines) (now g) (has (locks g) lines) fits (grows g)
      (omega (arith, small, five_views g lines)) (λ is. after g (any_lock g lines is)) (k.looked g);
  pre = λ g. pre_excused a b r told took (among preparing lines) (among prepared lines) (missed_by g lines) (now g) lines phase (grows g) locked (fails g) (k.pre g);
  apply = λ g. apply_excused a b r told took (among applying lines) (among applied_at lines) (missed_by g lines) (now g) lines phase (grows g) locked (fails g) (k.apply g);
}
  where
    now : Gfid → List ℕ
    now g = missed_by g ((Ask a b r told took, older) ∷ lines)

    grows : (g : Gfid) → Grows (missed_by g lines) (now g)
    grows g c m = missed_grows g (Ask a b r told took) older lines c m

    after : (g : Gfid) → has locks_any lines ≡ true → misses g r told ≡ true → member (now g) b.0 ≡ true
    after g is = missed_now g a b r told took older lines (λ none. absurd (cc (is, none)))

    fails : (g : Gfid) → has locks_any lines ≡ true → is_fault told ≡ true → member (now g) b.0 ≡ true
    fails g is fault = after g is (fault_misses g r told fault)

-- a Begin line
pub begin_excused : (a : ActorId) (c : Change) (older : List Line) (lines : Work) → AreExcused lines → AreExcused ((Begin a c, older) ∷ lines)
begin_excused a c older lines k = record {
  locked = λ g area b m n. missed_grows g (Begin a c) older lines b (k.locked g area b m n);
  looked = λ g is b m n. missed_grows g (Begin a c) older lines b (k.looked g is b m n);
  pre = λ g b m n. absurd (cc m);
  apply = λ g b m n. absurd (cc m);
}

-- before the first lock nobody was asked for anything
pub excused_first : ExcusedFirst
excused_first w none idle = record {
  locked = λ g area b m n. nobody b (among (asking area) w) (none_asked area w none) m;
  looked = λ g is. let any = any_lock g w is in absurd (cc (any, none));
  pre = λ g b m n. nobody b (among preparing w) idle.no_pre m;
  apply = λ g b m n. nobody b (among applying w) idle.no_apply m;
}
  where
    nobody : {A : Type 0} → (b : ℕ) (s : List ℕ) → s ≡ [] → member s b ≡ true → A
    nobody b s e m = absurd (cc (subst (λ (s : List ℕ). member s b ≡ true) e m))

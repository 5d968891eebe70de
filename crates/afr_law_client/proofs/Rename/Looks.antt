-- What was looked at before a part of a rename's work doesn't count in it.
use Rattle.std.proofs.Common.{◌≡◌, ℕ, ◌-◌, ◌<◌, ◌≤◌, ◌==◌, ◌||◌, nat_lt, Bool, true, false, List, [], ◌∷◌, ◌++◌, length, refl, sym, ap, ◌∙◌, arith, subst, if◌then◌else◌, inl, inr}
use Rattle.std.proofs.lemmas.Bool.Decides.{eqb_tells, nat_tests}
use Rattle.std.proofs.lemmas.List.{append-nil}
use Rattle.afr_base.specs.Bricks.{added, and_right, member}
use Rattle.afr_base.specs.Majority.{is_majority}
use Rattle.afr_base.specs.SetLemmas.{majority_some, member_added}
use Rattle.afr_base.specs.declared.ids.Gfid.{Gfid}
use Rattle.afr_base.specs.declared.ids.NameId.{NameId}
use Rattle.afr_base.proofs.TestLemmas.{or_second}
use Rattle.afr_choice.specs.Looks.{no_looks, view_at}
use Rattle.afr_choice.specs.declared.looked.Looked.{Looked}
use Rattle.afr_lines.specs.Work.{Work}
use Rattle.afr_lines.specs.declared.line.Line.{Line}
use Rattle.afr_lines.specs.declared.line.Line.TheVariants.{Ask}
use Rattle.afr_lines.specs.declared.request.Request.TheVariants.{Look, Lock, ReadAttr, ReadBytes, ReadName, List as ListNames}
use Rattle.afr_lines.specs.declared.lock.Domain.TheVariants.{Work as WorkDomain}
use Rattle.afr_discipline.specs.Free.{is_free}
use Rattle.afr_client_walk.specs.Looks.{noted_look}
use Rattle.afr_model.specs.Parts.{after_names, first_part, second_part, the_make, the_removal, the_walk, upto_names}
use Rattle.afr_model.specs.Showing.{among, has, look_shows, locks, looked_after, looked_by, looking, looks_at}
use Rattle.afr_model.specs.Standing.{locks_any}
use Rattle.afr_law_client.specs.Read.Lines.{LookedAll, OnlyReads, reads}
use Rattle.afr_law_client.proofs.Read.LooksMore.{look_shows_is, same_here, same_there}
use Rattle.afr_law_client.proofs.Read.LooksSame.{looked_same}
use Rattle.afr_law_client.proofs.Read.Quiet.{plain_by}
use Rattle.afr_model.proofs.Cut.Anew.{has_first, same_looks}
use Rattle.afr_model.proofs.Cut.Cut.{earlier_none, first_all, names_whole, parts_whole}

-- ---- lines one after the other
pub only_both : (n : ℕ) (s u : Work) → OnlyReads n s → OnlyReads n u → OnlyReads n (s ++ u)
only_both n [] u f g = g
only_both n (x ∷ s) u f g = (f.0, only_both n s u f.1 g)

-- what one test doesn't pass, a narrower one doesn't
pub has_narrower : (test wider : Line → Bool) → ((line : Line) → test line ≡ true → wider line ≡ true) → (w : Work) → has wider w ≡ false → has test w ≡ false
has_narrower test wider passes [] none = refl
has_narrower test wider passes (x ∷ w) none = by (test x.0) refl (wider x.0) refl (has_narrower test wider passes w) none
  where
    by : (t : Bool) → test x.0 ≡ t → (v : Bool) → wider x.0 ≡ v → (has wider w ≡ false → has test w ≡ false) → (v || has wider w) ≡ false → (t || has test w) ≡ false
    by t e true f rest h = absurd (cc h)
    by true e false f rest h = let passed = passes x.0 e in absurd (cc (passed, f))
    by false e false f rest h = rest h

any_lock : (g : Gfid) (line : Line) → locks g line ≡ true → locks_any line ≡ true
any_lock g (Ask a b (Lock WorkDomain area) told took) e = refl
any_lock g line e = absurd (cc e)

-- ---- older looks
-- brick b shows the same in both
abbrev SameAt : ℕ → Looked → Looked → Type 0
SameAt b x y = (member x.reached b ≡ member y.reached b) × (view_at b x ≡ view_at b y)

-- a brick that was looked at after both shows the same
same_line : (n : ℕ) (g : Gfid) (line : Line) (x y : Looked) (asked : List ℕ) (b : ℕ) → reads n line ≡ true → b < 5 → length x.views ≡ 5 → length y.views ≡ 5
    → (member asked b ≡ true → SameAt b x y) → member (looking g line asked) b ≡ true → SameAt b (looked_after g line x) (looked_after g line y)
same_line n g (Ask a c (Look h) told took) x y asked b free low fx fy before now = go (h.0 == g.0) now
  where
    other : (c.0 == b) ≡ false → (member asked b ≡ true → SameAt b x y) → member (added c.0 asked) b ≡ true → SameAt b (noted_look c.0 told x) (noted_look c.0 told y)
    other e before m =
        let apart : c.0 ≡ b → ⊥ = λ f. (let same : (c.0 == b) ≡ true = grind (arith, nat_tests, f) in cc (same, e)) in
        let mine = same_there c.0 b told x apart in
        let theirs = same_there c.0 b told y apart in
        let was = before (or_second (c.0 == b) (member asked b) e (sym (member_added c.0 asked b) ∙ m)) in
        (mine.0 ∙ was.0 ∙ sym theirs.0, mine.1 ∙ was.1 ∙ sym theirs.1)

    noted : member (added c.0 asked) b ≡ true → SameAt b (noted_look c.0 told x) (noted_look c.0 told y)
    noted m = elim (eqb_tells c.0 b) [
      | inl e ↦ (let here = same_here b told x y low fx fy in subst (λ (z : ℕ). SameAt b (noted_look z told x) (noted_look z told y)) (sym e.1) here)
      | inr e ↦ other e.0 before m
    ]

    go : (hit : Bool) → member (if hit then added c.0 asked else asked) b ≡ true → SameAt b (if hit then look_shows c.0 told x else x) (if hit then look_shows c.0 told y else y)
    go true m = subst (λ (z : Looked). SameAt b z (look_shows c.0 told y)) (sym (look_shows_is c.0 told x)) (subst (λ (z : Looked). SameAt b (noted_look c.0 told x) z) (sym (look_shows_is c.0 told y)) (noted m))
    go false m = before m
same_line n g (Ask a c (ReadName h name) told took) x y asked b free low fx fy before now = before now
same_line n g (Ask a c (ReadBytes h at len) told took) x y asked b free low fx fy before now = before now
same_line n g (Ask a c (ReadAttr h key) told took) x y asked b free low fx fy before now = before now
same_line n g (Ask a c (ListNames h) told took) x y asked b free low fx fy before now = before now
same_line n g (Ask a c request told took) x y asked b free low fx fy before now = absurd (cc (and_right (nat_lt c.0 n) (is_free request) free))
same_line n g line x y asked b free low fx fy before now = absurd (cc free)

module _ (n : ℕ) (g : Gfid) (u : Work) (few : n ≤ 5) (older : OnlyReads n u) where
  same_at : (s : Work) → OnlyReads n s → (b : ℕ) → b < 5 → member (among (looking g) s) b ≡ true → SameAt b (looked_by g (s ++ u)) (looked_by g s)
  same_at [] only b low m = absurd (cc m)
  same_at (x ∷ s) only b low m =
      same_line n g x.0 (looked_by g (s ++ u)) (looked_by g s) (among (looking g) s) b only.0 low (plain_by n g (s ++ u) few (only_both n s u only.1 older)).five (plain_by n g s few only.1).five
      (λ before. same_at s only.1 b low before) m

-- after a look at each brick older looks don't count
pub older_looks_dont_count : (n : ℕ) (g : Gfid) (s u : Work) → n ≤ 5 → OnlyReads n s → OnlyReads n u → ((b : ℕ) → b < n → member (among (looking g) s) b ≡ true) → looked_by g (s ++ u) ≡ looked_by g s
older_looks_dont_count n g s u few only older all =
    looked_same n (looked_by g (s ++ u)) (looked_by g s) (plain_by n g (s ++ u) few (only_both n s u only older)) (plain_by n g s few only)
    (λ b low. same_at n g u few older s only b (omega (arith, low, few)) (all b low))

-- what wasn't looked at showed nothing
unlooked_line : (n : ℕ) (g : Gfid) (line : Line) (looked : Looked) → reads n line ≡ true → looks_at g line ≡ false → looked_after g line looked ≡ looked
unlooked_line n g (Ask a b (Look h) told took) looked free none = rw none refl
unlooked_line n g (Ask a b (ReadName h name) told took) looked free none = refl
unlooked_line n g (Ask a b (ReadBytes h at len) told took) looked free none = refl
unlooked_line n g (Ask a b (ReadAttr h key) told took) looked free none = refl
unlooked_line n g (Ask a b (ListNames h) told took) looked free none = refl
unlooked_line n g (Ask a b request told took) looked free none = absurd (cc (and_right (nat_lt b.0 n) (is_free request) free))
unlooked_line n g line looked free none = absurd (cc free)

unlooked : (n : ℕ) (g : Gfid) (w : Work) → OnlyReads n w → has (looks_at g) w ≡ false → looked_by g w ≡ no_looks
unlooked n g [] only none = refl
unlooked n g (x ∷ w) only none = by (looks_at g x.0) refl (unlooked n g w only.1) none
  where
    by : (now : Bool) → looks_at g x.0 ≡ now → (has (looks_at g) w ≡ false → looked_by g w ≡ no_looks) → (now || has (looks_at g) w) ≡ false → looked_after g x.0 (looked_by g w) ≡ no_looks
    by true e rest h = absurd (cc h)
    by false e rest h = unlooked_line n g x.0 (looked_by g w) only.0 e ∙ rest h

-- where a majority answered, it was looked at
answered_looks : (n : ℕ) (g : Gfid) (w : Work) → OnlyReads n w → is_majority n (looked_by g w).reached ≡ true → has (looks_at g) w ≡ true
answered_looks n g w only most = by (has (looks_at g) w) refl
  where
    by : (some : Bool) → has (looks_at g) w ≡ some → some ≡ true
    by true e = refl
    by false e =
        let nobody : is_majority n [] ≡ true = subst (λ (looked : Looked). is_majority n looked.reached ≡ true) (unlooked n g w only e) most in
        absurd (cc (majority_some n [] nobody))

-- ---- of a rename
-- before the second transaction the making's lines and the walk's are all
pub make_and_walk : (from : List NameId) (lines : Work) → second_part lines ≡ [] → the_make from lines ++ the_walk from lines ≡ lines
make_and_walk from lines none = ap (λ (w : Work). after_names (length from) w ++ upto_names (length from) lines) (first_all lines none) ∙ names_whole (length from) lines

-- while the second path is walked, its looks are those of the work
pub walk_looks : (n : ℕ) (from : List NameId) (lines : Work) (g : Gfid) → n ≤ 5 → second_part lines ≡ [] → OnlyReads n (the_walk from lines) → OnlyReads n (the_make from lines) → LookedAll n (the_make from lines)
    → is_majority n (looked_by g (the_make from lines)).reached ≡ true → looked_by g lines ≡ looked_by g (the_make from lines)
walk_looks n from lines g few none walked only all most =
    ap (looked_by g) (sym (make_and_walk from lines none))
    ∙ older_looks_dont_count n g (the_make from lines) (the_walk from lines) few only walked (all g (answered_looks n g (the_make from lines) only most))

-- a lock on the object makes the looks before it void
pub locked_alone : (g : Gfid) (s u : Work) → has (locks g) s ≡ true → looked_by g (s ++ u) ≡ looked_by g s
locked_alone g s u locked = same_looks g s u [] locked ∙ ap (looked_by g) (append-nil s)

-- so it is under the locks of the new name
pub make_looks : (from : List NameId) (lines : Work) (g : Gfid) → second_part lines ≡ [] → has (locks g) (the_make from lines) ≡ true → looked_by g lines ≡ looked_by g (the_make from lines)
make_looks from lines g none locked = ap (looked_by g) (sym (make_and_walk from lines none)) ∙ locked_alone g (the_make from lines) (the_walk from lines) locked

-- and under those of the old one
pub removal_looks : (from : List NameId) (lines : Work) (g : Gfid) → has locks_any (the_walk from lines) ≡ false → has (locks g) (the_removal from lines) ≡ true → looked_by g lines ≡ looked_by g (the_removal from lines)
removal_looks from lines g none locked =
    let unlocked : has (locks g) (upto_names (length from - 1) lines) ≡ false = has_narrower (locks g) locks_any (any_lock g) (upto_names (length from - 1) lines) (earlier_none locks_any (length from - 1) (length from) lines (omega arith) none) in
    ap (looked_by g) (sym (parts_whole lines))
    ∙ same_looks g (second_part lines) (first_part lines) (upto_names (length from - 1) lines) (has_first (locks g) (second_part lines) (upto_names (length from - 1) lines) unlocked locked)

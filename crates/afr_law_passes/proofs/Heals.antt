-- The heal that a round has of an object and kind with a number above 0 on its brick.
use Rattle.std.proofs.Common.{ap, arith, false, inl, inr, refl, subst, sym, true, true≢false, ℕ, zero, suc, ◌<◌, ◌∙◌, ◌≡◌, ◌≤◌, ◌⊎◌, ◌==◌, ◌++◌, Bool, List, [], ◌∷◌, Some, if◌then◌else◌}
use Rattle.std.specs.Prelude.{slice_get}
use Rattle.std.proofs.lemmas.Bool.{eqb-true, or_parts}
use Rattle.afr_base.specs.Marks.{is_no_marks, marks_of}
use Rattle.afr_base.specs.declared.ids.BrickId.{BrickId}
use Rattle.afr_base.specs.declared.ids.Gfid.{Gfid}
use Rattle.afr_base.specs.declared.ids.Kind.{Kind}
use Rattle.afr_base.specs.declared.ids.What.{What}
use Rattle.afr_object.specs.Indexed.{index_of}
use Rattle.afr_object.specs.Tables.{Table, copy_at}
use Rattle.afr_object.specs.Object.{Object}
use Rattle.afr_lines.specs.Work.{Work, ended, work}
use Rattle.afr_lines.specs.declared.line.Line.{Line}
use Rattle.afr_lines.specs.declared.line.Line.TheVariants.{Ask, Begin, End, Event, HealBegin, HealEnd}
use Rattle.afr_lines.specs.declared.reply.HealReply.{HealReply}
use Rattle.afr_plan.specs.declared.plan.Plan.{Plan}
use Rattle.afr_object.specs.TablesLemmas.{same_gfid}
use Rattle.afr_model.specs.Actors.{rounds_of}
use Rattle.afr_model.specs.Quiet.{IsQuiet, tells_any_fault}
use Rattle.afr_model.specs.Rounds.{KeepsToRound, heals_of, kind_within, listed_by}
use Rattle.afr_model.specs.Safe.{log_before}
use Rattle.afr_model.specs.Showing.{has}
use Rattle.afr_model.specs.Sums.{AreSums, dirty_of, pending_of}
use Rattle.afr_model.specs.Tables.{holds}
use Rattle.afr_law_quiet.specs.Undisturbed.{EachHeal, ended_heals, ends_one}
use Rattle.afr_law_quiet.proofs.Lists.Steps.{first_listed, later_listed}
use Rattle.afr_law_quiet.proofs.Lists.Index.{IsOpen, kind_open, open_not_zero}
use Rattle.afr_law_quiet.proofs.Lists.Premises.{Sound, sound_before}
use Rattle.afr_law_quiet.proofs.Lists.Runs.{AreMine, Run, before_works, ended_same, run, works, works_are}
use Rattle.afr_law_quiet.proofs.Lists.Tasks.{Round, round_of}
use Rattle.afr_law_passes.specs.Converged.{IsKindOf}

-- ---- members of lists
-- the value stands in the list
abbrev pub IsIn : {A : Type 0} → A → List A → Type 0
IsIn x xs = (i : ℕ) × (slice_get xs i ≡ Some x)

in_later : {A : Type 0} (x y : A) (xs : List A) → IsIn x xs → IsIn x (y ∷ xs)
in_later x y xs w = (suc w.0, w.1)

in_parts : {A : Type 0} (x : A) (xs ys : List A) → IsIn x (xs ++ ys) → IsIn x xs ⊎ IsIn x ys
in_parts x [] ys w = inr w
in_parts x (z ∷ xs) ys (zero, e) = inl (zero, e)
in_parts x (z ∷ xs) ys (suc i, e) = elim (in_parts x xs ys (i, e)) [ inl k ↦ inl (in_later x z xs k) | inr k ↦ inr k ]

in_one : {A : Type 0} (x y : A) → IsIn x (y ∷ []) → y ≡ x
in_one x y (zero, e) = cc e
in_one x y (suc i, e) = absurd (cc e)

-- ---- what the index says of an object
-- it lists a copy with a number above 0 as what it is
pub listed_as : (g : Gfid) (t : Table) (o : Object) → copy_at g t ≡ Some o → is_no_marks o.marks ≡ false → IsIn (g, o.what) (index_of t)
listed_as g [] o there some = absurd (cc there)
listed_as g (x ∷ t) o there some = go (listed_as g t o) (g.0 == x.0.0) refl (is_no_marks x.1.marks) refl
  where
    later : (g.0 == x.0.0) ≡ false → copy_at g t ≡ Some o
    later e = (let k : copy_at g (x ∷ t) ≡ Some o = there in rw (same_gfid g x.0, e) at k)

    here : (g.0 == x.0.0) ≡ true → (x.0 ≡ g) × (x.1 ≡ o)
    here e = (ap (λ (n : ℕ). record { 0 = n }) (sym (eqb-true g.0 x.0.0 e)), (let k : copy_at g (x ∷ t) ≡ Some o = there in let l : Some x.1 ≡ Some o = rw (same_gfid g x.0, e) at k in cc))

    go : (copy_at g t ≡ Some o → is_no_marks o.marks ≡ false → IsIn (g, o.what) (index_of t)) → (same : Bool) → (g.0 == x.0.0) ≡ same → (none : Bool) → is_no_marks x.1.marks ≡ none → IsIn (g, o.what) (if none then index_of t else (x.0, x.1.what) ∷ index_of t)
    go rest true e true f = absurd (true≢false (sym f ∙ ap (λ (z : Object). is_no_marks z.marks) (here e).1 ∙ some))
    go rest true e false f = (let k = here e in (zero, λ i. Some (k.0 i, (k.1 i).what)))
    go rest false e true f = rest (later e) some
    go rest false e false f = in_later (g, o.what) (x.0, x.1.what) (index_of t) (rest (later e) some)

-- and the round has a heal for it of each of its kinds
pub heals_have : (list : List (Gfid × What)) (g : Gfid) (what : What) (kind : Kind) → IsKindOf what kind → IsIn (g, what) list → IsIn (g, kind) (heals_of list)
heals_have [] g what kind of (i, e) = absurd (cc e)
heals_have (x ∷ list) g what kind of (suc i, e) = (let w = heals_have list g what kind of (i, e) in (suc (suc w.0), w.1))
heals_have (x ∷ list) g what kind of (zero, e) = (
    let same : x ≡ (g, what) = cc e in
    elim of [
      | inl attrs ↦ (zero, λ i. Some ((same i).0, sym attrs i))
      | inr within ↦ (suc zero, (λ i. Some ((same i).0, kind_within (same i).1)) ∙ ap (λ (k : Kind). Some (g, k)) (sym within))
    ]
    )

-- ---- a heal that has ended
-- what is known of each heal is known of this one
pub record Healed (P : Gfid → Kind → HealReply → List Line → Type 0) (g : Gfid) (kind : Kind) : Type 0 where
  pub said : HealReply
  pub before : List Line
  pub fact : P g kind said before

pub healed : (P : Gfid → Kind → HealReply → List Line → Type 0) (g : Gfid) (kind : Kind) (w : Work) → EachHeal P w → IsIn (g, kind) (ended_heals w) → Healed P g kind
healed P g kind [] each (i, e) = absurd (cc e)
healed P g kind (x ∷ w) each there = elim (in_parts (g, kind) (ended_heals w) (ends_one x.0) there) [ inl before ↦ healed P g kind w each.1 before | inr now ↦ last x each now ]
  where
    last : (x : Line × List Line) → EachHeal P (x ∷ w) → IsIn (g, kind) (ends_one x.0) → Healed P g kind
    last (HealEnd y h k said, older) each now = (
        let same : (h, k) ≡ (g, kind) = in_one (g, kind) (h, k) now in
        record { said = said; before = older; fact = subst (λ (u : Gfid × Kind). P u.0 u.1 said older) same each.0 }
        )
    last (Ask y b r told took, older) each now = absurd (let e = now.1 in cc e)
    last (Begin y change, older) each now = absurd (let e = now.1 in cc e)
    last (HealBegin y h k, older) each now = absurd (let e = now.1 in cc e)
    last (End y said, older) each now = absurd (let e = now.1 in cc e)
    last (Event event, older) each now = absurd (let e = now.1 in cc e)

-- ---- the list of a round
module _ (p : Plan) (b : BrickId) where
  module _ (a : ℕ) (high : 17 ≤ a) (base : List Line) (is : slice_get (rounds_of p a) (ended a base) ≡ Some b) where
    keeps_at : (line : Line) (ls : List Line) → AreMine a ls → Round p a (ls ++ base) line → work a base ≡ [] → KeepsToRound p b line (works ls base)
    keeps_at line ls mine r rests = (
        let same : r.brick ≡ b = cc (sym r.is ∙ ap (slice_get (rounds_of p a)) (ended_same a ls base mine) ∙ is) in
        subst (λ (w : Work). KeepsToRound p b line w) (works_are a ls base mine rests) (subst (λ (c : BrickId). KeepsToRound p c line (work a (ls ++ base))) same r.keeps)
        )

    list_is : (line : Line) (ls : List Line) → AreMine a (line ∷ ls) → work a base ≡ [] → Sound p (line ∷ (ls ++ base)) → has tells_any_fault (works (line ∷ ls) base) ≡ false → listed_by p (works (line ∷ ls) base) ≡ index_of (holds p base b.0)
    list_is line [] mine rests s fine = first_listed p b line base (keeps_at line [] tt (round_of p a base line mine.0.0 s high) rests) s.honest.0 (or_parts _ _ fine).0
    list_is line (next ∷ ls) mine rests s fine =
        later_listed p b line (next ∷ (ls ++ base)) (next, ls ++ base) (works ls base) (listed_by p (works (next ∷ ls) base)) (keeps_at line (next ∷ ls) mine.1 (round_of p a (next ∷ (ls ++ base)) line mine.0.0 s high) rests)
        ∙ list_is next ls mine.1 rests (sound_before p line (next ∷ (ls ++ base)) s) (or_parts _ _ fine).1

-- the list of an undisturbed round that the next line ends is the index of its brick before it
pub round_list : (p : Plan) (a : ℕ) (b : BrickId) (older : List Line) → Sound p older → 17 ≤ a → slice_get (rounds_of p a) (ended a older) ≡ Some b → IsQuiet p a older → (work a older ≡ [] → ⊥) → listed_by p (work a older) ≡ index_of (holds p (log_before (work a older) older) b.0)
round_list p a b older s high is quiet some = (
    let r : Run a older = run a older quiet.together in
    subst (λ (l : List Line). listed_by p (work a l) ≡ index_of (holds p (log_before (work a l) l) b.0)) (sym r.whole)
    (inner r.lines r.base r.mine r.rests (subst (Sound p) r.whole s) (subst (λ (l : List Line). slice_get (rounds_of p a) (ended a l) ≡ Some b) r.whole is) (subst (λ (l : List Line). has tells_any_fault (work a l) ≡ false) r.whole quiet.unfailed) (subst (λ (l : List Line). work a l ≡ [] → ⊥) r.whole some))
    )
  where
    inner : (ls base : List Line) → AreMine a ls → work a base ≡ [] → Sound p (ls ++ base) → slice_get (rounds_of p a) (ended a (ls ++ base)) ≡ Some b → has tells_any_fault (work a (ls ++ base)) ≡ false → (work a (ls ++ base) ≡ [] → ⊥) → listed_by p (work a (ls ++ base)) ≡ index_of (holds p (log_before (work a (ls ++ base)) (ls ++ base)) b.0)
    inner [] base mine rests s is fine some = absurd (some rests)
    inner (line ∷ ls) base mine rests s is fine some = (
        let are : work a (line ∷ ls ++ base) ≡ works (line ∷ ls) base = works_are a (line ∷ ls) base mine rests in
        subst (λ (w : Work). listed_by p w ≡ index_of (holds p (log_before w (line ∷ ls ++ base)) b.0)) (sym are)
        (list_is p b a high base (ap (slice_get (rounds_of p a)) (sym (ended_same a (line ∷ ls) base mine)) ∙ is) line ls mine rests s (subst (λ (w : Work). has tells_any_fault w ≡ false) are fine) ∙ ap (λ (l : List Line). index_of (holds p l b.0)) (sym (before_works (line ∷ ls) base)))
        )

-- ---- open on a brick
-- a number of the kind is above 0 on brick b
abbrev pub IsOpenOn : Plan → List Line → ℕ → Gfid → Kind → Type 0
IsOpenOn p log b g kind = (0 < dirty_of p log b g kind) ⊎ ((c : ℕ) × (c < p.shape.n) × (0 < pending_of p log b c g kind))

pub open_marked : (p : Plan) (log : List Line) → AreSums p log → p.shape.n ≤ 5 → (b : ℕ) (g : Gfid) (kind : Kind) (o : Object) → copy_at g (holds p log b) ≡ Some o → IsOpenOn p log b g kind → is_no_marks o.marks ≡ false
open_marked p log sums five b g kind o there open_on = (
    let w = sums b g kind o there in
    let is_open : IsOpen (marks_of kind o.marks) = elim open_on [
      | inl dirty ↦ inl (let d = w.0 in omega (arith, d, dirty))
      | inr blamed ↦ inr (let low = blamed.1 in let more = blamed.2 in (blamed.0, omega (arith, low, five), (let d = w.1 blamed.0 (omega (arith, low, five)) in omega (arith, d, more))))
    ] in
    kind_open o.marks kind (open_not_zero (marks_of kind o.marks) is_open)
    )

-- The names of a list, printed in the order of their bytes, are read again.
use Rattle.std.proofs.Common.{◌≡◌, ℕ, zero, suc, ◌+◌, ◌≤◌, List, [], ◌∷◌, ◌++◌, length, Option, Some, None, refl, sym, ap, subst, ◌∙◌, arith, Bool, true, false, not, codes, if◌then◌else◌, length-append}
use Rattle.std.specs.Prelude.{is_some}
use Rattle.afr_base.specs.declared.ids.NameId.{NameId}
use Rattle.afr_object.specs.declared.entry.Entry.{Entry}
use Rattle.afr_plan.specs.Bytes.{name_byte}
use Rattle.afr_plan.specs.declared.plan.Plan.{Plan}
use Rattle.afr_model.specs.ReportReplies.{in_order, name_texts, placed, precedes}
use Rattle.afr_plan_read.proofs.Laws.{Stops}
use Rattle.afr_trace_read.specs.Contents.{bytes_of_name, is_before, comes_after, names_on, names_told}
use Rattle.afr_trace_read.specs.Fit.{AreListed, IsNameOf, IsNotAmong}
use Rattle.afr_trace_read.specs.Forms.{place_in}
use Rattle.afr_trace_read.proofs.NamesLaws.{before_of, behind-again, same_some, spaced}

-- ---- each text once
abbrev pub Apart : List ℕ → List (List ℕ) → Type 0
Apart s [] = Unit {0}
Apart s (t ∷ more) = (s ≡ t → ⊥) × Apart s more

abbrev pub AllApart : List (List ℕ) → Type 0
AllApart [] = Unit {0}
AllApart (s ∷ more) = Apart s more × AllApart more

apart_placed : (x s : List ℕ) (l : List (List ℕ)) → (x ≡ s → ⊥) → Apart x l → Apart x (placed s l)
apart_placed x s [] h a = (h, tt)
apart_placed x s (t ∷ more) h a = by (precedes s t) (apart_placed x s more h a.1)
  where
    by : (b : Bool) → Apart x (placed s more) → Apart x (if b then s ∷ t ∷ more else t ∷ placed s more)
    by true later = (h, a)
    by false later = (a.0, later)

apart_ordered : (x : List ℕ) (l : List (List ℕ)) → Apart x l → Apart x (in_order l)
apart_ordered x [] a = tt
apart_ordered x (s ∷ more) a = apart_placed x s (in_order more) a.0 (apart_ordered x more a.1)

-- ---- in the order of bytes
abbrev pub RisesAfter : List ℕ → List (List ℕ) → Type 0
RisesAfter s [] = Unit {0}
RisesAfter s (t ∷ more) = (is_before s t ≡ true) × RisesAfter t more

abbrev pub Rises : List (List ℕ) → Type 0
Rises [] = Unit {0}
Rises (s ∷ more) = RisesAfter s more

placed_after : (last s : List ℕ) (l : List (List ℕ)) → is_before last s ≡ true → Apart s l → RisesAfter last l → RisesAfter last (placed s l)
placed_after last s [] h a r = (h, tt)
placed_after last s (t ∷ more) h a r = by (precedes s t) refl (λ back. placed_after t s more back a.1 r.1)
  where
    by : (b : Bool) → precedes s t ≡ b → (is_before t s ≡ true → RisesAfter t (placed s more)) → RisesAfter last (if b then s ∷ t ∷ more else t ∷ placed s more)
    by true e later = (h, (before_of s t a.0 e, r.1))
    by false e later = (r.0, later (ap not e))

placed_rises : (s : List ℕ) (l : List (List ℕ)) → Apart s l → Rises l → Rises (placed s l)
placed_rises s [] a r = tt
placed_rises s (t ∷ more) a r = by (precedes s t) refl
  where
    by : (b : Bool) → precedes s t ≡ b → Rises (if b then s ∷ t ∷ more else t ∷ placed s more)
    by true e = (before_of s t a.0 e, r)
    by false e = placed_after t s more (ap not e) a.1 r

pub order_rises : (l : List (List ℕ)) → AllApart l → Rises (in_order l)
order_rises [] a = tt
order_rises (s ∷ more) a = placed_rises s (in_order more) (apart_ordered s more a.0) (order_rises more a.1)

-- ---- names of the plan
abbrev IsWordOf : Plan → List ℕ → Type 0
IsWordOf p t = (name : NameId) × IsNameOf p name × (bytes_of_name p name ≡ t)

abbrev AreWords : Plan → List (List ℕ) → Type 0
AreWords p [] = Unit {0}
AreWords p (t ∷ more) = IsWordOf p t × AreWords p more

words_placed : (p : Plan) (s : List ℕ) (l : List (List ℕ)) → IsWordOf p s → AreWords p l → AreWords p (placed s l)
words_placed p s [] h a = (h, tt)
words_placed p s (t ∷ more) h a = by (precedes s t) (words_placed p s more h a.1)
  where
    by : (b : Bool) → AreWords p (placed s more) → AreWords p (if b then s ∷ t ∷ more else t ∷ placed s more)
    by true later = (h, a)
    by false later = (a.0, later)

words_ordered : (p : Plan) (l : List (List ℕ)) → AreWords p l → AreWords p (in_order l)
words_ordered p [] a = tt
words_ordered p (s ∷ more) a = words_placed p s (in_order more) a.0 (words_ordered p more a.1)

words_of : (p : Plan) (names : List (NameId × Entry)) → AreListed p names → AreWords p (name_texts p.words names)
words_of p [] h = tt
words_of p (x ∷ names) h = ((x.0, h.0, refl), words_of p names h.2)

-- two names with the same bytes are one
one_place : (p : Plan) (a b : NameId) → IsNameOf p a → IsNameOf p b → bytes_of_name p a ≡ bytes_of_name p b → a.0 ≡ b.0
one_place p a b ok ko e =
    let f : Some a.0 ≡ Some b.0 = sym ok.0.0 ∙ ap (place_in p.words.names) e ∙ ko.0.0 in
    cc

texts_apart : (p : Plan) (name : NameId) (names : List (NameId × Entry)) → IsNameOf p name → AreListed p names → IsNotAmong name names → Apart (bytes_of_name p name) (name_texts p.words names)
texts_apart p name [] ok h n = tt
texts_apart p name (x ∷ names) ok h n = (λ e. n.0 (one_place p name x.0 ok h.0 e), texts_apart p name names ok h.2 n.1)

pub all_apart : (p : Plan) (names : List (NameId × Entry)) → AreListed p names → AllApart (name_texts p.words names)
all_apart p [] h = tt
all_apart p (x ∷ names) h = (texts_apart p x.0 names h.0 h.2 h.1, all_apart p names h.2)

-- ---- read again
spaced_stops : (l : List (List ℕ)) → Stops name_byte (spaced l)
spaced_stops [] = tt
spaced_stops (t ∷ more) = refl

abbrev RisesPast : Plan → Option NameId → List (List ℕ) → Type 0
RisesPast p None l = Rises l
RisesPast p (Some last) l = RisesAfter (bytes_of_name p last) l

comes : (p : Plan) (last : Option NameId) (name : NameId) (t : List ℕ) (more : List (List ℕ)) → bytes_of_name p name ≡ t → RisesPast p last (t ∷ more) → (comes_after p last name ≡ true) × RisesPast p (Some name) more
comes p None name t more e r = (refl, subst (λ (s : List ℕ). RisesAfter s more) (sym e) r)
comes p (Some last) name t more e r = (ap (is_before (bytes_of_name p last)) e ∙ r.0, subst (λ (s : List ℕ). RisesAfter s more) (sym e) r.1)

step_on : (p : Plan) (most : ℕ) (last : Option NameId) (name : NameId) (rest : List ℕ) → IsNameOf p name → comes_after p last name ≡ true → Stops name_byte rest
    → is_some (names_on p most (Some name) rest) ≡ true → is_some (names_on p (suc most) last ((codes " " ++ bytes_of_name p name) ++ rest)) ≡ true
step_on p most last name rest ok after stops h =
    rw ((behind-again p last).read name rest (ok, after) stops) (same_some (λ (names : List NameId). name ∷ names) (names_on p most (Some name) rest) ∙ h)

texts_read : (p : Plan) (most : ℕ) (last : Option NameId) (l : List (List ℕ)) → AreWords p l → RisesPast p last l → length (spaced l) ≤ most → is_some (names_on p most last (spaced l)) ≡ true
texts_read p most last [] a r n = refl
texts_read p zero last (t ∷ more) a r n = absurd (omega (arith, n, length-append (codes " " ++ t) (spaced more), length-append (codes " ") t))
texts_read p (suc most) last (t ∷ more) a r n =
    let c = comes p last a.0.0 t more a.0.2 r in
    let long = length-append (codes " " ++ t) (spaced more) in
    let here : is_some (names_on p (suc most) last ((codes " " ++ bytes_of_name p a.0.0) ++ spaced more)) ≡ true =
    step_on p most last a.0.0 (spaced more) a.0.1 c.0 (spaced_stops more) (texts_read p most (Some a.0.0) more a.1 c.1 (omega (arith, n, long, length-append (codes " ") t))) in
    subst (λ (s : List ℕ). is_some (names_on p (suc most) last ((codes " " ++ s) ++ spaced more)) ≡ true) a.0.2 here

pub list_read : (p : Plan) (names : List (NameId × Entry)) → AreListed p names → is_some (names_told p None (spaced (in_order (name_texts p.words names)))) ≡ true
list_read p names h =
    let l : List (List ℕ) = in_order (name_texts p.words names) in
    texts_read p (length (spaced l)) None l (words_ordered p (name_texts p.words names) (words_of p names h)) (order_rises (name_texts p.words names) (all_apart p names h)) (omega arith)

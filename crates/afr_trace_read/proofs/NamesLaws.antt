-- Names behind the word `ok`, both ways: each stands once, in the order of bytes.
use Rattle.std.proofs.Common.{◌≡◌, ℕ, zero, suc, ◌+◌, ◌<◌, ◌≤◌, List, [], ◌∷◌, ◌++◌, length, Option, Some, None, refl, sym, ap, subst, ◌∙◌, arith, Bool, true, false, not, codes, map, length-append}
use Rattle.std.specs.Prelude.{flat_map, is_some, option_map}
use Rattle.std.specs.Ordering.{is_lt, nat_cmp}
use Rattle.std.specs.Cmp.Lexicographic.{slice_cmp}
use Rattle.std.proofs.lemmas.Bool.Decides.{nat_tests}
use Rattle.std.proofs.lemmas.Cmp.{same_from_slice_cmp}
use Rattle.std.proofs.lemmas.Bool.{not-true}
use Rattle.afr_base.specs.declared.ids.NameId.{NameId}
use Rattle.afr_base.specs.declared.ids.What.TheVariants.{File}
use Rattle.afr_object.specs.declared.entry.Entry.{Entry}
use Rattle.afr_plan.specs.Bytes.{name_byte}
use Rattle.afr_plan.specs.declared.plan.Plan.{Plan}
use Rattle.afr_model.specs.ReportReplies.{in_order, name_texts, placed, precedes}
use Rattle.afr_plan_read.proofs.Laws.{Stops}
use Rattle.afr_trace_read.specs.Contents.{bytes_of_name, is_before, comes_after, name_behind, and_more, names_on, names_told}
use Rattle.afr_trace_read.specs.Fit.{AreListed, IsNameOf, IsNotAmong}
use Rattle.afr_trace_read.proofs.Laws.{Takes, Again, word_then-takes, word_then-again, such_that-takes, such_that-again}
use Rattle.afr_trace_read.proofs.PartLaws.{name-takes, name-again}

-- ---- an order of texts
pub is_below : (s t : List ℕ) → is_lt (slice_cmp nat_cmp s t) ≡ is_before s t
is_below s t = same_from_slice_cmp nat_cmp is_lt is_before refl (λ _ _. refl) (λ _ _. refl) (λ x y xs ys o h. grind (arith, nat_tests)) s t (slice_cmp nat_cmp s t) refl

itself : (s : List ℕ) → precedes s s ≡ true
itself [] = refl
itself (x ∷ s) = let more = itself s in grind (arith, nat_tests)

other_way : (s t : List ℕ) → precedes s t ≡ false → precedes t s ≡ true
other_way [] t h = absurd (cc h)
other_way (x ∷ s) [] h = refl
other_way (x ∷ s) (y ∷ t) h = let more = other_way s t in grind (arith, nat_tests)

same_text : (s t : List ℕ) → precedes s t ≡ true → precedes t s ≡ true → s ≡ t
same_text [] [] h k = refl
same_text [] (y ∷ t) h k = absurd (cc k)
same_text (x ∷ s) [] h k = absurd (cc h)
same_text (x ∷ s) (y ∷ t) h k = let more = same_text s t in grind (arith, nat_tests)

pub before_chain : (s t u : List ℕ) → is_before s t ≡ true → is_before t u ≡ true → is_before s u ≡ true
before_chain s [] u h k = absurd (cc h)
before_chain s (y ∷ t) [] h k = absurd (cc k)
before_chain [] (y ∷ t) (z ∷ u) h k = refl
before_chain (x ∷ s) (y ∷ t) (z ∷ u) h k = let more = before_chain s t u in grind (arith, nat_tests)

pub not_itself : (s t : List ℕ) → s ≡ t → is_before s t ≡ true → ⊥
not_itself s t e h = let same : false ≡ true = ap not (sym (itself s)) ∙ ap (is_before s) e ∙ h in cc same

precedes_of : (s t : List ℕ) → is_before s t ≡ true → precedes s t ≡ true
precedes_of s t h = other_way t s (not-true (precedes t s) h)

pub before_of : (s t : List ℕ) → (s ≡ t → ⊥) → precedes s t ≡ true → is_before s t ≡ true
before_of s t apart h = by (precedes t s) refl
  where
    by : (b : Bool) → precedes t s ≡ b → not b ≡ true
    by true e = absurd (apart (same_text s t h e))
    by false e = refl

-- ---- one name
behind-takes : (p : Plan) (last : Option NameId) → Takes (name_behind p last) (λ name. codes " " ++ bytes_of_name p name) (λ name. IsNameOf p name × (comes_after p last name ≡ true))
unfolding name_behind
behind-takes p last = such_that-takes _ (comes_after p last) _ _ (word_then-takes (codes " ") _ _ _ (name-takes p))

pub behind-again : (p : Plan) (last : Option NameId) → Again (name_behind p last) (λ name. codes " " ++ bytes_of_name p name) (λ name. IsNameOf p name × (comes_after p last name ≡ true)) (Stops name_byte)
unfolding name_behind
behind-again p last = such_that-again _ (comes_after p last) _ _ _ (word_then-again (codes " ") _ _ _ _ (name-again p))

pub shorter : (p : Plan) (last : Option NameId) (rest more : List ℕ) (name : NameId) → Some (name, more) ≡ name_behind p last rest → length more < length rest
shorter p last rest more name e =
    let u = (behind-takes p last).read rest name more (sym e) in
    let long : length rest ≡ length ((codes " " ++ bytes_of_name p name) ++ more) = ap length u.1 in
    omega (arith, long, length-append (codes " " ++ bytes_of_name p name) more, length-append (codes " ") (bytes_of_name p name))

pub same_some : {A B : Type 0} (f : A → B) (o : Option A) → is_some (option_map f o) ≡ is_some o
same_some f None = refl
same_some f (Some x) = refl

-- ---- as many steps as are needed
more_same : (o : Option (NameId × List ℕ)) (f g : NameId → List ℕ → Option (List NameId)) → ((x : NameId × List ℕ) → o ≡ Some x → f x.0 x.1 ≡ g x.0 x.1) → and_more o f ≡ and_more o g
more_same None f g h = refl
more_same (Some x) f g h = ap (option_map (λ (names : List NameId). x.0 ∷ names)) (h x refl)

pub same_steps : (p : Plan) (m n : ℕ) (last : Option NameId) (rest : List ℕ) → length rest ≤ m → length rest ≤ n → names_on p m last rest ≡ names_on p n last rest
same_steps p m n last [] l k = refl
same_steps p zero n last (b ∷ bs) l k = absurd (omega (arith, l))
same_steps p (suc m) zero last (b ∷ bs) l k = absurd (omega (arith, k))
same_steps p (suc m) (suc n) last (b ∷ bs) l k = more_same (name_behind p last (b ∷ bs)) (λ name rest. names_on p m (Some name) rest) (λ name rest. names_on p n (Some name) rest)
    (λ x e. let less : length x.1 < length (b ∷ bs) = shorter p last (b ∷ bs) x.1 x.0 (sym e) in same_steps p m n (Some x.0) x.1 (omega (arith, less, l)) (omega (arith, less, k)))

pub told_one : (p : Plan) (last : Option NameId) (rest more : List ℕ) (name : NameId) → Some (name, more) ≡ name_behind p last rest → names_told p last rest ≡ option_map (λ (names : List NameId). name ∷ names) (names_told p (Some name) more)
told_one p last [] more name e = absurd (let less = shorter p last [] more name e in omega (arith, less))
told_one p last (b ∷ bs) more name e =
    let less : length more < length (b ∷ bs) = shorter p last (b ∷ bs) more name e in
    ap (λ (o : Option (NameId × List ℕ)). and_more o (λ next rest. names_on p (length bs) (Some next) rest)) (sym e)
    ∙ ap (option_map (λ (names : List NameId). name ∷ names)) (same_steps p (length bs) (length more) (Some name) more (omega (arith, less)) (omega arith))

pub one_name : (p : Plan) (last : Option NameId) (rest more : List ℕ) (name : NameId) → Some (name, more) ≡ name_behind p last rest → is_some (names_told p (Some name) more) ≡ is_some (names_told p last rest)
one_name p last rest more name e = sym (ap is_some (told_one p last rest more name e) ∙ same_some (λ (names : List NameId). name ∷ names) (names_told p (Some name) more))

pub no_name : (p : Plan) (last : Option NameId) (rest : List ℕ) → None ≡ name_behind p last rest → 0 < length rest → is_some (names_told p last rest) ≡ false
no_name p last [] e some = absurd (omega (arith, some))
no_name p last (b ∷ bs) e some = ap (λ (o : Option (NameId × List ℕ)). is_some (and_more o (λ next rest. names_on p (length bs) (Some next) rest))) (sym e)

-- ---- what is read
-- each comes after the one before
abbrev pub AreRising : Plan → Option NameId → List NameId → Type 0
AreRising p last [] = Unit {0}
AreRising p last (name ∷ names) = IsNameOf p name × (comes_after p last name ≡ true) × AreRising p (Some name) names

-- texts behind spaces
abbrev pub spaced : List (List ℕ) → List ℕ
spaced texts = flat_map (λ t. codes " " ++ t) texts

abbrev pub texts_of : Plan → List NameId → List (List ℕ)
texts_of p names = map (bytes_of_name p) names

more_some : (o : Option (NameId × List ℕ)) (f : NameId → List ℕ → Option (List NameId)) (names : List NameId) → and_more o f ≡ Some names
    → (x : NameId × List ℕ) × (more : List NameId) × (o ≡ Some x) × (f x.0 x.1 ≡ Some more) × (x.0 ∷ more ≡ names)
more_some None f names e = absurd (cc e)
more_some (Some x) f names e = step (f x.0 x.1) refl e
  where
    step : (o : Option (List NameId)) → f x.0 x.1 ≡ o → option_map (λ (more : List NameId). x.0 ∷ more) o ≡ Some names → (y : NameId × List ℕ) × (more : List NameId) × (Some x ≡ Some y) × (f y.0 y.1 ≡ Some more) × (y.0 ∷ more ≡ names)
    step None s h = absurd (cc h)
    step (Some more) s h = (x, more, refl, s, cc)

pub names_read : (p : Plan) (most : ℕ) (last : Option NameId) (text : List ℕ) (names : List NameId) → names_on p most last text ≡ Some names → AreRising p last names × (text ≡ spaced (texts_of p names))
names_read p most last [] names e =
    let f : [] ≡ names = cc in
    let P : List NameId → Type 0 = λ ns. AreRising p last ns × ([] ≡ spaced (texts_of p ns)) in
    subst P f (tt, refl)
names_read p zero last (b ∷ bs) names e = absurd (cc e)
names_read p (suc most) last (b ∷ bs) names e =
    let s = more_some (name_behind p last (b ∷ bs)) (λ name rest. names_on p most (Some name) rest) names e in
    let u = (behind-takes p last).read (b ∷ bs) s.0.0 s.0.1 s.2 in
    let v = names_read p most (Some s.0.0) s.0.1 s.1 s.3 in
    let here : b ∷ bs ≡ spaced (texts_of p (s.0.0 ∷ s.1)) = u.1 ∙ ap (λ (t : List ℕ). (codes " " ++ bytes_of_name p s.0.0) ++ t) v.1 in
    let P : List NameId → Type 0 = λ ns. AreRising p last ns × (b ∷ bs ≡ spaced (texts_of p ns)) in
    subst P s.4 ((u.0.0, u.0.1, v.0), here)

-- ---- a list that is printed so
-- a name with an entry that no text shows
abbrev pub with_entry : NameId → NameId × Entry
with_entry name = (name, record { gfid = record { 0 = 0 }; what = File })

skip : (p : Plan) (one two : NameId) (names : List NameId) → is_before (bytes_of_name p one) (bytes_of_name p two) ≡ true → AreRising p (Some two) names → AreRising p (Some one) names
skip p one two [] h r = tt
skip p one two (name ∷ names) h r = (r.0, before_chain (bytes_of_name p one) (bytes_of_name p two) (bytes_of_name p name) h r.1, r.2)

once : (p : Plan) (name : NameId) (names : List NameId) → AreRising p (Some name) names → IsNotAmong name (map with_entry names)
once p name [] r = tt
once p name (next ∷ names) r = (λ e. not_itself (bytes_of_name p name) (bytes_of_name p next) (ap (λ (n : ℕ). bytes_of_name p (record { 0 = n })) e) r.1, once p name names (skip p name next names r.1 r.2))

pub listed : (p : Plan) (last : Option NameId) (names : List NameId) → AreRising p last names → AreListed p (map with_entry names)
listed p last [] r = tt
listed p last (name ∷ names) r = (r.0, once p name names r.2, listed p (Some name) names r.2)

pub texts_same : (p : Plan) (names : List NameId) → name_texts p.words (map with_entry names) ≡ texts_of p names
texts_same p [] = refl
texts_same p (name ∷ names) = ap (λ (t : List (List ℕ)). bytes_of_name p name ∷ t) (texts_same p names)

pub ordered : (p : Plan) (last : Option NameId) (names : List NameId) → AreRising p last names → in_order (texts_of p names) ≡ texts_of p names
ordered p last [] r = refl
ordered p last (name ∷ []) r = refl
ordered p last (name ∷ next ∷ names) r =
    let h : precedes (bytes_of_name p name) (bytes_of_name p next) ≡ true = precedes_of (bytes_of_name p name) (bytes_of_name p next) r.2.1 in
    ap (placed (bytes_of_name p name)) (ordered p (Some name) (next ∷ names) r.2) ∙ rw h refl

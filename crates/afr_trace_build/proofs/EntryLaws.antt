-- The names of a text with their entries are printed as the text has them.
use Rattle.std.proofs.Common.{◌≡◌, ◌⊎◌, inl, inr, ℕ, List, [], ◌∷◌, ◌++◌, ◌==◌, ◌||◌, Option, Some, None, refl, sym, ap, subst, ◌∙◌, Bool, true, false, not, if◌then◌else◌, filter, map}
use Rattle.std.proofs.lemmas.Bool.{eqb-true, eq-eqb, or_right, or_left, or_cases}
use Rattle.afr_base.specs.declared.ids.NameId.{NameId}
use Rattle.afr_object.specs.declared.entry.Entry.{Entry}
use Rattle.afr_model.specs.ReportReplies.{in_order, name_texts}
use Rattle.afr_plan.specs.declared.plan.Plan.{Plan}
use Rattle.afr_trace_build.specs.Given.{is_listed, is_told, unlisted, with_entries}
use Rattle.afr_trace_build.specs.Shown.{AreOnce}
use Rattle.afr_trace_build.proofs.SameLaws.{In, ordered_from, ordered_in, rising_same}
use Rattle.afr_trace_read.specs.Contents.{bytes_of_name}
use Rattle.afr_trace_read.specs.Fit.{AreListed, IsNameOf, IsNotAmong}
use Rattle.afr_trace_read.proofs.NamesLaws.{AreRising, listed, texts_of}
use Rattle.afr_trace_read.proofs.OrderLaws.{Rises, RisesAfter, all_apart, order_rises}

-- ---- the names that were told
told_name : (p : Plan) (last : Option NameId) (names : List NameId) (n : NameId) → AreRising p last names → is_told names n ≡ true → IsNameOf p n
told_name p last [] n r e = absurd (cc e)
told_name p last (m ∷ names) n r e = elim (or_cases (m.0 == n.0) (is_told names n) e) [
  | inl same ↦ subst (λ (k : ℕ). IsNameOf p (record { 0 = k })) (eqb-true m.0 n.0 same) r.0
  | inr later ↦ told_name p (Some m) names n r.2 later
]

told_in : (p : Plan) (names : List NameId) (n : NameId) → is_told names n ≡ true → In (bytes_of_name p n) (texts_of p names)
told_in p [] n e = absurd (cc e)
told_in p (m ∷ names) n e = elim (or_cases (m.0 == n.0) (is_told names n) e) [
  | inl same ↦ inl (ap (λ (k : ℕ). bytes_of_name p (record { 0 = k })) (sym (eqb-true m.0 n.0 same)))
  | inr later ↦ inr (told_in p names n later)
]

-- ---- the names that were listed
abbrev told_of : List NameId → List (NameId × Entry) → List (NameId × Entry)
told_of names l = filter (λ x. is_told names x.0) l

told_apart : (names : List NameId) (n : NameId) (l : List (NameId × Entry)) → IsNotAmong n l → IsNotAmong n (told_of names l)
told_apart names n [] h = tt
told_apart names n (x ∷ l) h = by (is_told names x.0) (told_apart names n l h.1)
  where
    by : (b : Bool) → IsNotAmong n (told_of names l) → IsNotAmong n (if b then x ∷ told_of names l else told_of names l)
    by true k = (h.0, k)
    by false k = k

told_listed : (p : Plan) (names : List NameId) (l : List (NameId × Entry)) → AreRising p None names → AreOnce l → AreListed p (told_of names l)
told_listed p names [] r h = tt
told_listed p names (x ∷ l) r h = by (is_told names x.0) refl (told_listed p names l r h.1)
  where
    by : (b : Bool) → is_told names x.0 ≡ b → AreListed p (told_of names l) → AreListed p (if b then x ∷ told_of names l else told_of names l)
    by true e k = (told_name p None names x.0 r e, told_apart names x.0 l h.0, k)
    by false e k = k

told_from : (p : Plan) (names : List NameId) (t : List ℕ) (l : List (NameId × Entry)) → In t (name_texts p.words (told_of names l)) → In t (texts_of p names)
told_from p names t [] h = absurd h
told_from p names t (x ∷ l) h = by (is_told names x.0) refl h (told_from p names t l)
  where
    by : (b : Bool) → is_told names x.0 ≡ b → In t (name_texts p.words (if b then x ∷ told_of names l else told_of names l)) → (In t (name_texts p.words (told_of names l)) → In t (texts_of p names)) → In t (texts_of p names)
    by false e k rec = rec k
    by true e k rec = elim k [
      | inl same ↦ subst (λ (u : List ℕ). In u (texts_of p names)) (sym same) (told_in p names x.0 e)
      | inr later ↦ rec later
    ]

listed_in : (p : Plan) (names : List NameId) (n : NameId) (l : List (NameId × Entry)) → is_listed l n ≡ true → is_told names n ≡ true → In (bytes_of_name p n) (name_texts p.words (told_of names l))
listed_in p names n [] e told = absurd (cc e)
listed_in p names n (x ∷ l) e told = elim (or_cases (x.0.0 == n.0) (is_listed l n) e) [
  | inl same ↦ here (eqb-true x.0.0 n.0 same)
  | inr later ↦ more (is_told names x.0) (listed_in p names n l later told)
]
  where
    more : (b : Bool) → In (bytes_of_name p n) (name_texts p.words (told_of names l)) → In (bytes_of_name p n) (name_texts p.words (if b then x ∷ told_of names l else told_of names l))
    more true k = inr k
    more false k = k

    here : x.0.0 ≡ n.0 → In (bytes_of_name p n) (name_texts p.words (told_of names (x ∷ l)))
    here same =
        let kept : is_told names x.0 ≡ true = ap (λ (k : ℕ). is_told names (record { 0 = k })) same ∙ told in
        rw kept (inl (ap (λ (k : ℕ). bytes_of_name p (record { 0 = k })) (sym same)))

-- ---- the names that weren't listed
abbrev new_of : List (NameId × Entry) → List NameId → List (NameId × Entry)
new_of l names = map unlisted (filter (λ name. not (is_listed l name)) names)

new_apart : (l : List (NameId × Entry)) (n : NameId) (names : List NameId) → IsNotAmong n (map unlisted names) → IsNotAmong n (new_of l names)
new_apart l n [] h = tt
new_apart l n (m ∷ names) h = by (not (is_listed l m)) (new_apart l n names h.1)
  where
    by : (b : Bool) → IsNotAmong n (new_of l names) → IsNotAmong n (map unlisted (if b then m ∷ filter (λ name. not (is_listed l name)) names else filter (λ name. not (is_listed l name)) names))
    by true k = (h.0, k)
    by false k = k

new_listed : (p : Plan) (l : List (NameId × Entry)) (names : List NameId) → AreListed p (map unlisted names) → AreListed p (new_of l names)
new_listed p l [] h = tt
new_listed p l (m ∷ names) h = by (not (is_listed l m)) (new_listed p l names h.2)
  where
    by : (b : Bool) → AreListed p (new_of l names) → AreListed p (map unlisted (if b then m ∷ filter (λ name. not (is_listed l name)) names else filter (λ name. not (is_listed l name)) names))
    by true k = (h.0, new_apart l m names h.1, k)
    by false k = k

new_from : (p : Plan) (l : List (NameId × Entry)) (t : List ℕ) (names : List NameId) → In t (name_texts p.words (new_of l names)) → In t (texts_of p names)
new_from p l t [] h = absurd h
new_from p l t (m ∷ names) h = by (not (is_listed l m)) h (new_from p l t names)
  where
    by : (b : Bool) → In t (name_texts p.words (map unlisted (if b then m ∷ filter (λ name. not (is_listed l name)) names else filter (λ name. not (is_listed l name)) names))) → (In t (name_texts p.words (new_of l names)) → In t (texts_of p names)) → In t (texts_of p (m ∷ names))
    by false k rec = inr (rec k)
    by true k rec = elim k [
      | inl same ↦ inl same
      | inr later ↦ inr (rec later)
    ]

-- a listed name isn't among the new ones
new_off : (l : List (NameId × Entry)) (n : NameId) (names : List NameId) → is_listed l n ≡ true → IsNotAmong n (new_of l names)
new_off l n [] e = tt
new_off l n (m ∷ names) e = by (is_listed l m) refl (new_off l n names e)
  where
    by : (b : Bool) → is_listed l m ≡ b → IsNotAmong n (new_of l names) → IsNotAmong n (map unlisted (if not b then m ∷ filter (λ name. not (is_listed l name)) names else filter (λ name. not (is_listed l name)) names))
    by true f k = k
    by false f k = (λ same. let clash : true ≡ false = sym e ∙ ap (λ (j : ℕ). is_listed l (record { 0 = j })) same ∙ f in absurd (cc clash), k)

-- ---- both
both_listed : (p : Plan) (names : List NameId) (l rest : List (NameId × Entry)) → AreListed p (told_of names rest) → ((n : NameId) → is_listed rest n ≡ true → is_listed l n ≡ true) → AreListed p (new_of l names) → AreListed p (told_of names rest ++ new_of l names)
both_listed p names l [] a sub new = new
both_listed p names l (x ∷ rest) a sub new = by (is_told names x.0) a (λ k. both_listed p names l rest k (λ n e. sub n (or_right (x.0.0 == n.0) (is_listed rest n) e)) new)
  where
    apart : (m : List (NameId × Entry)) → IsNotAmong x.0 m → IsNotAmong x.0 (m ++ new_of l names)
    apart [] k = new_off l x.0 names (sub x.0 (or_left (x.0.0 == x.0.0) (is_listed rest x.0) (eq-eqb x.0.0 x.0.0 refl)))
    apart (y ∷ m) k = (k.0, apart m k.1)

    by : (b : Bool) → AreListed p (if b then x ∷ told_of names rest else told_of names rest) → (AreListed p (told_of names rest) → AreListed p (told_of names rest ++ new_of l names)) → AreListed p ((if b then x ∷ told_of names rest else told_of names rest) ++ new_of l names)
    by true k rec = (k.0, apart (told_of names rest) k.1, rec k.2)
    by false k rec = rec k

in_either : (p : Plan) (t : List ℕ) (a b : List (NameId × Entry)) → In t (name_texts p.words (a ++ b)) → In t (name_texts p.words a) ⊎ In t (name_texts p.words b)
in_either p t [] b h = inr h
in_either p t (x ∷ a) b h = elim h [
  | inl e ↦ inl (inl e)
  | inr m ↦ elim (in_either p t a b m) [
    | inl k ↦ inl (inr k)
    | inr k ↦ inr k
  ]
]

in_first : (p : Plan) (t : List ℕ) (a b : List (NameId × Entry)) → In t (name_texts p.words a) → In t (name_texts p.words (a ++ b))
in_first p t [] b h = absurd h
in_first p t (x ∷ a) b h = elim h [
  | inl e ↦ inl e
  | inr m ↦ inr (in_first p t a b m)
]

in_second : (p : Plan) (t : List ℕ) (a b : List (NameId × Entry)) → In t (name_texts p.words b) → In t (name_texts p.words (a ++ b))
in_second p t [] b h = h
in_second p t (x ∷ a) b h = inr (in_second p t a b h)

entries_from : (p : Plan) (l : List (NameId × Entry)) (names : List NameId) (t : List ℕ) → In t (name_texts p.words (with_entries l names)) → In t (texts_of p names)
entries_from p l names t h = elim (in_either p t (told_of names l) (new_of l names) h) [
  | inl k ↦ told_from p names t l k
  | inr k ↦ new_from p l t names k
]

new_in : (p : Plan) (l : List (NameId × Entry)) (n : NameId) (names : List NameId) → is_listed l n ≡ false → is_told names n ≡ true → In (bytes_of_name p n) (name_texts p.words (new_of l names))
new_in p l n [] f told = absurd (cc told)
new_in p l n (m ∷ names) f told = elim (or_cases (m.0 == n.0) (is_told names n) told) [
  | inl same ↦ here (eqb-true m.0 n.0 same)
  | inr later ↦ more (not (is_listed l m)) (new_in p l n names f later)
]
  where
    more : (b : Bool) → In (bytes_of_name p n) (name_texts p.words (new_of l names)) → In (bytes_of_name p n) (name_texts p.words (map unlisted (if b then m ∷ filter (λ name. not (is_listed l name)) names else filter (λ name. not (is_listed l name)) names)))
    more true k = inr k
    more false k = k

    here : m.0 ≡ n.0 → In (bytes_of_name p n) (name_texts p.words (new_of l (m ∷ names)))
    here same =
        let off : is_listed l m ≡ false = ap (λ (j : ℕ). is_listed l (record { 0 = j })) same ∙ f in
        rw off (inl (ap (λ (k : ℕ). bytes_of_name p (record { 0 = k })) (sym same)))

entry_in : (p : Plan) (l : List (NameId × Entry)) (names : List NameId) (n : NameId) → is_told names n ≡ true → In (bytes_of_name p n) (name_texts p.words (with_entries l names))
entry_in p l names n told = by (is_listed l n) refl
  where
    by : (b : Bool) → is_listed l n ≡ b → In (bytes_of_name p n) (name_texts p.words (with_entries l names))
    by true e = in_first p (bytes_of_name p n) (told_of names l) (new_of l names) (listed_in p names n l e told)
    by false e = in_second p (bytes_of_name p n) (told_of names l) (new_of l names) (new_in p l n names e told)

entries_in : (p : Plan) (l : List (NameId × Entry)) (names rest : List NameId) → ((n : NameId) → is_told rest n ≡ true → is_told names n ≡ true) → (t : List ℕ) → In t (texts_of p rest) → In t (name_texts p.words (with_entries l names))
entries_in p l names [] sub t h = absurd h
entries_in p l names (m ∷ rest) sub t h = elim h [
  | inl e ↦ subst (λ (u : List ℕ). In u (name_texts p.words (with_entries l names))) (sym e) (entry_in p l names m (sub m (or_left (m.0 == m.0) (is_told rest m) (eq-eqb m.0 m.0 refl))))
  | inr later ↦ entries_in p l names rest (λ n e. sub n (or_right (m.0 == n.0) (is_told rest n) e)) t later
]

rises_after : (p : Plan) (name : NameId) (names : List NameId) → AreRising p (Some name) names → RisesAfter (bytes_of_name p name) (texts_of p names)
rises_after p name [] r = tt
rises_after p name (next ∷ names) r = (r.1, rises_after p next names r.2)

texts_rise : (p : Plan) (names : List NameId) → AreRising p None names → Rises (texts_of p names)
texts_rise p [] r = tt
texts_rise p (name ∷ names) r = rises_after p name names r.2

pub entries_printed : (p : Plan) (l : List (NameId × Entry)) (names : List NameId) → AreOnce l → AreRising p None names → in_order (name_texts p.words (with_entries l names)) ≡ texts_of p names
entries_printed p l names once r =
    let all : AreListed p (with_entries l names) = both_listed p names l l (told_listed p names l r once) (λ n e. e) (new_listed p l names (listed p None names r)) in
    let texts : List (List ℕ) = name_texts p.words (with_entries l names) in
    rising_same (in_order texts) (texts_of p names) (order_rises texts (all_apart p (with_entries l names) all)) (texts_rise p names r)
    (λ t h. entries_from p l names t (ordered_from t texts h)) (λ t h. ordered_in t texts (entries_in p l names names (λ n e. e) t h))

-- Objects that are put at the end of a list, one place or one line more.
use Rattle.std.proofs.Common.{◌≡◌, ◌∙◌, ℕ, suc, ◌+◌, ◌<◌, ◌≤◌, List, [], ◌∷◌, ◌++◌, length, drop, take, reverse, get_or, sym, ap, arith, add-one, append_assoc, drop-cons}
use Rattle.std.proofs.lemmas.List.{append-nil, at_drop_all, reverse-append, take_all}
use Rattle.std.proofs.Math.Seq.{take-suc}
use Rattle.afr_base.specs.declared.ids.Gfid.{Gfid}
use Rattle.afr_lines.specs.declared.line.Line.{Line}
use Rattle.afr_trace_safe.specs.Touched.{begun_more, begun_objects}

-- what stands for one item more
pub pushed : {A : Type 0} (f : A → List Gfid) (F : List A → List Gfid) → ((x : A) (xs : List A) → F (x ∷ xs) ≡ f x ++ F xs) → (xs : List A) (i : ℕ) (d : A) (was now all : List Gfid) → i < length xs → now ≡ was ++ f (get_or xs i d)
    → was ++ F (drop i xs) ≡ all → now ++ F (drop (i + 1) xs) ≡ all
pushed {A} f F step xs i d was now all low more h =
    let next : drop i xs ≡ get_or xs i d ∷ drop (i + 1) xs = drop-cons xs i d low ∙ ap (λ (k : ℕ). get_or xs i d ∷ drop k xs) (sym (add-one i)) in
    let cut : F (drop i xs) ≡ f (get_or xs i d) ++ F (drop (i + 1) xs) = ap F next ∙ step (get_or xs i d) (drop (i + 1) xs) in
    let rest : was ++ (f (get_or xs i d) ++ F (drop (i + 1) xs)) ≡ all = ap (λ (t : List Gfid). was ++ t) (sym cut) ∙ h in
    rw (more, append_assoc) rest

-- what is left behind the last one
pub pushed_all : {A : Type 0} (F : List A → List Gfid) → F [] ≡ [] → (xs : List A) (i : ℕ) (was all : List Gfid) → length xs ≤ i → was ++ F (drop i xs) ≡ all → was ≡ all
pushed_all F none xs i was all high h =
    let rest : F (drop i xs) ≡ [] = at_drop_all F xs i high ∙ none in
    sym (append-nil was) ∙ ap (λ (t : List Gfid). was ++ t) (sym rest) ∙ h

-- ---- lines
-- of the lines up to a position the one that stands there
pub newest : (log : List Line) (at : ℕ) (line : Line) → at < length log → line ≡ get_or log at line → reverse (take (at + 1) log) ≡ line ∷ reverse (take at log)
newest log at line l e =
    let next : at + 1 ≡ suc at = omega arith in
    let all : take (at + 1) log ≡ take at log ++ line ∷ [] = ap (λ (n : ℕ). take n log) next ∙ take-suc log at line l ∙ ap (λ (x : Line). take at log ++ x ∷ []) (sym e) in
    ap (λ (t : List Line). reverse t) all ∙ reverse-append (take at log) (line ∷ [])

-- what holds of all of them
pub whole : {A : Type 0} (F : List Line → A) (log : List Line) (at : ℕ) (x : A) → length log ≤ at → x ≡ F (reverse (take at log)) → x ≡ F (reverse log)
whole F log at x long h = h ∙ ap (λ (t : List Line). F (reverse t)) (take_all at log long)

-- the objects of an actor's attempts, one line more
pub begun_next : (a : ℕ) (log : List Line) (at : ℕ) (line : Line) (was : List Gfid) → at < length log → line ≡ get_or log at line → was ≡ begun_objects a (reverse (take at log))
    → begun_more a line was ≡ begun_objects a (reverse (take (at + 1) log))
begun_next a log at line was l e h = ap (begun_more a line) h ∙ ap (begun_objects a) (sym (newest log at line l e))

-- A path that is read is spelled as it is printed.
use Rattle.std.proofs.Common.{◌≡◌, ℕ, List, [], ◌∷◌, ◌++◌, refl, sym, ap, ◌∙◌, arith, Bool, true, false, ◌==◌, cond, subst}
use Rattle.std.specs.Prelude.{nat_lt}
use Rattle.std.specs.List.{list_all}
use Rattle.std.proofs.lemmas.Bool.Decides.{nat_tests}
use Rattle.afr_plan.specs.Bytes.{path_byte}
use Rattle.afr_plan.specs.Paths.{in_first, pieces, names_in, is_path, is_named_path, has_names}
use Rattle.afr_plan.specs.Spelling.{IsPath, IsNamedPath, IsRun}
use Rattle.afr_plan_print.specs.PrintedLine.{slashed, path_text}
use Rattle.afr_base.specs.Bricks.{and_left}

-- ---- the pieces between slashes, put together again
front_piece : (b : ℕ) (ps : List (List ℕ)) (rest : List ℕ) → slashed ps ≡ 47 ∷ rest → slashed (in_first b ps) ≡ 47 ∷ b ∷ rest
front_piece b [] rest h = absurd (cc)
front_piece b (piece ∷ more) rest h =
    let e : piece ++ slashed more ≡ rest = ap after_slash h in
    ap (λ (t : List ℕ). 47 ∷ b ∷ t) e
  where
    after_slash : List ℕ → List ℕ
    after_slash [] = []
    after_slash (x ∷ xs) = xs

slashed-pieces : (bs : List ℕ) → slashed (pieces bs) ≡ 47 ∷ bs
slashed-pieces [] = refl
slashed-pieces (b ∷ bs) = step (b == 47) refl (slashed-pieces bs)
  where
    step : (c : Bool) → (b == 47) ≡ c → slashed (pieces bs) ≡ 47 ∷ bs → slashed (cond c ([] ∷ pieces bs) (in_first b (pieces bs))) ≡ 47 ∷ b ∷ bs
    step true e ih = let n : 47 ≡ b = grind (arith, nat_tests) in ap (λ (t : List ℕ). 47 ∷ t) ih ∙ ap (λ (x : ℕ). 47 ∷ x ∷ bs) n
    step false e ih = front_piece b (pieces bs) bs ih

some_text : (ps : List (List ℕ)) (rest : List ℕ) → slashed ps ≡ 47 ∷ rest → path_text ps ≡ 47 ∷ rest
some_text [] rest h = absurd (cc)
some_text (piece ∷ more) rest h = h

path_text-names : (w : List ℕ) → is_path w ≡ true → path_text (names_in w) ≡ w
path_text-names [] h = absurd (cc)
path_text-names (s ∷ []) h = let e : 47 ≡ s = grind (arith, nat_tests) in ap (λ (x : ℕ). x ∷ []) e
path_text-names (s ∷ b ∷ bs) h = let e : 47 ≡ s = grind (arith, nat_tests) in some_text (pieces (b ∷ bs)) (b ∷ bs) (slashed-pieces (b ∷ bs)) ∙ ap (λ (x : ℕ). x ∷ b ∷ bs) e

run_path : (w x : List ℕ) (names : List (List ℕ)) → IsRun path_byte is_path w x → names_in x ≡ names → w ≡ path_text names
run_path w x names h e =
    let P : List ℕ → Type 0 = λ t. is_path t ≡ true in
    h.0 ∙ sym (path_text-names x (subst P h.0 h.2)) ∙ ap path_text e

pub path_is : (w : List ℕ) (names : List (List ℕ)) → IsPath w names → w ≡ path_text names
path_is w names h = run_path w h.0 names h.1 h.2

pub named_path_is : (w : List ℕ) (names : List (List ℕ)) → IsNamedPath w names → w ≡ path_text names
named_path_is w names h = run_path w h.0 names (h.1.0, h.1.1, and_left (is_path w) (has_names (names_in w)) h.1.2) h.2

-- ---- names are ASCII
abbrev pub ascii : ℕ → Bool
ascii b = nat_lt b 128

-- each name is ASCII
abbrev pub AreAscii : List (List ℕ) → Type 0
AreAscii [] = Unit {0}
AreAscii (name ∷ more) = (list_all ascii name ≡ true) × AreAscii more

first_ascii : (b : ℕ) (ps : List (List ℕ)) → ascii b ≡ true → AreAscii ps → AreAscii (in_first b ps)
first_ascii b [] h a = (rw h refl, tt)
first_ascii b (piece ∷ more) h a = (rw h a.0, a.1)

pieces_ascii : (bs : List ℕ) → list_all path_byte bs ≡ true → AreAscii (pieces bs)
pieces_ascii [] h = (refl, tt)
pieces_ascii (b ∷ bs) h =
    let one : ascii b ≡ true = grind (arith, nat_tests) in
    let more : list_all path_byte bs ≡ true = grind (arith, nat_tests) in
    step (b == 47) one (pieces_ascii bs more)
  where
    step : (c : Bool) → ascii b ≡ true → AreAscii (pieces bs) → AreAscii (cond c ([] ∷ pieces bs) (in_first b (pieces bs)))
    step true one a = (refl, a)
    step false one a = first_ascii b (pieces bs) one a

names_ascii : (w : List ℕ) → list_all path_byte w ≡ true → AreAscii (names_in w)
names_ascii [] h = tt
names_ascii (s ∷ []) h = tt
names_ascii (s ∷ b ∷ bs) h = let more : list_all path_byte (b ∷ bs) ≡ true = grind (arith, nat_tests) in pieces_ascii (b ∷ bs) more

run_ascii : (ok : List ℕ → Bool) (w x : List ℕ) (names : List (List ℕ)) → IsRun path_byte ok w x → names_in x ≡ names → AreAscii names
run_ascii ok w x names h e =
    let P : List ℕ → Type 0 = λ t. list_all path_byte t ≡ true in
    subst AreAscii e (names_ascii x (subst P h.0 h.1))

pub path_ascii : (w : List ℕ) (names : List (List ℕ)) → IsPath w names → AreAscii names
path_ascii w names h = run_ascii is_path w h.0 names h.1 h.2

pub named_path_ascii : (w : List ℕ) (names : List (List ℕ)) → IsNamedPath w names → AreAscii names
named_path_ascii w names h = run_ascii is_named_path w h.0 names h.1 h.2

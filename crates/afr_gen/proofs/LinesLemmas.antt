-- The generated plan is the one that its lines give.
use Rattle.std.proofs.Common.{◌≡◌, ℕ, zero, suc, ◌+◌, ◌/◌, ◌%◌, ◌<◌, ◌≤◌, ◌^◌, ◌==◌, Bool, true, false, not, ◌||◌, cond, if◌then◌else◌, nat_lt, List, [], ◌∷◌, ◌++◌, length, drop, refl, sym, ap, ◌∙◌, subst, add-one, lit<, lit≤, arith}
use Rattle.std.specs.Prelude.{codes, decimal}
use Rattle.std.specs.List.{list_any}
use Rattle.std.specs.Str.{bytes_eq}
use Rattle.std.proofs.lemmas.Fmt.{decimal_injective}
use Rattle.std.proofs.lemmas.Bool.Decides.{nat_tests}
use Rattle.std.proofs.lemmas.List.Folds.{list_any-append}
use Rattle.std.proofs.lemmas.Slice.Eq.{bytes_eq-Decides}
use Rattle.afr_base.specs.declared.ids.NameId.{NameId}
use Rattle.afr_plan.specs.Happening.{Stop, Start}
use Rattle.afr_plan.specs.Names.{file_name, file_names, number_of, with_name, with_names}
use Rattle.afr_plan.specs.PlanOf.{onto_last, path_of, plan_of, with_line}
use Rattle.afr_plan.specs.Said as said
use Rattle.afr_plan.specs.Action as action
use Rattle.afr_plan.specs.declared.command.Command.{Command}
use Rattle.afr_plan.specs.declared.command.Command.TheVariants.{Write, Read, SetAttr}
use Rattle.afr_plan.specs.declared.plan.Plan.{Plan}
use Rattle.afr_gen.specs.Generated.{block, command, generated, has_set, keys, lot, offset, path, script, scripts, sets, value, values}
use Rattle.afr_gen.specs.Laws.{GeneratedIsSaid}
use Rattle.afr_gen.specs.Lines.{said_at, said_clients, said_script}
use Rattle.afr_law_runnable.proofs.SpelledLemmas.{length-file_names}

-- ---- words by their numbers
-- a word that isn't there has the number after all
missing : (w : List ℕ) (xs : List (List ℕ)) → list_any (bytes_eq w) xs ≡ false → number_of xs w ≡ length xs
missing w [] h = refl
missing w (x ∷ xs) h = step (bytes_eq w x) refl h (missing w xs)
  where
    step : (b : Bool) → bytes_eq w x ≡ b → (b || list_any (bytes_eq w) xs) ≡ false → (list_any (bytes_eq w) xs ≡ false → number_of xs w ≡ length xs) → cond (not b) (1 + number_of xs w) 0 ≡ suc (length xs)
    step true e h ih = absurd (cc h)
    step false e h ih = omega (arith, ih h)

itself : (w : List ℕ) → bytes_eq w w ≡ true
itself w = (bytes_eq-Decides w w).1 refl

-- so has one that was added last
newest : (w : List ℕ) (xs : List (List ℕ)) → list_any (bytes_eq w) xs ≡ false → number_of (xs ++ w ∷ []) w ≡ length xs
newest w [] h = ap (λ (b : Bool). cond (not b) 1 0) (itself w)
newest w (x ∷ xs) h = step (bytes_eq w x) refl h (newest w xs)
  where
    step : (b : Bool) → bytes_eq w x ≡ b → (b || list_any (bytes_eq w) xs) ≡ false → (list_any (bytes_eq w) xs ≡ false → number_of (xs ++ w ∷ []) w ≡ length xs)
        → cond (not b) (1 + number_of (xs ++ w ∷ []) w) 0 ≡ suc (length xs)
    step true e h ih = absurd (cc h)
    step false e h ih = omega (arith, ih h)

any_newest : (w : List ℕ) (xs : List (List ℕ)) → list_any (bytes_eq w) (xs ++ w ∷ []) ≡ true
any_newest w xs = list_any-append (bytes_eq w) xs (w ∷ []) ∙ last (list_any (bytes_eq w) xs)
  where
    last : (b : Bool) → (b || list_any (bytes_eq w) (w ∷ [])) ≡ true
    last true = refl
    last false = ap (λ (b : Bool). b || false) (itself w)

-- more words after it leave its number as it is
in_front : (w : List ℕ) (xs ys : List (List ℕ)) → list_any (bytes_eq w) xs ≡ true → number_of (xs ++ ys) w ≡ number_of xs w
in_front w [] ys h = absurd (cc h)
in_front w (x ∷ xs) ys h = step (bytes_eq w x) h (in_front w xs ys)
  where
    step : (b : Bool) → (b || list_any (bytes_eq w) xs) ≡ true → (list_any (bytes_eq w) xs ≡ true → number_of (xs ++ ys) w ≡ number_of xs w)
        → cond (not b) (1 + number_of (xs ++ ys) w) 0 ≡ cond (not b) (1 + number_of xs w) 0
    step true h ih = refl
    step false h ih = ap (λ (n : ℕ). 1 + n) (ih h)

-- a word that is there isn't added again
known : (w : List ℕ) (xs : List (List ℕ)) → list_any (bytes_eq w) xs ≡ true → with_name xs w ≡ xs
known w xs h = ap (λ (b : Bool). if b then xs else xs ++ w ∷ []) h

added : (w : List ℕ) (xs : List (List ℕ)) → list_any (bytes_eq w) xs ≡ false → with_name xs w ≡ xs ++ w ∷ []
added w xs h = ap (λ (b : Bool). if b then xs else xs ++ w ∷ []) h

-- ---- the values and the key
other_word : (letter m i : ℕ) → i < m → m < 2 ^ 64 → bytes_eq (letter ∷ decimal m) (letter ∷ decimal i) ≡ false
other_word letter m i l h = step (bytes_eq (letter ∷ decimal m) (letter ∷ decimal i)) refl
  where
    step : (b : Bool) → bytes_eq (letter ∷ decimal m) (letter ∷ decimal i) ≡ b → b ≡ false
    step false e = refl
    step true e =
        let same : letter ∷ decimal m ≡ letter ∷ decimal i = (bytes_eq-Decides (letter ∷ decimal m) (letter ∷ decimal i)).0 e in
        let digits : decimal m ≡ decimal i = ap (drop 1) same in
        let small : i < 2 ^ 64 = omega arith in
        let equal : m ≡ i = decimal_injective m i h small digits in
        absurd (omega (arith, equal))

-- no client before gives the value of client m
new_value : (n m c : ℕ) → c < m → m < 2 ^ 64 → list_any (bytes_eq (value m)) (values n c) ≡ false
new_value n m zero l h = refl
new_value n m (suc c) l h = step (has_set n c n) (new_value n m c (omega arith) h) (other_word 99 m (c + 1) (omega arith) h)
  where
    step : (b : Bool) → list_any (bytes_eq (value m)) (values n c) ≡ false → bytes_eq (value m) (value (c + 1)) ≡ false → list_any (bytes_eq (value m)) (if b then values n c ++ value (c + 1) ∷ [] else values n c) ≡ false
    step true older one = list_any-append (bytes_eq (value m)) (values n c) (value (c + 1) ∷ []) ∙ rw (older, one) refl
    step false older one = older

-- the key is there where a client sets it, and then it is the first
keys-number : (vs : List (List ℕ)) → number_of (keys vs) (codes "owner") ≡ 0
keys-number [] = refl
keys-number (v ∷ more) = refl

keys-more : (vs : List (List ℕ)) (w : List ℕ) → with_name (keys vs) (codes "owner") ≡ keys (vs ++ w ∷ [])
keys-more [] w = refl
keys-more (v ∷ more) w = refl

keys-again : (vs : List (List ℕ)) (w : List ℕ) → with_name (keys (vs ++ w ∷ [])) (codes "owner") ≡ keys (vs ++ w ∷ [])
keys-again [] w = refl
keys-again (v ∷ more) w = refl

-- ---- the files
other_file : (m i : ℕ) → i < m → m < 2 ^ 64 → bytes_eq (file_name m) (file_name i) ≡ false
other_file m i l h = other_word 102 m i l h

new_file : (m k : ℕ) → k < m → m < 2 ^ 64 → list_any (bytes_eq (file_name m)) (file_names k) ≡ false
new_file m zero l h = refl
new_file m (suc k) l h =
    let one : bytes_eq (file_name m) (file_name (suc k)) ≡ false = other_file m (suc k) l h in
    let older : list_any (bytes_eq (file_name m)) (file_names k) ≡ false = new_file m k (omega arith) h in
    list_any-append (bytes_eq (file_name m)) (file_names k) (file_name (suc k) ∷ []) ∙ rw (older, one) refl

-- each file stands at its own place
placed : (j k : ℕ) → j < k → k < 2 ^ 64 → (number_of (file_names k) (file_name (suc j)) ≡ j) × (list_any (bytes_eq (file_name (suc j))) (file_names k) ≡ true)
placed j zero l h = absurd (omega arith)
placed j (suc k) l h = step (nat_lt j k) refl (λ less. placed j k less (omega arith))
  where
    there : (b : Bool) → b ≡ true → (b || list_any (bytes_eq (file_name (suc j))) (file_name (suc k) ∷ [])) ≡ true
    there b e = rw e refl

    step : (lower : Bool) → nat_lt j k ≡ lower → (j < k → (number_of (file_names k) (file_name (suc j)) ≡ j) × (list_any (bytes_eq (file_name (suc j))) (file_names k) ≡ true))
        → (number_of (file_names (suc k)) (file_name (suc j)) ≡ j) × (list_any (bytes_eq (file_name (suc j))) (file_names (suc k)) ≡ true)
    step true e below =
        let less : j < k = grind (arith, nat_tests, e) in
        let ih = below less in (
          in_front (file_name (suc j)) (file_names k) (file_name (suc k) ∷ []) ih.1 ∙ ih.0,
          list_any-append (bytes_eq (file_name (suc j))) (file_names k) (file_name (suc k) ∷ []) ∙ there (list_any (bytes_eq (file_name (suc j))) (file_names k)) ih.1,
        )
    step false e below =
        let most : k ≤ j = grind (arith, nat_tests, e) in
        let equal : j ≡ k = omega arith in
        subst (λ (i : ℕ). (number_of (file_names (suc k)) (file_name (suc i)) ≡ i) × (list_any (bytes_eq (file_name (suc i))) (file_names (suc k)) ≡ true)) (sym equal)
        (newest (file_name (suc k)) (file_names k) (new_file (suc k) k (omega arith) h) ∙ length-file_names k, any_newest (file_name (suc k)) (file_names k))

-- ---- a plan of which some clients are known
onto_end : (x : Command) (older : List (List Command)) (newest : List Command) → onto_last x (older ++ newest ∷ []) ≡ older ++ (newest ++ x ∷ []) ∷ []
onto_end x [] newest = refl
onto_end x (a ∷ []) newest = refl
onto_end x (a ∷ b ∷ older) newest = ap (λ (t : List (List Command)). a ∷ t) (onto_end x (b ∷ older) newest)

abbrev so_far : List (List ℕ) → List (List ℕ) → List (List ℕ) → List (List Command) → Plan
so_far names ks vs clients = record { shape = record { n = 3; arbiter = false }; files = 8; turns = 4000000; clients = clients; healers = []; faults = []; events = []; go = []; words = record { names = names; keys = ks; values = vs } }

module _ (names ks vs p : List (List ℕ)) (q : List NameId) (ids : path_of names p ≡ q) (same : with_names names p ≡ names) (older : List (List Command)) (s : List Command) where
  with_read : (at len : ℕ) → with_line (said.Command p (action.Read at len)) (so_far names ks vs (older ++ s ∷ [])) ≡ so_far names ks vs (older ++ (s ++ Read q at len ∷ []) ∷ [])
  with_read at len = rw (ids, same, onto_end (Read q at len) older s) refl

  with_write : (at : ℕ) (bytes : List ℕ) → with_line (said.Command p (action.Write at bytes)) (so_far names ks vs (older ++ s ∷ [])) ≡ so_far names ks vs (older ++ (s ++ Write q at bytes ∷ []) ∷ [])
  with_write at bytes = rw (ids, same, onto_end (Write q at bytes) older s) refl

  with_set : (key w : List ℕ) (k v : ℕ) (ks' vs' : List (List ℕ)) → number_of ks key ≡ k → number_of vs w ≡ v → with_name ks key ≡ ks' → with_name vs w ≡ vs'
      → with_line (said.Command p (action.SetAttr key w)) (so_far names ks vs (older ++ s ∷ [])) ≡ so_far names ks' vs' (older ++ (s ++ SetAttr q (record { 0 = k }) (record { 0 = v }) ∷ []) ∷ [])
  with_set key w k v ks' vs' a b c d = rw (ids, same, a, b, c, d, onto_end (SetAttr q (record { 0 = k }) (record { 0 = v })) older s) refl

-- ---- one command more
abbrev with_value : Bool → List (List ℕ) → List ℕ → List (List ℕ)
with_value b vs w = if b then vs ++ w ∷ [] else vs

-- the plan with the first k commands of the client after c others
abbrev grown : ℕ → ℕ → ℕ → Plan
grown n c k = so_far (file_names 8) (keys (with_value (has_set n c k) (values n c) (value (c + 1)))) (with_value (has_set n c k) (values n c) (value (c + 1))) (scripts n c ++ script n c (length (values n c)) k ∷ [])

-- a command's line adds the command, and its value where that is new
module _ (vs : List (List ℕ)) (older : List (List Command)) (s : List Command) (i r : ℕ) (new : list_any (bytes_eq (value i)) vs ≡ false) where
  abbrev after : Bool → List Command → Plan
  after b commands = so_far (file_names 8) (keys (with_value b vs (value i))) (with_value b vs (value i)) (older ++ commands ∷ [])

  ids : path_of (file_names 8) (file_name (r / 4 % 8 + 1) ∷ []) ≡ path r
  ids =
      let small : r / 4 % 8 < 8 = omega arith in
      ap (λ (k : ℕ). record { 0 = number_of (file_names 8) (file_name k) } ∷ []) (add-one (r / 4 % 8)) ∙ ap (λ (k : ℕ). record { 0 = k } ∷ []) (placed (r / 4 % 8) 8 small (lit< tt)).0

  same : with_names (file_names 8) (file_name (r / 4 % 8 + 1) ∷ []) ≡ file_names 8
  same =
      let small : r / 4 % 8 < 8 = omega arith in
      ap (λ (k : ℕ). with_name (file_names 8) (file_name k)) (add-one (r / 4 % 8)) ∙ known (file_name (suc (r / 4 % 8))) (file_names 8) (placed (r / 4 % 8) 8 small (lit< tt)).1

  one_more : (b : Bool) → with_line (said_at i r) (after b s) ≡ after (b || sets r) (s ++ command i (length vs) r ∷ [])
  one_more b = by_tests b (sets r) (r % 4 == 1)
    where
      by_tests : (b set read : Bool)
          → with_line (said.Command (file_name (r / 4 % 8 + 1) ∷ []) (if set then action.SetAttr (codes "owner") (value i) else (if read then action.Read (offset r) 1024 else action.Write (offset r) (block i)))) (after b s)
          ≡ after (b || set) (s ++ (if set then SetAttr (path r) (record { 0 = 0 }) (record { 0 = length vs }) else (if read then Read (path r) (offset r) 1024 else Write (path r) (offset r) (block i))) ∷ [])
      by_tests true true read =
          with_set (file_names 8) (keys (vs ++ value i ∷ [])) (vs ++ value i ∷ []) (file_name (r / 4 % 8 + 1) ∷ []) (path r) ids same older s (codes "owner") (value i) 0 (length vs) (keys (vs ++ value i ∷ [])) (vs ++ value i ∷ [])
          (keys-number (vs ++ value i ∷ [])) (newest (value i) vs new) (keys-again vs (value i)) (known (value i) (vs ++ value i ∷ []) (any_newest (value i) vs))
      by_tests false true read =
          with_set (file_names 8) (keys vs) vs (file_name (r / 4 % 8 + 1) ∷ []) (path r) ids same older s (codes "owner") (value i) 0 (length vs) (keys (vs ++ value i ∷ [])) (vs ++ value i ∷ []) (keys-number vs) (missing (value i) vs new) (keys-more vs (value i)) (added (value i) vs new)
      by_tests true false true = with_read (file_names 8) (keys (vs ++ value i ∷ [])) (vs ++ value i ∷ []) (file_name (r / 4 % 8 + 1) ∷ []) (path r) ids same older s (offset r) 1024
      by_tests false false true = with_read (file_names 8) (keys vs) vs (file_name (r / 4 % 8 + 1) ∷ []) (path r) ids same older s (offset r) 1024
      by_tests true false false = with_write (file_names 8) (keys (vs ++ value i ∷ [])) (vs ++ value i ∷ []) (file_name (r / 4 % 8 + 1) ∷ []) (path r) ids same older s (offset r) (block i)
      by_tests false false false = with_write (file_names 8) (keys vs) vs (file_name (r / 4 % 8 + 1) ∷ []) (path r) ids same older s (offset r) (block i)

-- ---- all commands
script-said : (n c k : ℕ) → c < 4 → plan_of (said_clients n c) ≡ so_far (file_names 8) (keys (values n c)) (values n c) (scripts n c) → plan_of (said_script n c k (said.Client (c + 1) ∷ said_clients n c)) ≡ grown n c k
script-said n c zero l e = ap (with_line (said.Client (c + 1))) e
script-said n c (suc k) l e =
    ap (with_line (said_at (c + 1) (lot n c k))) (script-said n c k l e)
    ∙ one_more (values n c) (scripts n c) (script n c (length (values n c)) k) (c + 1) (lot n c k) (new_value n (c + 1) c (omega arith) (omega arith)) (has_set n c k)

clients-said : (n c : ℕ) → c ≤ 4 → plan_of (said_clients n c) ≡ so_far (file_names 8) (keys (values n c)) (values n c) (scripts n c)
clients-said n zero l = refl
clients-said n (suc c) l = script-said n c n (omega arith) (clients-said n c (omega arith))

abbrev with_rest : Plan → Plan
with_rest p = with_line (said.At 400 (Start 2)) (with_line (said.At 50 (Stop 2)) (with_line (said.Round 2) (with_line (said.Round 1) (with_line (said.Round 0) (with_line (said.Healer 1) p)))))

pub generated-said : GeneratedIsSaid
unfolding generated
generated-said n = sym (ap with_rest (clients-said n 4 (lit≤ tt)))

-- The plan of a generated load has more turns than its bound.
use Rattle.std.proofs.Common.{◌≡◌, ◌≢◌, ◌⊎◌, ◌+◌, ◌*◌, ◌≤◌, ◌%◌, ◌==◌, ℕ, zero, suc, Bool, true, false, List, [], ◌∷◌, ◌++◌, length, inl, inr, refl, subst, arith, ◌∙◌}
use Rattle.std.specs.Prelude.{map, if◌then◌else◌}
use Rattle.afr_law_bound.specs.Ends.Cost.{cost_of, makes, total}
use Rattle.afr_law_bound.specs.Ends.Left.{bound_of, itself}
use Rattle.afr_cli.specs.Statuses.{IsShort}
use Rattle.afr_gen.specs.Generated.{block, command, generated, lot, offset, path, plan_with, script, sets, values}
use Rattle.afr_plan.specs.declared.command.Command.{Command}
use Rattle.afr_plan.specs.declared.command.Command.TheVariants.{Read, SetAttr, Write}
use Rattle.afr_plan.specs.declared.plan.Plan.{Plan}

total-append : {A : Type 0} (f : A → ℕ) (xs ys : List A) → total f (xs ++ ys) ≡ total f xs + total f ys
total-append f [] ys = omega arith
total-append f (x ∷ xs) ys = (let more = total-append f xs ys in omega (arith, more))

-- the sum of a cost over commands
costs : (Command → ℕ) → List Command → ℕ
costs f cs = total itself (map f cs)

costs-append : (f : Command → ℕ) (xs ys : List Command) → costs f (xs ++ ys) ≡ costs f xs + costs f ys
unfolding costs
costs-append f [] ys = omega arith
costs-append f (x ∷ xs) ys = (let more = costs-append f xs ys in omega (arith, more))

-- each command has one name in its path
one_cost : (i v r : ℕ) → cost_of 3 (command i v r) ≡ 44
one_cost i v r = go (sets r) (r % 4 == 1)
  where
    go : (s t : Bool) → cost_of 3 (if s then SetAttr (path r) (record { 0 = 0 }) (record { 0 = v }) else (if t then Read (path r) (offset r) 1024 else Write (path r) (offset r) (block i))) ≡ 44
    go true t = refl
    go false true = refl
    go false false = refl

none_made : (i v r : ℕ) → makes (command i v r) ≡ 0
none_made i v r = go (sets r) (r % 4 == 1)
  where
    go : (s t : Bool) → makes (if s then SetAttr (path r) (record { 0 = 0 }) (record { 0 = v }) else (if t then Read (path r) (offset r) 1024 else Write (path r) (offset r) (block i))) ≡ 0
    go true t = refl
    go false true = refl
    go false false = refl

script_cost : (n c v k : ℕ) → costs (cost_of 3) (script n c v k) ≡ 44 * k
unfolding costs
script_cost n c v zero = refl
script_cost n c v (suc k) =
    let more = script_cost n c v k in
    let last = one_cost (c + 1) v (lot n c k) in
    costs-append (cost_of 3) (script n c v k) (command (c + 1) v (lot n c k) ∷ []) ∙ omega (arith, more, last)

script_makes : (n c v k : ℕ) → total makes (script n c v k) ≡ 0
script_makes n c v zero = refl
script_makes n c v (suc k) =
    let more = script_makes n c v k in
    let last = none_made (c + 1) v (lot n c k) in
    total-append makes (script n c v k) (command (c + 1) v (lot n c k) ∷ []) ∙ omega (arith, more, last)

-- four clients with so many commands, each of that cost and making nothing
record IsLoad (n : ℕ) (cs : List Command) : Type 0 where
  cost : costs (cost_of 3) cs ≡ 44 * n
  made : total makes cs ≡ 0

load_is : (n c v : ℕ) → IsLoad n (script n c v n)
load_is n c v = record { cost = script_cost n c v n; made = script_makes n c v n }

sums : (a b c d i j k l n : ℕ) → a ≡ 44 * n → b ≡ 44 * n → c ≡ 44 * n → d ≡ 44 * n → i ≡ 0 → j ≡ 0 → k ≡ 0 → l ≡ 0 → n ≤ 2000
    → 2 + 0 + 5 * ((a + (b + (c + (d + (((2 + (1 + 8 + (i + (j + (k + (l + 0))))) * 174) + ((2 + (1 + 8 + (i + (j + (k + (l + 0))))) * 174) + ((2 + (1 + 8 + (i + (j + (k + (l + 0))))) * 174) + 0))) + 0))))) + 0) ≤ 4000000
sums a b c d i j k l n ca cb cc_ cd mi mj mk ml few = omega arith

four : (a b c d : List Command) (vs : List (List ℕ)) (n : ℕ) → IsLoad n a → IsLoad n b → IsLoad n c → IsLoad n d → n ≤ 2000 → bound_of (plan_with (a ∷ b ∷ c ∷ d ∷ []) vs) ≤ 4000000
unfolding costs
four a b c d vs n la lb lc ld few =
    sums (costs (cost_of 3) a) (costs (cost_of 3) b) (costs (cost_of 3) c) (costs (cost_of 3) d) (total makes a) (total makes b) (total makes c) (total makes d) n la.cost lb.cost lc.cost ld.cost la.made lb.made lc.made ld.made few

pub load_bound : (n : ℕ) → n ≤ 2000 → bound_of (generated n) ≤ 4000000
unfolding generated
load_bound n few =
    four (script n 0 (length (values n 0)) n) (script n 1 (length (values n 1)) n) (script n 2 (length (values n 2)) n) (script n 3 (length (values n 3)) n) (values n 4) n
    (load_is n 0 (length (values n 0))) (load_is n 1 (length (values n 1))) (load_is n 2 (length (values n 2))) (load_is n 3 (length (values n 3))) few

load_turns : (n : ℕ) → (generated n).turns ≡ 4000000
unfolding generated
load_turns n = refl

-- so it isn't short
pub load_long : (n : ℕ) → n ≤ 2000 → IsShort (generated n) → ⊥
load_long n few short = (let bound = load_bound n few in let turns = load_turns n in omega (arith, bound, turns, short))

-- so a run of it doesn't end with a log that is full too early
pub load_few : (n r : ℕ) (p : Plan) → n ≤ 2000 → (r ≡ 7 → IsShort p) → (r ≢ 6 → p ≡ generated n) → (r ≡ 0) ⊎ (r ≡ 5) ⊎ (r ≡ 6) ⊎ (r ≡ 7) → (r ≡ 0) ⊎ (r ≡ 5) ⊎ (r ≡ 6)
load_few n r p few short ran (inl e) = inl e
load_few n r p few short ran (inr (inl e)) = inr (inl e)
load_few n r p few short ran (inr (inr (inl e))) = inr (inr e)
load_few n r p few short ran (inr (inr (inr e))) = absurd (load_long n few (subst IsShort (ran (λ six. omega (arith, six, e))) (short e)))

pub not_full : (r : ℕ) → (r ≡ 0) ⊎ (r ≡ 5) ⊎ (r ≡ 6) → r ≡ 7 → ⊥
not_full r (inl e) seven = omega (arith, e, seven)
not_full r (inr (inl e)) seven = omega (arith, e, seven)
not_full r (inr (inr e)) seven = omega (arith, e, seven)

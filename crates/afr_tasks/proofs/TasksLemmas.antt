-- What three passes say where they are put together.
use Rattle.std.proofs.Common.{◌≡◌, ◌∙◌, ℕ, suc, ◌+◌, ◌-◌, ◌<◌, ◌≤◌, ◌==◌, ◌&&◌, Bool, true, false, List, [], ◌∷◌, ◌++◌, if◌then◌else◌, length, refl, sym, ap, arith, subst}
use Rattle.std.specs.Prelude.{Contains}
use Rattle.std.proofs.lemmas.Bool.{eqb-true}
use Rattle.std.proofs.lemmas.Bool.Decides.{nat_tests}
use Rattle.std.proofs.lemmas.List.{append-nil}
use Rattle.afr_base.specs.Kinds.{same_what}
use Rattle.afr_base.specs.declared.ids.Gfid.{Gfid}
use Rattle.afr_base.specs.declared.ids.What.{What}
use Rattle.afr_base.specs.declared.ids.What.TheVariants.{Dir, File}
use Rattle.afr_tasks.proofs.Balances.{weigh_append}
use Rattle.afr_tasks.specs.Balance.{hand, weigh}
use Rattle.afr_tasks.specs.declared.rule.Hand.{Hand}
use Rattle.afr_tasks.specs.declared.rule.Task.{Task}
use Rattle.afr_tasks.specs.declared.rule.Task.TheVariants.{Heal, Stop}

pub parts_of : {v : Hand} {n : ℕ} {put taken : List Task} → v ≡ hand n put taken → v.parts ≡ n
parts_of e = ap (λ (v : Hand). v.parts) e

abbrev both : Hand → Hand → Hand
both v w = hand (v.parts + w.parts) (v.put ++ w.put) (v.taken ++ w.taken)

pub five_parts : (c v w c2 c3 : Hand) → c ≡ hand 3 c.put [] → v ≡ hand 1 [] v.taken → w ≡ hand 1 [] w.taken → c2 ≡ both c v → c3 ≡ both c2 w → c3.parts ≡ 5
five_parts c v w c2 c3 e f g m n = omega (arith, parts_of e, parts_of f, parts_of g, ap (λ (x : Hand). x.parts) m, ap (λ (x : Hand). x.parts) n)

-- nothing weighs nothing
none_of : (items : List Task) → length items ≡ 0 → items ≡ []
none_of [] e = refl
none_of (x ∷ xs) e = absurd (omega (arith, e))

weigh_ones : (xs : List Task) → weigh (λ x. 1) xs ≡ length xs
weigh_ones [] = refl
weigh_ones (x ∷ xs) = omega (arith, weigh_ones xs)

-- all that was put was taken by the two workers, where as many were taken as were put
pub all_taken : (c v w c2 c3 : Hand) → c ≡ hand 3 c.put [] → v ≡ hand 1 [] v.taken → w ≡ hand 1 [] w.taken → c2 ≡ both c v → c3 ≡ both c2 w
    → (items : List Task) → ((h : Task → ℕ) → weigh h c3.put ≡ weigh h c3.taken + weigh h items) → length c.put ≡ length v.taken + length w.taken
    → (h : Task → ℕ) → weigh h c.put ≡ weigh h v.taken + weigh h w.taken
all_taken c v w c2 c3 e f g m n items learned count h = omega (arith, known h, ap (weigh h) (none_of items none))
  where
    put_is : (h : Task → ℕ) → weigh h c3.put ≡ weigh h c.put
    put_is h =
        omega (
          arith,
          ap (λ (x : Hand). weigh h x.put) n,
          ap (λ (x : Hand). weigh h x.put) m,
          ap (λ (x : Hand). weigh h x.put) f,
          ap (λ (x : Hand). weigh h x.put) g,
          weigh_append h c2.put w.put,
          weigh_append h c.put v.put,
        )

    taken_is : (h : Task → ℕ) → weigh h c3.taken ≡ weigh h v.taken + weigh h w.taken
    taken_is h =
        omega (
          arith,
          ap (λ (x : Hand). weigh h x.taken) n,
          ap (λ (x : Hand). weigh h x.taken) m,
          ap (λ (x : Hand). weigh h x.taken) e,
          weigh_append h c2.taken w.taken,
          weigh_append h c.taken v.taken,
        )

    known : (h : Task → ℕ) → weigh h c.put ≡ (weigh h v.taken + weigh h w.taken) + weigh h items
    known h = omega (arith, learned h, put_is h, taken_is h)

    none : length items ≡ 0
    none = omega (arith, known (λ x. 1), count, weigh_ones items, weigh_ones c.put, weigh_ones v.taken, weigh_ones w.taken)

-- ---- for a moment the crawler's pass has a worker's part
both_are : (c v : Hand) → c ≡ hand 3 c.put [] → v ≡ hand 1 [] v.taken → both c v ≡ hand 4 c.put v.taken
both_are c v e f =
    let n : c.parts + v.parts ≡ 4 = omega (arith, parts_of e, parts_of f) in
    ap (λ (n : ℕ). hand n (c.put ++ v.put) (c.taken ++ v.taken)) n
    ∙ ap (λ (v : Hand). hand 4 (c.put ++ v.put) (c.taken ++ v.taken)) f
    ∙ ap (λ (put : List Task). hand 4 put (c.taken ++ v.taken)) (append-nil c.put)
    ∙ ap (λ (x : Hand). hand 4 c.put (x.taken ++ v.taken)) e

pub whole_is : (c one v moved two : Hand) → c ≡ hand 3 c.put [] → v ≡ hand 1 [] v.taken → one ≡ c → moved ≡ v → two ≡ both one moved → two ≡ hand 4 c.put v.taken
whole_is c one v moved two e f same here m = m ∙ ap (λ (x : Hand). both x moved) same ∙ ap (λ (x : Hand). both c x) here ∙ both_are c v e f

-- and then both passes are as they were
pub crawler_again : (c v two three four : Hand) → c ≡ hand 3 c.put [] → two ≡ hand 4 c.put v.taken → three ≡ two → four ≡ hand (three.parts - 1) three.put [] → four ≡ c
crawler_again c v two three four e is same n = n ∙ ap (λ (x : Hand). hand (x.parts - 1) x.put []) (same ∙ is) ∙ sym e

pub worker_again : (c v two three w : Hand) → v ≡ hand 1 [] v.taken → two ≡ hand 4 c.put v.taken → three ≡ two → w ≡ hand 1 [] three.taken → w ≡ v
worker_again c v two three w f is same n = n ∙ ap (λ (x : Hand). hand 1 [] x.taken) (same ∙ is) ∙ sym f

pub known_of : (c v two : Hand) → two ≡ hand 4 c.put v.taken → ((h : Task → ℕ) → weigh h two.taken ≤ weigh h two.put) → (h : Task → ℕ) → weigh h v.taken ≤ weigh h c.put
known_of c v two is known = subst (λ (x : Hand). (h : Task → ℕ) → weigh h x.taken ≤ weigh h x.put) is known

-- one task more of a worker
pub taken_one : (v w : Hand) (task : Task) → v ≡ hand 1 [] v.taken → w ≡ hand v.parts v.put (v.taken ++ task ∷ []) → w ≡ hand 1 [] (v.taken ++ task ∷ [])
taken_one v w task f n = n ∙ ap (λ (x : Hand). hand x.parts x.put (v.taken ++ task ∷ [])) f

pub takes_only : (w : Hand) (taken : List Task) → w ≡ hand 1 [] taken → w ≡ hand 1 [] w.taken
takes_only w taken e = e ∙ ap (λ (x : Hand). hand 1 [] x.taken) (sym e)

-- ---- a task that was taken was put

abbrev same_task : Task → Task → Bool
same_task (Heal g what) (Heal k other) = (g.0 == k.0) && same_what what other
same_task Stop Stop = true
same_task task other = false

what_told : (what other : What) → same_what what other ≡ true → what ≡ other
what_told File File e = refl
what_told Dir Dir e = refl
what_told File Dir e = absurd (cc e)
what_told Dir File e = absurd (cc e)

what_itself : (what : What) → same_what what what ≡ true
what_itself File = refl
what_itself Dir = refl

same_gfid : (g k : Gfid) → (g.0 == k.0) ≡ true → g ≡ k
same_gfid g k e = ap (λ (n : ℕ). record { 0 = n }) (eqb-true g.0 k.0 e)

task_told : (task other : Task) → same_task task other ≡ true → task ≡ other
task_told (Heal g what) (Heal k other) e = by (g.0 == k.0) (same_what what other) refl refl e
  where
    by : (number kind : Bool) → (g.0 == k.0) ≡ number → same_what what other ≡ kind → (number && kind) ≡ true → Heal g what ≡ Heal k other
    by true true e f both = ap (λ (x : Gfid). Heal x what) (same_gfid g k e) ∙ ap (λ (x : What). Heal k x) (what_told what other f)
    by true false e f both = absurd (cc both)
    by false kind e f both = absurd (cc both)
task_told Stop Stop e = refl
task_told (Heal g what) Stop e = absurd (cc e)
task_told Stop (Heal k other) e = absurd (cc e)

task_itself : (task : Task) → same_task task task ≡ true
task_itself (Heal g what) = (let number : (g.0 == g.0) ≡ true = grind (arith, nat_tests) in rw number (what_itself what))
task_itself Stop = refl

abbrev is_same : Task → Task → ℕ
is_same task other = if same_task task other then 1 else 0

found : (task : Task) (tasks : List Task) → 0 < weigh (is_same task) tasks → Contains tasks task
found task [] some = absurd (omega (arith, some))
found task (x ∷ tasks) some = by (same_task task x) refl some (found task tasks)
  where
    by : (same : Bool) → same_task task x ≡ same → 0 < (if same then 1 else 0) + weigh (is_same task) tasks → (0 < weigh (is_same task) tasks → Contains tasks task) → Contains (x ∷ tasks) task
    by true e some later = (0, omega arith, sym (task_told task x e))
    by false e some later = let c = later (omega (arith, some)) in (suc c.0, omega (arith, c.1), c.2)

was_put : (task : Task) (put taken : List Task) → ((h : Task → ℕ) → weigh h (taken ++ task ∷ []) ≤ weigh h put) → Contains put task
was_put task put taken known =
    let own : is_same task task ≡ 1 = ap (λ (same : Bool). if same then 1 else 0) (task_itself task) in
    found task put (omega (arith, known (is_same task), weigh_append (is_same task) taken (task ∷ []), own))

pub put_before : (c v w : Hand) (task : Task) → w ≡ hand v.parts v.put (v.taken ++ task ∷ []) → ((h : Task → ℕ) → weigh h w.taken ≤ weigh h c.put) → Contains c.put task
put_before c v w task n known = was_put task c.put v.taken (subst (λ (x : Hand). (h : Task → ℕ) → weigh h x.taken ≤ weigh h c.put) n known)

-- The bricks that a step has not asked: it is over where none is left, and it is the lowest one's turn.
use Rattle.std.proofs.Common.{◌≡◌, ℕ, zero, suc, ◌<◌, ◌≤◌, ◌||◌, ◌&&◌, not, Bool, true, false, if◌then◌else◌, List, [], Option, None, Some, nat_le, refl, sym, ap, arith, ◌∙◌}
use Rattle.std.proofs.lemmas.Bool.Decides.{nat_tests}
use Rattle.afr_base.specs.Bricks.{member, minus}
use Rattle.afr_base.specs.SetLemmas.{member_minus}
use Rattle.afr_base.specs.declared.ids.Kind.{Kind}
use Rattle.afr_model_moves.specs.Keeps.{keeps_in}
use Rattle.afr_model_moves.specs.Register.{Exact, Step, asked_in, over, rank, same_step}
use Rattle.afr_model_moves.specs.Sets.{any, empty}
use Rattle.afr_model_moves.specs.Steps.{set_of, turn}
use Rattle.afr_discipline.specs.Left.{AreLeft}
use Rattle.afr_discipline.specs.Notes.{asked_at}
use Rattle.afr_discipline.specs.Stands.{seen_as, step_of}
use Rattle.afr_discipline.specs.declared.register.Register.{Register}
use Rattle.afr_discipline.specs.declared.register.Step.{Step as TheStep}
use Rattle.afr_discipline.specs.Turns.{find, later, turn_of}

-- these are the bricks of a set that were not asked
abbrev Waiting : (ℕ → Bool) → (ℕ → Bool) → (ℕ → Bool) → Type 0
Waiting set asked left = (x : ℕ) → x < 5 → left x ≡ (set x && not (asked x))

pub turned_round : (a b : Bool) → (not a && b) ≡ (b && not a)
turned_round true true = refl
turned_round true false = refl
turned_round false true = refl
turned_round false false = refl

-- one brick more: it is out of the set or asked exactly where it is not left
one_more : (a b y : Bool) → ((not a || b) && not y) ≡ not ((a && not b) || y)
one_more true true y = refl
one_more true false y = refl
one_more false b y = refl

-- all were asked where none is left
over_left : (n : ℕ) → n ≤ 5 → (set asked left : ℕ → Bool) → Waiting set asked left → over n set asked ≡ not (any n left)
over_left zero few set asked left are = refl
over_left (suc n) few set asked left are =
    ap (λ (o : Bool). (not (set n) || asked n) && o) (over_left n (omega arith) set asked left are)
    ∙ one_more (set n) (asked n) (any n left)
    ∙ ap (λ (l : Bool). not (l || any n left)) (sym (are n (omega arith)))

-- where one was found below, the next number isn't
none_later : (found : Option ℕ) (n : ℕ) (here : Bool) → later found n here ≡ None → found ≡ None
none_later None n here h = refl
none_later (Some b) n here h = absurd (cc)

none_here : (n : ℕ) (here : Bool) → later None n here ≡ None → here ≡ false
none_here n true h = absurd (cc)
none_here n false h = refl

-- where none was found, none passes
none_passes : (n : ℕ) (p : ℕ → Bool) → find n p ≡ None → any n p ≡ false
none_passes zero p h = refl
none_passes (suc n) p h =
    let below : find n p ≡ None = none_later (find n p) n (p n) h in
    let here : p n ≡ false = none_here n (p n) (sym (ap (λ (found : Option ℕ). later found n (p n)) below) ∙ h) in
    ap (λ (e : Bool). e || any n p) here ∙ none_passes n p below

-- a test that never passes finds none
found_never : (n : ℕ) → find n (λ b. false) ≡ None
found_never zero = refl
found_never (suc n) = ap (λ (found : Option ℕ). later found n false) (found_never n)

-- the lowest that is left is the lowest of the set that was not asked while all below it were
and_true : (a b o : Bool) → o ≡ true → (a && not b && o) ≡ (a && not b)
and_true true true o h = refl
and_true true false o h = h
and_true false b o h = refl

found_left : (n : ℕ) → n ≤ 5 → (set asked left : ℕ → Bool) → Waiting set asked left → find n (λ b. true && set b && not (asked b) && over b set asked) ≡ find n left
found_left zero few set asked left are = refl
found_left (suc n) few set asked left are =
    ap (λ (found : Option ℕ). later found n (set n && not (asked n) && over n set asked)) (found_left n (omega arith) set asked left are)
    ∙ at (find n left) refl
  where
    at : (found : Option ℕ) → find n left ≡ found → later found n (set n && not (asked n) && over n set asked) ≡ later found n (left n)
    at (Some b) h = refl
    at None h =
        let past : over n set asked ≡ true = over_left n (omega arith) set asked left are ∙ ap not (none_passes n left h) in
        ap (λ (here : Bool). later None n here) (and_true (set n) (asked n) (over n set asked) past ∙ sym (are n (omega arith)))

-- so for sets
pub all_asked : (m : ℕ) → m ≤ 5 → (set asked left : List ℕ) → left ≡ minus set asked → not (any m (member left)) ≡ over m (member set) (member asked)
all_asked m few set asked left is =
    sym (over_left m few (member set) (member asked) (member left) (λ x l. ap (λ (t : List ℕ). member t x) is ∙ member_minus set asked x ∙ turned_round (member asked x) (member set x)))

-- each brick of the step below a number was asked exactly where none of them is left
pub over_is_none_left : (m : ℕ) → m ≤ 5 → (p : Register) (s : ℕ) (step : TheStep) (left : List ℕ) → AreLeft p s step left
    → over m (set_of p.shape.n (keeps_in p.shape) (seen_as p) s (step_of step)) (asked_in (seen_as p) (step_of step)) ≡ not (any m (member left))
over_is_none_left m few p s step left are = over_left m few (set_of p.shape.n (keeps_in p.shape) (seen_as p) s (step_of step)) (asked_in (seen_as p) (step_of step)) (member left) are

-- a step that is behind the actor is nobody's turn
pub no_turn : (n : ℕ) (keeps : ℕ → Kind → Bool) (r : Exact) (s : ℕ) (step : Step) → nat_le (rank r.step) (rank step) ≡ false → turn_of n keeps r s step ≡ None
no_turn n keeps r s step behind =
    ap (λ (e : Bool). find n (λ b. e && set_of n keeps r s step b && not (asked_in r step b) && over b (set_of n keeps r s step) (asked_in r step))) behind
    ∙ found_never n

-- else it is that of the lowest brick that is left
pub turn_of_lowest : (p : Register) → p.shape.n ≤ 5 → (s : ℕ) (step : TheStep) (left : List ℕ) → AreLeft p s step left → nat_le (rank (seen_as p).step) (rank (step_of step)) ≡ true
    → turn_of p.shape.n (keeps_in p.shape) (seen_as p) s (step_of step) ≡ find p.shape.n (member left)
turn_of_lowest p few s step left are ahead =
    let set : ℕ → Bool = set_of p.shape.n (keeps_in p.shape) (seen_as p) s (step_of step) in
    let asked : ℕ → Bool = asked_in (seen_as p) (step_of step) in
    ap (λ (e : Bool). find p.shape.n (λ b. e && set b && not (asked b) && over b set asked)) ahead
    ∙ found_left p.shape.n few set asked (member left) are

-- the bricks that were asked in a step
asked_is : (p : Register) (step : TheStep) (x : ℕ) → member (asked_at p step) x ≡ asked_in (seen_as p) (step_of step) x
asked_is p step x = go (same_step (step_of p.step) (step_of step))
  where
    go : (e : Bool) → member (if e then p.asked else []) x ≡ (if e then member p.asked else empty) x
    go true = refl
    go false = refl

-- where the step's bricks are a set, those of it that were not asked are left
pub left_of_set : (p : Register) (s : ℕ) (step : TheStep) (set : List ℕ) → ((x : ℕ) → x < 5 → member set x ≡ set_of p.shape.n (keeps_in p.shape) (seen_as p) s (step_of step) x)
    → AreLeft p s step (minus set (asked_at p step))
left_of_set p s step set is x few =
    member_minus set (asked_at p step) x
    ∙ turned_round (member (asked_at p step) x) (member set x)
    ∙ ap (λ (there : Bool). there && not (member (asked_at p step) x)) (is x few)
    ∙ ap (λ (asked : Bool). set_of p.shape.n (keeps_in p.shape) (seen_as p) s (step_of step) x && not asked) (asked_is p step x)

-- the same, where it is known which step it is
pub left_in_step : (p : Register) (s : ℕ) (step given : TheStep) → step ≡ given → (set : List ℕ) → ((x : ℕ) → x < 5 → member set x ≡ set_of p.shape.n (keeps_in p.shape) (seen_as p) s (step_of given) x)
    → AreLeft p s step (minus set (asked_at p step))
left_in_step p s step given e set is = left_of_set p s step set (λ x few. is x few ∙ ap (λ (step : TheStep). set_of p.shape.n (keeps_in p.shape) (seen_as p) s (step_of step) x) (sym e))

-- the one is above the other, or not
pub is_behind : (a b x y : ℕ) → x ≡ a → y ≡ b → x < y → nat_le b a ≡ false
is_behind a b x y here there h = grind (arith, nat_tests, here, there, h)

pub is_ahead : (a b x y : ℕ) → x ≡ a → y ≡ b → y ≤ x → nat_le b a ≡ true
is_ahead a b x y here there h = grind (arith, nat_tests, here, there, h)

-- in a step that is behind the actor it is nobody's turn
pub not_its_turn : (n : ℕ) (keeps : ℕ → Kind → Bool) (r : Exact) (s : ℕ) (step : Step) (b : ℕ) → nat_le (rank r.step) (rank step) ≡ false → turn n keeps r s step b ≡ false
not_its_turn n keeps r s step b behind = ap (λ (e : Bool). e && set_of n keeps r s step b && not (asked_in r step b) && over b (set_of n keeps r s step) (asked_in r step)) behind

together : (a b c : Bool) → (a && b && c) ≡ ((a && b) && c)
together true b c = refl
together false b c = refl

-- else it is the turn of a brick that is left where none below it is
pub its_turn : (p : Register) (s : ℕ) (step : TheStep) (b : ℕ) → b < 5 → (left : List ℕ) → AreLeft p s step left → nat_le (rank (seen_as p).step) (rank (step_of step)) ≡ true
    → turn p.shape.n (keeps_in p.shape) (seen_as p) s (step_of step) b ≡ (member left b && not (any b (member left)))
its_turn p s step b few left are ahead =
    let set : ℕ → Bool = set_of p.shape.n (keeps_in p.shape) (seen_as p) s (step_of step) in
    let asked : ℕ → Bool = asked_in (seen_as p) (step_of step) in
    ap (λ (e : Bool). e && set b && not (asked b) && over b set asked) ahead
    ∙ together (set b) (not (asked b)) (over b set asked)
    ∙ ap (λ (there : Bool). there && over b set asked) (sym (are b few))
    ∙ ap (λ (o : Bool). member left b && o) (over_left b (omega arith) set asked (member left) are)

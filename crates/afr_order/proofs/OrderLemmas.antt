-- The turns of orders and of rows of actors, one after the other.
use Rattle.std.proofs.Common.{◌≡◌, ℕ, zero, suc, ◌+◌, Some, List, [], ◌∷◌, ◌++◌, refl, sym, ◌∙◌, ap, arith, append_assoc, add-one, add-zero, zero-add, suc-add, ◌≤◌, ◌-◌, true, length, replicate, take, drop}
use Rattle.std.specs.Prelude.{slice_get}
use Rattle.std.specs.List.{range_with_len}
use Rattle.std.proofs.lemmas.List.{append-nil, replicate-append-replicate, take-append-drop}
use Rattle.afr_lines.specs.declared.line.Line.{Line}
use Rattle.afr_plan.specs.declared.plan.Plan.{Plan}
use Rattle.afr_plan.specs.declared.schedule.Go.{Go}
use Rattle.afr_model.specs.Ordered.{IsOrdered, actors_of, ordered_turns, passes}
use Rattle.afr_model.specs.Ordered.Writes.{Nothing}
use Rattle.afr_volume.specs.State.{State}
use Rattle.afr_model.specs.Actors.{is_done}
use Rattle.afr_volume.specs.Going.{Goes, Takes, TakesFront, TakesPasses}
use Rattle.afr_volume.proofs.GoingLemmas.{front_more, front_then, takes_then, takes_passes}

pub range_suc : (a n j : ℕ) → a + n ≡ j → range_with_len a (suc n) ≡ range_with_len a n ++ j ∷ []
range_suc a zero j e = let f : a ≡ j = omega (arith, e) in ap (λ (x : ℕ). x ∷ []) f
range_suc a (suc n) j e = ap (λ l. a ∷ l) (range_suc (a + 1) n j (omega (arith, e)))

pub range_more : (a n : ℕ) → range_with_len a (n + 1) ≡ range_with_len a n ++ (a + n) ∷ []
range_more a n = rw add-one (range_suc a n (a + n) refl)

pub replicate_more : (n a : ℕ) → replicate (n + 1) a ≡ replicate n a ++ a ∷ []
replicate_more n a = sym (replicate-append-replicate n 1 a)

pub ordered_turns-append : (xs ys : List Go) → ordered_turns (xs ++ ys) ≡ ordered_turns xs ++ ordered_turns ys
ordered_turns-append [] ys = refl
ordered_turns-append (x ∷ xs) ys = ap (λ l. replicate x.count x.actor.0 ++ l) (ordered_turns-append xs ys) ∙ sym (append_assoc (replicate x.count x.actor.0) (ordered_turns xs) (ordered_turns ys))

orders_suc : (orders : List Go) (i : ℕ) (go : Go) → slice_get orders i ≡ Some go → ordered_turns (take (suc i) orders) ≡ ordered_turns (take i orders) ++ replicate go.count go.actor.0
orders_suc [] i go h = cc
orders_suc (x ∷ more) zero go h = let e : x ≡ go = cc in rw e (append-nil (replicate go.count go.actor.0))
orders_suc (x ∷ more) (suc i) go h = ap (λ l. replicate x.count x.actor.0 ++ l) (orders_suc more i go h) ∙ sym (append_assoc (replicate x.count x.actor.0) (ordered_turns (take i more)) (replicate go.count go.actor.0))

pub orders_more : (orders : List Go) (i : ℕ) (go : Go) → slice_get orders i ≡ Some go → ordered_turns (take (i + 1) orders) ≡ ordered_turns (take i orders) ++ replicate go.count go.actor.0
orders_more orders i go h = rw add-one (orders_suc orders i go h)

pub range_split : (a n m : ℕ) → range_with_len a (n + m) ≡ range_with_len a n ++ range_with_len (a + n) m
range_split a zero m = rw (zero-add, add-zero) refl
range_split a (suc n) m = rw suc-add (ap (λ l. a ∷ l) (range_split (a + 1) n m ∙ ap (λ x. range_with_len (a + 1) n ++ range_with_len x m) (omega arith)))

pub front_of_orders : (p : Plan) (old new : List Line) (orders : List Go) (i : ℕ) → TakesFront p (ordered_turns (take i orders)) old new → TakesFront p (ordered_turns orders) old new
front_of_orders p old new orders i t =
    let e : ordered_turns (take i orders) ++ ordered_turns (drop i orders) ≡ ordered_turns orders = sym (ordered_turns-append (take i orders) (drop i orders)) ∙ ap ordered_turns (take-append-drop i orders) in
    rw e at (front_more p old new (ordered_turns (take i orders)) (ordered_turns (drop i orders)) t)

pub front_of_range : (p : Plan) (old new : List Line) (a i n : ℕ) → i ≤ n → TakesFront p (range_with_len a i) old new → TakesFront p (range_with_len a n) old new
front_of_range p old new a i n h t =
    let e : range_with_len a i ++ range_with_len (a + i) (n - i) ≡ range_with_len a n = sym (range_split a i (n - i)) ∙ ap (λ x. range_with_len a x) (omega (arith, h)) in
    rw e at (front_more p old new (range_with_len a i) (range_with_len (a + i) (n - i)) t)

pub front_of_replicate : (p : Plan) (old new : List Line) (a i n : ℕ) → i ≤ n → TakesFront p (replicate i a) old new → TakesFront p (replicate n a) old new
front_of_replicate p old new a i n h t =
    let e : replicate i a ++ replicate (n - i) a ≡ replicate n a = replicate-append-replicate i (n - i) a ∙ ap (λ x. replicate x a) (omega (arith, h)) in
    rw e at (front_more p old new (replicate i a) (replicate (n - i) a) t)

-- where some of an actor's turns are taken and it is done, all of them are
pub takes_rest : (a b c : State) (x i n : ℕ) → Goes a b → Takes a.plan (replicate i x) a.log b.log → Goes b c → length c.log ≤ length b.log → is_done c.plan x c.log ≡ true → i ≤ n → Takes a.plan (replicate n x) a.log c.log
takes_rest a b c x i n g t f l done within =
    let same : c ≡ b = f.same l in
    let d : is_done b.plan x b.log ≡ true = rw same at done in
    let e : replicate i x ++ replicate (n - i) x ≡ replicate n x = replicate-append-replicate i (n - i) x ∙ ap (λ k. replicate k x) (omega (arith, within)) in
    rw same (rw e at (takes_then a b b (replicate i x) (replicate (n - i) x) g t (takes_passes b.plan b.log x (n - i) d)))

pub ordered_of : (p : Plan) (old log : List Line) (rounds : ℕ) → old ≡ [] → TakesFront p (ordered_turns p.go ++ passes rounds (actors_of p)) old log → IsOrdered p log
ordered_of p old log rounds e t = record { turns = t.front; later = t.later; rounds = rounds; stated = t.whole; written = t.taken.written [] (rw e Nothing) }

pub ordered_by_orders : (p : Plan) (old log : List Line) → old ≡ [] → TakesFront p (ordered_turns p.go) old log → IsOrdered p log
ordered_by_orders p old log e t = ordered_of p old log 0 e (front_more p old log (ordered_turns p.go) [] t)

-- after the orders, a front of the passes
pub ordered_by_passes : (a b c : State) → a.log ≡ [] → Goes a b → Takes a.plan (ordered_turns a.plan.go) a.log b.log → TakesPasses b.plan b.log c.log → IsOrdered a.plan c.log
ordered_by_passes a b c e g t (rounds, f) =
    let k : TakesFront b.plan (passes rounds (actors_of a.plan)) b.log c.log = rw (ap actors_of g.plan) at f in
    ordered_of a.plan a.log c.log rounds e (front_then a b c (ordered_turns a.plan.go) (passes rounds (actors_of a.plan)) g t k)

-- after some passes, a front of one more
pub front_of_passes : (a b c : State) (rounds : ℕ) → Goes a b → Takes a.plan (passes rounds (actors_of a.plan)) a.log b.log → TakesFront b.plan (actors_of b.plan) b.log c.log → TakesPasses a.plan a.log c.log
front_of_passes a b c rounds g t f =
    let k : TakesFront b.plan (actors_of a.plan) b.log c.log = rw (ap actors_of g.plan) at f in
    (suc rounds, front_then a b c (passes rounds (actors_of a.plan)) (actors_of a.plan) g t k)

pub takes_pass : (a b c : State) (rounds : ℕ) → Goes a b → Takes a.plan (passes rounds (actors_of a.plan)) a.log b.log → Takes b.plan (actors_of b.plan) b.log c.log → Takes a.plan (passes (suc rounds) (actors_of a.plan)) a.log c.log
takes_pass a b c rounds g t f =
    let k : Takes b.plan (actors_of a.plan) b.log c.log = rw (ap actors_of g.plan) at f in
    takes_then a b c (passes rounds (actors_of a.plan)) (actors_of a.plan) g t k

-- A pass: the clients' row, the healers' row, and the events that are due then.
use Rattle.std.proofs.Common.{◌≡◌, ◌∙◌, Result, Ok, Err, ℕ, zero, suc, ◌+◌, ◌-◌, ◌<◌, ◌≤◌, Bool, true, List, [], ◌∷◌, ◌++◌, inl, inr, length, add-zero, append_assoc, ap, arith, sym}
use Rattle.std.specs.List.{range_with_len}
use Rattle.std.specs.Prelude.{IfOk}
use Rattle.std.proofs.lemmas.Bool.{cases_lt}
use Rattle.std.proofs.lemmas.List.{append-nil}
use Rattle.afr_lines.specs.declared.line.Line.{Line}
use Rattle.afr_model.specs.Actors.{is_done}
use Rattle.afr_model.specs.Ordered.Writes.{PassesOver}
use Rattle.afr_plan.specs.declared.plan.Plan.{Plan}
use Rattle.afr_volume.specs.State.{State}
use Rattle.afr_model.specs.Ordered.{actors_of}
use Rattle.afr_volume.specs.Going.{Ends, Goes, Takes, TakesFront}
use Rattle.afr_volume.proofs.GoingLemmas.{ends_then, front_then, front_whole, goes_nowhere, goes_then, takes_none, takes_then}
use Rattle.afr_order.proofs.OrderLemmas.{range_split}

-- how many clients and healers a plan has
pub record AreCounts (p : Plan) (clients healers : ℕ) : Type 0 where
  pub clients_are : clients ≡ length p.clients
  pub healers_are : healers ≡ length p.healers

-- a row of actors that are done is passed over
pub takes_done : (p : Plan) (log : List Line) (first count : ℕ) → ((k : ℕ) → k < count → is_done p (first + k) log ≡ true) → Takes p (range_with_len first count) log log
takes_done p log first zero done = takes_none p log
takes_done p log first (suc count) done =
    let here : is_done p first log ≡ true = rw add-zero at (done 0 (omega arith)) in
    let rest : Takes p (range_with_len (first + 1) count) log log = takes_done p log (first + 1) count (λ k l. let e : first + 1 + k ≡ first + (k + 1) = omega arith in rw e (done (k + 1) (omega (arith, l)))) in
    record { written = λ before w. rw (append_assoc before (first ∷ []) (range_with_len (first + 1) count)) at (rest.written (before ++ first ∷ []) (PassesOver before log first w here)) }

-- the row of the clients, of which so many are done
row_whole : (done count : ℕ) → done ≤ count → range_with_len 1 done ++ range_with_len (1 + done) (count - done) ≡ range_with_len 1 count
row_whole done count within = sym (range_split 1 done (count - done)) ∙ ap (λ n. range_with_len 1 n) (omega (arith, within))

pub clients_front : (a b : State) (done count : ℕ) → done ≤ count → ((k : ℕ) → k < done → is_done a.plan (1 + k) a.log ≡ true) → TakesFront a.plan (range_with_len (1 + done) (count - done)) a.log b.log
    → TakesFront a.plan (range_with_len 1 count) a.log b.log
clients_front a b done count within are f = rw (row_whole done count within) at (front_then a a b (range_with_len 1 done) (range_with_len (1 + done) (count - done)) (goes_nowhere a) (takes_done a.plan a.log 1 done are) f)

pub clients_end : (a b : State) (done count : ℕ) (on : Bool) → done ≤ count → ((k : ℕ) → k < done → is_done a.plan (1 + k) a.log ≡ true) → Ends (range_with_len (1 + done) (count - done)) a on b
    → Ends (range_with_len 1 count) a on b
clients_end a b done count on within are f = rw (row_whole done count within) at (ends_then a a b (range_with_len 1 done) (range_with_len (1 + done) (count - done)) on (goes_nowhere a) (takes_done a.plan a.log 1 done are) f)

pub clients_may_end : {E : Type 0} (a b : State) (done count : ℕ) (result : Result Bool E) → done ≤ count → ((k : ℕ) → k < done → is_done a.plan (1 + k) a.log ≡ true)
    → IfOk result (λ on. Ends (range_with_len (1 + done) (count - done)) a on b) → IfOk result (λ on. Ends (range_with_len 1 count) a on b)
clients_may_end a b done count (Ok on) within are f = clients_end a b done count on within are f
clients_may_end a b done count (Err e) within are f = f

pub clients_done : (a b : State) (done count : ℕ) → Goes a b → ((k : ℕ) → k < done → is_done a.plan (1 + k) a.log ≡ true) → ((k : ℕ) → k < count - done → is_done b.plan (1 + done + k) b.log ≡ true)
    → (k : ℕ) → k < count → is_done b.plan (1 + k) b.log ≡ true
clients_done a b done count goes are row k l = elim (cases_lt k done) [
  | inl below ↦ goes.stays (1 + k) (are k below)
  | inr above ↦ let e : 1 + done + (k - done) ≡ 1 + k = omega (arith, above) in rw e at (row (k - done) (omega (arith, above, l)))
]

pub rows_front : (a b c : State) (clients healers : ℕ) → AreCounts a.plan clients healers → Goes a b → Takes a.plan (range_with_len 1 clients) a.log b.log → TakesFront b.plan (range_with_len 17 healers) b.log c.log → TakesFront a.plan (actors_of a.plan) a.log c.log
rows_front a b c clients healers n g t f = rw (← n.clients_are, ← n.healers_are) (front_then a b c (range_with_len 1 clients) (range_with_len 17 healers) g t f)

rows_take : (a b c : State) (clients healers : ℕ) → AreCounts a.plan clients healers → Goes a b → Takes a.plan (range_with_len 1 clients) a.log b.log → Takes b.plan (range_with_len 17 healers) b.log c.log → Takes a.plan (actors_of a.plan) a.log c.log
rows_take a b c clients healers n g t f = rw (← n.clients_are, ← n.healers_are) (takes_then a b c (range_with_len 1 clients) (range_with_len 17 healers) g t f)

pub pass_takes : (a b c d : State) (clients healers : ℕ) → AreCounts a.plan clients healers → Goes a b → Goes b c → Takes a.plan (range_with_len 1 clients) a.log b.log → Takes b.plan (range_with_len 17 healers) b.log c.log → Takes c.plan [] c.log d.log → Takes a.plan (actors_of a.plan) a.log d.log
pass_takes a b c d clients healers n g h t f last =
    let whole : Takes a.plan (actors_of a.plan ++ []) a.log d.log = takes_then a c d (actors_of a.plan) [] (goes_then a b c g h) (rows_take a b c clients healers n g t f) last in
    rw append-nil at whole

pub pass_front : (a b c d : State) (clients healers : ℕ) → AreCounts a.plan clients healers → Goes a b → Goes b c → Takes a.plan (range_with_len 1 clients) a.log b.log → Takes b.plan (range_with_len 17 healers) b.log c.log → Takes c.plan [] c.log d.log → TakesFront a.plan (actors_of a.plan) a.log d.log
pass_front a b c d clients healers n g h t f last = front_whole a.plan a.log d.log (actors_of a.plan) (pass_takes a b c d clients healers n g h t f last)

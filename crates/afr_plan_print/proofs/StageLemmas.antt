-- The parts of a plan stand in their order.
use Rattle.std.proofs.Common.{◌≡◌, ℕ, ◌≤◌, List, [], ◌∷◌, refl, arith, Bool, true, false, codes}
use Rattle.afr_plan.specs.Action.{Action, action_word, Write}
use Rattle.afr_plan.specs.Said.{Said, Afr, Volume, Files, Turns, Client, Command, Healer, Round, Faulty, At, Go, End}
use Rattle.afr_plan.specs.Rules.{word_of, is_one_of, words_after, after_command, after_turns, after_round, after_fault, after_event, after_go}
use Rattle.std.proofs.lemmas.Bool.{both_ways}

-- one line may follow another
abbrev pub may : Said → Said → Bool
may newest s = is_one_of (words_after newest) (word_of s)

-- the part of a plan that a line belongs to
abbrev pub stage : Said → ℕ
stage (Client i) = 1
stage (Command path w) = 1
stage (Healer j) = 2
stage (Round brick) = 2
stage (Faulty brick at fault) = 3
stage (At at event) = 4
stage (Go who count) = 5
stage End = 6
stage s = 0

-- ---- where commands may not stand
no_work_turns : (w : Action) → is_one_of after_turns (action_word w) ≡ false
no_work_turns (Write at bytes) = refl
no_work_turns w = refl

no_work_round : (w : Action) → is_one_of after_round (action_word w) ≡ false
no_work_round (Write at bytes) = refl
no_work_round w = refl

no_work_fault : (w : Action) → is_one_of after_fault (action_word w) ≡ false
no_work_fault (Write at bytes) = refl
no_work_fault w = refl

no_work_event : (w : Action) → is_one_of after_event (action_word w) ≡ false
no_work_event (Write at bytes) = refl
no_work_event w = refl

no_work_go : (w : Action) → is_one_of after_go (action_word w) ≡ false
no_work_go (Write at bytes) = refl
no_work_go w = refl

-- ---- what may follow isn't of an earlier part
after_one : (s : Said) → is_one_of after_command (word_of s) ≡ true → 1 ≤ stage s
after_one (Afr v) m = absurd (both_ways _ refl m)
after_one (Volume v shape) m = absurd (both_ways _ refl m)
after_one (Files k) m = absurd (both_ways _ refl m)
after_one (Turns t) m = absurd (both_ways _ refl m)
after_one s m = omega arith

after_two : (s : Said) → is_one_of after_round (word_of s) ≡ true → 2 ≤ stage s
after_two (Afr v) m = absurd (both_ways _ refl m)
after_two (Volume v shape) m = absurd (both_ways _ refl m)
after_two (Files k) m = absurd (both_ways _ refl m)
after_two (Turns t) m = absurd (both_ways _ refl m)
after_two (Client i) m = absurd (both_ways _ refl m)
after_two (Command path w) m = absurd (both_ways _ (no_work_round w) m)
after_two s m = omega arith

after_three : (s : Said) → is_one_of after_fault (word_of s) ≡ true → 3 ≤ stage s
after_three (Faulty brick at fault) m = omega arith
after_three (At at event) m = omega arith
after_three (Go who count) m = omega arith
after_three End m = omega arith
after_three (Command path w) m = absurd (both_ways _ (no_work_fault w) m)
after_three s m = absurd (both_ways _ refl m)

after_four : (s : Said) → is_one_of after_event (word_of s) ≡ true → 4 ≤ stage s
after_four (At at event) m = omega arith
after_four (Go who count) m = omega arith
after_four End m = omega arith
after_four (Command path w) m = absurd (both_ways _ (no_work_event w) m)
after_four s m = absurd (both_ways _ refl m)

after_five : (s : Said) → is_one_of after_go (word_of s) ≡ true → 5 ≤ stage s
after_five (Go who count) m = omega arith
after_five End m = omega arith
after_five (Command path w) m = absurd (both_ways _ (no_work_go w) m)
after_five s m = absurd (both_ways _ refl m)

pub rises : (newest s : Said) → may newest s ≡ true → stage newest ≤ stage s
rises (Client i) s m = after_one s m
rises (Command path w) s m = after_one s m
rises (Healer j) s m = after_two s m
rises (Round brick) s m = after_two s m
rises (Faulty brick at fault) s m = after_three s m
rises (At at event) s m = after_four s m
rises (Go who count) s m = after_five s m
rises End s m = absurd (both_ways _ refl m)
rises newest s m = omega arith

-- a command stands after a client's head or command, and a round after a healer's head or round
work_heads : (w : Action) → (is_one_of (codes "volume" ∷ []) (action_word w) ≡ false) × (is_one_of (codes "files" ∷ []) (action_word w) ≡ false) × (is_one_of (codes "turns" ∷ []) (action_word w) ≡ false)
work_heads (Write at bytes) = (refl, refl, refl)
work_heads w = (refl, refl, refl)

pub in_script : (newest : Said) (path : List (List ℕ)) (w : Action) → may newest (Command path w) ≡ true → stage newest ≡ 1
in_script (Client i) path w m = refl
in_script (Command p v) path w m = refl
in_script (Afr v) path w m = absurd (both_ways _ (work_heads w).0 m)
in_script (Volume v shape) path w m = absurd (both_ways _ (work_heads w).1 m)
in_script (Files k) path w m = absurd (both_ways _ (work_heads w).2 m)
in_script (Turns t) path w m = absurd (both_ways _ (no_work_turns w) m)
in_script (Healer j) path w m = absurd (both_ways _ (no_work_round w) m)
in_script (Round brick) path w m = absurd (both_ways _ (no_work_round w) m)
in_script (Faulty brick at fault) path w m = absurd (both_ways _ (no_work_fault w) m)
in_script (At at event) path w m = absurd (both_ways _ (no_work_event w) m)
in_script (Go who count) path w m = absurd (both_ways _ (no_work_go w) m)
in_script End path w m = absurd (both_ways _ refl m)

pub in_rounds : (newest : Said) (brick : ℕ) → may newest (Round brick) ≡ true → stage newest ≡ 2
in_rounds (Healer j) brick m = refl
in_rounds (Round b) brick m = refl
in_rounds (Command path w) brick m = absurd (both_ways _ refl m)
in_rounds s brick m = absurd (both_ways _ refl m)

after_turns_one : (s : Said) → is_one_of after_turns (word_of s) ≡ true → 1 ≤ stage s
after_turns_one (Afr v) m = absurd (both_ways _ refl m)
after_turns_one (Volume v shape) m = absurd (both_ways _ refl m)
after_turns_one (Files k) m = absurd (both_ways _ refl m)
after_turns_one (Turns t) m = absurd (both_ways _ refl m)
after_turns_one s m = omega arith

-- a line after the head isn't of the head
pub past_turns : (t : ℕ) (s : Said) → may (Turns t) s ≡ true → 1 ≤ stage s
past_turns t s m = after_turns_one s m

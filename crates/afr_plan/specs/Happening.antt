-- Actors and events, as the lines of a plan name them.
use Rattle.std.specs.Prelude.{ℕ, List, codes}
use Rattle.afr_plan.specs.Spelling.{IsSmall, WordThen, Both}

-- an actor, by its kind and number
pub data Who : Type 0 where
  OfClient : (i : ℕ) → Who
  OfHealer : (j : ℕ) → Who

-- `c` or `h`, and the number
abbrev pub IsWho : List ℕ → Who → Type 0
IsWho w (OfClient i) = WordThen (codes "c") IsSmall w i
IsWho w (OfHealer j) = WordThen (codes "h") IsSmall w j

-- an event: bricks are numbers
pub data Happening : Type 0 where
  Stop : (brick : ℕ) → Happening
  Start : (brick : ℕ) → Happening
  Cut : (who : Who) (brick : ℕ) → Happening
  Join : (who : Who) (brick : ℕ) → Happening
  Kill : (who : Who) → Happening

-- the bytes name an event
abbrev pub IsHappening : List ℕ → Happening → Type 0
IsHappening w (Stop brick) = WordThen (codes "stop ") IsSmall w brick
IsHappening w (Start brick) = WordThen (codes "start ") IsSmall w brick
IsHappening w (Cut who brick) = WordThen (codes "cut ") (Both IsWho (WordThen (codes " ") IsSmall)) w (who, brick)
IsHappening w (Join who brick) = WordThen (codes "join ") (Both IsWho (WordThen (codes " ") IsSmall)) w (who, brick)
IsHappening w (Kill who) = WordThen (codes "kill ") IsWho w who

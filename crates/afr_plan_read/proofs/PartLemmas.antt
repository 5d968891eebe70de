-- Data, actors and events: what is read is spelled so, and what is spelled so is read.
use Rattle.std.proofs.Common.{◌≡◌, ◌⊎◌, inl, inr, ℕ, List, ◌++◌, Some, None, refl, ap, ◌∙◌, codes}
use Rattle.afr_lines.specs.declared.fault.Fault.TheVariants.{Fail, Lost}
use Rattle.afr_plan.specs.Bytes.{digit, hex_digit, text_byte}
use Rattle.afr_plan.specs.Data.{hex_bytes, is_paired, is_pair, quoted_of, filled_of, IsQuoted, IsHexed, IsFilled, IsData}
use Rattle.afr_plan.specs.Happening.{Who, OfClient, OfHealer, IsWho, Happening, Stop, Start, Cut, Join, Kill, IsHappening}
use Rattle.afr_plan.specs.Reading.{word_then, small_at}
use Rattle.afr_plan.specs.Said.{IsShape, IsFault, three_replicas, three_with_arbiter, five_replicas}
use Rattle.afr_plan.specs.SaidReading.{quoted_at, hexed_at, filled_at, data_at, client_who_at, healer_who_at, who_at, cut_event, join_event, pair_at, stop_at, start_at, cut_event_at, join_event_at, kill_at, happening_at, shape_one_at, shape_two_at, kind_at}
use Rattle.afr_plan.specs.Spelling.{IsSmall, WordThen, Both}
use Rattle.afr_plan.specs.declared.version.Version.TheVariants.{One, Two}
use Rattle.afr_plan_read.proofs.Laws.{Takes, Again, Any, Stops, word-takes, word-again, word_then-takes, word_then-again, both-takes, both-again, run-takes, run-again, as-takes, as-again, as-so, again-after, either-so, either-takes, either-again, first_of, number-takes, number-again, small-takes, small-again, text-takes, text-again}

-- ---- data
quoted-takes : Takes quoted_at IsQuoted
unfolding quoted_at
quoted-takes = as-takes quoted_of _ _ (word_then-takes (codes "\"") _ _ (both-takes _ _ _ _ text-takes (word-takes (codes "\"") tt)))

quoted-again : Again quoted_at IsQuoted Any
unfolding quoted_at
quoted-again = as-again quoted_of _ _ _ (word_then-again (codes "\"") _ _ Any (both-again _ _ _ _ (Stops text_byte) Any text-again (word-again (codes "\"") tt) (λ v y rest t. rw t.0 refl)))

hexed-takes : Takes hexed_at IsHexed
unfolding hexed_at
hexed-takes = as-takes hex_bytes _ _ (word_then-takes (codes "hex:") _ _ (run-takes hex_digit is_paired))

hexed-again : Again hexed_at IsHexed (Stops hex_digit)
unfolding hexed_at
hexed-again = as-again hex_bytes _ _ _ (word_then-again (codes "hex:") _ _ (Stops hex_digit) (run-again hex_digit is_paired))

filled-takes : Takes filled_at IsFilled
unfolding filled_at
filled-takes = as-takes filled_of _ _ (word_then-takes (codes "fill:") _ _ (both-takes _ _ _ _ number-takes (word_then-takes (codes ":") _ _ (run-takes hex_digit is_pair))))

filled-again : Again filled_at IsFilled (Stops hex_digit)
unfolding filled_at
filled-again = as-again filled_of _ _ _ (word_then-again (codes "fill:") _ _ (Stops hex_digit)
    (both-again _ _ _ _ (Stops digit) (Stops hex_digit) number-again (word_then-again (codes ":") _ _ (Stops hex_digit) (run-again hex_digit is_pair)) (λ v y rest t. rw t.2 refl)))

pub data-takes : Takes data_at IsData
unfolding data_at
data-takes = either-takes _ _ _ _ quoted-takes (either-takes _ _ _ _ hexed-takes filled-takes)

-- what begins otherwise isn't read
not_hexed : (w x rest : List ℕ) → IsFilled w x → hexed_at (w ++ rest) ≡ None
unfolding hexed_at
not_hexed w x rest h = ap (λ (z : List ℕ). hexed_at (z ++ rest)) h.1.2

not_quoted : (w x rest : List ℕ) → IsHexed w x ⊎ IsFilled w x → quoted_at (w ++ rest) ≡ None
unfolding quoted_at
not_quoted w x rest (inl h) = ap (λ (z : List ℕ). quoted_at (z ++ rest)) h.1.2
not_quoted w x rest (inr h) = ap (λ (z : List ℕ). quoted_at (z ++ rest)) h.1.2

pub data-again : Again data_at IsData (Stops hex_digit)
unfolding data_at
data-again = either-again _ _ _ _ _ (again-after _ _ Any (Stops hex_digit) quoted-again (λ rest n. tt)) (either-again _ _ _ _ _ hexed-again filled-again not_hexed) not_quoted

-- ---- fixed words
pub shape_one-takes : Takes shape_one_at (IsShape One)
unfolding shape_one_at
shape_one-takes = either-takes _ _ _ _ (word-takes (codes "replica") three_replicas) (word-takes (codes "arbiter") three_with_arbiter)

pub shape_two-takes : Takes shape_two_at (IsShape Two)
unfolding shape_two_at
shape_two-takes = either-takes _ _ _ _ (word-takes (codes "replica 3") three_replicas) (either-takes _ _ _ _ (word-takes (codes "replica 5") five_replicas) (word-takes (codes "arbiter 3") three_with_arbiter))

pub kind-takes : Takes kind_at IsFault
unfolding kind_at
kind-takes = either-takes _ _ _ _ (word-takes (codes "fail") Fail) (word-takes (codes "lost") Lost)

pub kind-again : Again kind_at IsFault Any
unfolding kind_at
kind-again = either-again _ _ _ _ _ (word-again (codes "fail") Fail) (word-again (codes "lost") Lost) (λ w x rest h. rw h.0 refl)

-- ---- actors
small_then : (text : List ℕ) → Takes (word_then text small_at) (WordThen text IsSmall)
small_then text = word_then-takes text _ _ small-takes

pub small_again : (text : List ℕ) → Again (word_then text small_at) (WordThen text IsSmall) (Stops digit)
small_again text = word_then-again text _ _ (Stops digit) small-again

pub who-takes : Takes who_at IsWho
unfolding who_at client_who_at healer_who_at
who-takes = either-so _ _ _ (as-so OfClient _ _ _ (small_then (codes "c")) (λ w x h. h)) (as-so OfHealer _ _ _ (small_then (codes "h")) (λ w x h. h))

read_who : (w : List ℕ) (x : Who) (rest : List ℕ) → IsWho w x → Stops digit rest → who_at (w ++ rest) ≡ Some (x, rest)
unfolding who_at client_who_at healer_who_at
read_who w (OfClient i) rest s n = first_of _ _ _ ((as-again OfClient _ _ _ (small_again (codes "c"))).read w (OfClient i) rest (i, s, refl) n)
read_who w (OfHealer j) rest s n = ap (λ (z : List ℕ). who_at (z ++ rest)) s.2 ∙ (as-again OfHealer _ _ _ (small_again (codes "h"))).read (codes "h" ++ s.0) (OfHealer j) rest (j, (s.0, s.1, refl), refl) n

pub who-again : Again who_at IsWho (Stops digit)
who-again = record { read = read_who }

-- ---- events
pair-takes : Takes pair_at (Both IsWho (WordThen (codes " ") IsSmall))
unfolding pair_at
pair-takes = both-takes _ _ _ _ who-takes (small_then (codes " "))

pair-again : Again pair_at (Both IsWho (WordThen (codes " ") IsSmall)) (Stops digit)
unfolding pair_at
pair-again = both-again _ _ _ _ (Stops digit) (Stops digit) who-again (small_again (codes " ")) (λ v y rest t. rw t.2 refl)

pub happening-takes : Takes happening_at IsHappening
unfolding happening_at stop_at start_at cut_event_at join_event_at kill_at
happening-takes = either-so _ _ _ (as-so Stop _ _ _ (small_then (codes "stop ")) (λ w x h. h)) (
    either-so _ _ _ (as-so Start _ _ _ (small_then (codes "start ")) (λ w x h. h)) (
    either-so _ _ _ (as-so cut_event _ _ _ (word_then-takes (codes "cut ") _ _ pair-takes) (λ w x h. h)) (
    either-so _ _ _ (as-so join_event _ _ _ (word_then-takes (codes "join ") _ _ pair-takes) (λ w x h. h)) (
    as-so Kill _ _ _ (word_then-takes (codes "kill ") _ _ who-takes) (λ w x h. h)))))

read_event : (w : List ℕ) (x : Happening) (rest : List ℕ) → IsHappening w x → Stops digit rest → happening_at (w ++ rest) ≡ Some (x, rest)
unfolding happening_at stop_at start_at cut_event_at join_event_at kill_at
read_event w (Stop b) rest s n = first_of _ _ _ ((as-again Stop _ _ _ (small_again (codes "stop "))).read w (Stop b) rest (b, s, refl) n)
read_event w (Start b) rest s n = ap (λ (z : List ℕ). happening_at (z ++ rest)) s.2 ∙ first_of _ _ _ ((as-again Start _ _ _ (small_again (codes "start "))).read (codes "start " ++ s.0) (Start b) rest (b, (s.0, s.1, refl), refl) n)
read_event w (Cut who b) rest s n = ap (λ (z : List ℕ). happening_at (z ++ rest)) s.2
    ∙ first_of _ _ _ ((as-again cut_event _ _ _ (word_then-again (codes "cut ") _ _ _ pair-again)).read (codes "cut " ++ s.0) (Cut who b) rest ((who, b), (s.0, s.1, refl), refl) n)
read_event w (Join who b) rest s n = ap (λ (z : List ℕ). happening_at (z ++ rest)) s.2
    ∙ first_of _ _ _ ((as-again join_event _ _ _ (word_then-again (codes "join ") _ _ _ pair-again)).read (codes "join " ++ s.0) (Join who b) rest ((who, b), (s.0, s.1, refl), refl) n)
read_event w (Kill who) rest s n = ap (λ (z : List ℕ). happening_at (z ++ rest)) s.2
    ∙ (as-again Kill _ _ _ (word_then-again (codes "kill ") _ _ _ who-again)).read (codes "kill " ++ s.0) (Kill who) rest (who, (s.0, s.1, refl), refl) n

pub happening-again : Again happening_at IsHappening (Stops digit)
happening-again = record { read = read_event }

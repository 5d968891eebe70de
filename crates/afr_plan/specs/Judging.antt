-- What a line says after some lines, or the code of the lowest rule that it breaks; and the first fault of a text.
use Rattle.std.specs.Prelude.{ℕ, ◌+◌, ◌==◌, List, [], ◌∷◌, length, Bool, true, false, not, ◌||◌, nat_lt, codes, Option, Some, None, Result, Ok, Err, if◌then◌else◌, take_while}
use Rattle.std.specs.List.{list_all}
use Rattle.afr_plan.specs.Bytes.{plain}
use Rattle.afr_plan.specs.Reading.{after}
use Rattle.afr_plan.specs.TextLines.{text_of}
use Rattle.afr_plan.specs.Said.{Said}
use Rattle.afr_plan.specs.SaidReading.{said}
use Rattle.afr_plan.specs.Rules.{next_words, is_one_of, is_over, is_versioned, is_beyond, is_disordered, passes_total}
use Rattle.afr_plan.specs.declared.plan.PlanFault.{PlanFault}

-- nothing follows, or a space
abbrev pub ends_word : Option (List ℕ) → Bool
ends_word None = false
ends_word (Some []) = true
ends_word (Some (b ∷ bs)) = b == 32

-- a line begins with some words, and these end there
abbrev pub begins : List ℕ → List ℕ → Bool
begins words line = ends_word (after words line)

-- what stands before the first space
abbrev pub first_word : List ℕ → List ℕ
first_word line = take_while (λ b. not (b == 32)) line

-- a line begins with the words of a first line, in one of the two versions
abbrev pub begins_plan : List ℕ → Bool
begins_plan line = begins (codes "afr 1") line || begins (codes "afr 2") line

-- a line's first words may stand here: the first line's are two
abbrev pub may_begin : List Said → List ℕ → Bool
may_begin [] line = begins_plan line
may_begin (newest ∷ older) line = is_one_of (next_words (newest ∷ older)) (first_word line)

-- the code for first words out of place: lines 1 to 4 are the head
abbrev pub place_code : List Said → ℕ
place_code before = if nat_lt (length before) 4 then 3 else 4

-- what is said, or the code of its limits, its order or its totals
abbrev pub fitting : List Said → Said → Result Said ℕ
fitting before s = if is_beyond s then Err 6 else if is_disordered before s then Err 7 else if passes_total before s then Err 8 else Ok s

-- the same of a line that has a form, if it has one: that of a volume is its version's
abbrev pub formed : List Said → Option Said → Result Said ℕ
formed before None = Err 5
formed before (Some s) = if not (is_versioned before s) then Err 5 else fitting before s

-- what a line says, or the code of the lowest rule that it breaks
abbrev pub judged : List Said → List ℕ → Result Said ℕ
judged before line = if not (list_all plain line) then Err 1 else if is_over before then Err 9 else if not (may_begin before line) then Err (place_code before) else formed before (said line)

-- what follows the last line feed has to be nothing, and that after `end`
abbrev pub judged_tail : List Said → List ℕ → Option ℕ
judged_tail before [] = if is_over before then None else Some 9
judged_tail before (b ∷ bs) = if list_all plain (b ∷ bs) then Some 2 else Some 1

-- the line after these has a fault
abbrev pub at_line : List Said → ℕ → PlanFault
at_line before code = record { line = length before + 1; code = code }

-- the lines, or the fault at their end
abbrev pub finished : List Said → Option ℕ → Result (List Said) PlanFault
finished before None = Ok before
finished before (Some code) = Err (at_line before code)

-- what comes later, or the fault of this line
abbrev pub onward : List Said → Result Said ℕ → (Said → Result (List Said) PlanFault) → Result (List Said) PlanFault
onward before (Ok s) later = later s
onward before (Err code) later = Err (at_line before code)

-- what these and the further lines say, the newest first, or the first fault
abbrev pub reading_on : List ℕ → List (List ℕ) → List Said → Result (List Said) PlanFault
reading_on tail [] before = finished before (judged_tail before tail)
reading_on tail (line ∷ lines) before = onward before (judged before line) (λ s. reading_on tail lines (s ∷ before))

-- what all lines of a text say, or its first fault
unfoldable pub reading : List ℕ → Result (List Said) PlanFault
reading bytes = reading_on (text_of bytes).tail (text_of bytes).lines []

-- the fault in an outcome
abbrev pub fault_in : Result (List Said) PlanFault → Option PlanFault
fault_in (Ok before) = None
fault_in (Err fault) = Some fault

-- the first line that breaks a rule, and the lowest rule that it breaks
abbrev pub first_fault : List ℕ → Option PlanFault
first_fault bytes = fault_in (reading bytes)

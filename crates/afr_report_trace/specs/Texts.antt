-- Texts that lie one after the other, and a trace whose lines are told by the numbers of such texts.
use Rattle.std.specs.Prelude.{◌≡◌, ℕ, zero, suc, ◌+◌, ◌-◌, ◌/◌, ◌%◌, ◌<◌, ◌≤◌, List, [], ◌∷◌, ◌++◌, codes, decimal, drop, length, slice_index, slice_index_or, take}
use Rattle.afr_lines.specs.declared.line.Line.{Line}
use Rattle.afr_plan.specs.declared.plan.Plan.{Plan}
use Rattle.afr_model.specs.ReportReplies.{actor_text}
use Rattle.afr_report_trace.specs.Endings.{ending_text}
use Rattle.afr_report_trace.specs.Lines.{said_text}
use Rattle.afr_report_trace.specs.Requests.{request_text}
use Rattle.afr_report_trace.specs.declared.spelled.Spelled.{Spelled}

-- ---- a table of texts
-- the texts between the cuts of some bytes, the first of which begins here
abbrev pub texts_from : List ℕ → ℕ → List ℕ → List (List ℕ)
texts_from bytes at [] = []
texts_from bytes at (next ∷ cuts) = take (next - at) (drop at bytes) ∷ texts_from bytes next cuts

-- the same of all cuts
abbrev pub texts_in : List ℕ → List ℕ → List (List ℕ)
texts_in bytes [] = []
texts_in bytes (at ∷ cuts) = texts_from bytes at cuts

-- each cut is at or after the one before it, and the last is the end
abbrev pub Rises : ℕ → List ℕ → ℕ → Type 0
Rises at [] end = at ≡ end
Rises at (next ∷ cuts) end = (at ≤ next) × Rises next cuts end

-- the same of all cuts, of which there is one at least
abbrev pub AreCuts : List ℕ → ℕ → Type 0
AreCuts [] end = ⊥
AreCuts (at ∷ cuts) end = Rises at cuts end

-- a number is that of a text
pub record IsText (texts : List (List ℕ)) (number : ℕ) (text : List ℕ) : Type 0 where
  pub within : number < length texts
  pub is : slice_index_or texts number [] ≡ text

-- texts were added at the end, perhaps none
pub record Grows (old new : List (List ℕ)) : Type 0 where
  pub more : List (List ℕ)
  pub is : new ≡ old ++ more

-- ---- what the texts of lines are made of
-- who asks which brick, by its place among all those of a volume, between two spaces
abbrev pub asker_at : ℕ → List ℕ
asker_at place = codes " " ++ actor_text (record { 0 = place / 5 }) ++ codes " b" ++ decimal (place % 5) ++ codes " "

-- the first texts are those, and one more is the space before what else a line says
pub record AreAskers (texts : List (List ℕ)) : Type 0 where
  pub asker : (place : ℕ) → place < 100 → IsText texts place (asker_at place)
  pub space : IsText texts 100 (codes " ")

-- the number of a request's text is that of the request with the end of its line
abbrev pub IsSpelled : Plan → List (List ℕ) → Spelled → Type 0
IsSpelled p texts last = IsText texts last.number (request_text p last.request ++ ending_text last.ending)

-- a line's text without its position
abbrev pub unplaced_text : Plan → Line → List ℕ
unplaced_text p line = codes " " ++ said_text p line ++ codes "\n"

-- two numbers are those of the texts that make a text
pub record IsRow (texts : List (List ℕ)) (asker rest : ℕ) (text : List ℕ) : Type 0 where
  pub first : List ℕ
  pub last : List ℕ
  pub asks : IsText texts asker first
  pub says : IsText texts rest last
  pub whole : text ≡ first ++ last

-- ---- a whole trace
-- the text of a row: its position, and the texts of its two numbers
abbrev pub row_text : List (List ℕ) → List ℕ → List ℕ → ℕ → List ℕ
row_text texts askers rests n = decimal n ++ (slice_index_or texts (slice_index askers n) [] ++ slice_index_or texts (slice_index rests n) [])

-- the text of the first rows
abbrev pub text_to : List (List ℕ) → List ℕ → List ℕ → ℕ → List ℕ
text_to texts askers rests zero = []
text_to texts askers rests (suc n) = text_to texts askers rests n ++ row_text texts askers rests n

-- there is a text for each number
pub record AreRows (texts : List (List ℕ)) (askers rests : List ℕ) : Type 0 where
  pub same : length askers ≡ length rests
  pub known : (n : ℕ) → n < length rests → (slice_index askers n < length texts) × (slice_index rests n < length texts)

-- a buffer has room for a row behind what doesn't fill it
abbrev pub HasRoom : List (List ℕ) → ℕ → Type 0
HasRoom texts room = (n m : ℕ) → 65576 + length (slice_index_or texts n []) + length (slice_index_or texts m []) ≤ room

-- The frame of an image: its first bytes, where its parts stand, and what can be wrong with it before any part is read.
use Rattle.std.specs.Prelude.{ℕ, ◌+◌, ◌*◌, nat_eq, not, nat_lt, List, [], ◌∷◌, ◌++◌, Option, Some, None, codes, drop, length, take, if◌then◌else◌}
use Rattle.std.specs.List.{starts_with}
use Rattle.byteorder.specs.Endian.{big_bytes, big_number}
use Rattle.afr_image.specs.declared.image.ImageFault.{ImageFault}
use Rattle.afr_image.specs.declared.step.Step.{Step}
use Rattle.afr_image.specs.Steps.{steps_bytes, steps_in}

-- an image begins with eight bytes that nothing else begins with
unfoldable pub magic : List ℕ
magic = codes "AFRIMG" ++ 0 ∷ 1 ∷ []

-- a number takes four bytes, the highest first
unfoldable pub number_bytes : ℕ → List ℕ
number_bytes n = big_bytes 4 n

-- the bytes of an image with this text of its plan, and these steps
abbrev pub bytes_with : List ℕ → List Step → List ℕ
bytes_with text steps = magic ++ (number_bytes (length text) ++ (text ++ (number_bytes (length steps) ++ steps_bytes steps)))

-- the number in the four bytes from a place on; where bytes are missing they count as 0
unfoldable pub number_at : ℕ → List ℕ → ℕ
number_at at bytes = big_number 4 (drop at bytes)

-- how long the text of the plan is
abbrev pub text_len : List ℕ → ℕ
text_len bytes = number_at 8 bytes

-- the text of the plan
abbrev pub text_in : List ℕ → List ℕ
text_in bytes = take (text_len bytes) (drop 12 bytes)

-- where the number of steps stands
abbrev pub count_at : List ℕ → ℕ
count_at bytes = 12 + text_len bytes

-- how many steps there are
abbrev pub step_count : List ℕ → ℕ
step_count bytes = number_at (count_at bytes) bytes

-- where the first step stands
abbrev pub steps_at : List ℕ → ℕ
steps_at bytes = 16 + text_len bytes

-- where the last step ends
abbrev pub end_of : List ℕ → ℕ
end_of bytes = steps_at bytes + 3 * step_count bytes

-- the steps of an image's bytes
abbrev pub steps_of_bytes : List ℕ → List Step
steps_of_bytes bytes = steps_in (drop (steps_at bytes) bytes)

-- ---- what can be wrong
abbrev pub refusal : ℕ → ℕ → ImageFault
refusal at code = record { at = at; code = code }

-- they begin otherwise; they end before the plan and the steps are whole; or a byte follows the last step
abbrev pub frame_fault : List ℕ → Option ImageFault
frame_fault bytes =
    if not (starts_with nat_eq bytes magic) then Some (refusal 0 11)
    else (if nat_lt (length bytes) (end_of bytes) then Some (refusal (length bytes) 12)
    else (if nat_lt (end_of bytes) (length bytes) then Some (refusal (end_of bytes) 15)
    else None))

-- the fault of the step behind so many, from the place of the first
abbrev pub step_fault : ℕ → Option ℕ → Option ImageFault
step_fault first None = None
step_fault first (Some count) = Some (refusal (first + 3 * count) 14)

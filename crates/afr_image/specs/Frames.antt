-- Bytes that are framed as an image.
use Rattle.std.specs.Prelude.{◌≡◌, ℕ, ◌+◌, ◌*◌, List, None, drop, length}
use Rattle.afr_image.specs.Frame.{frame_fault, step_count, steps_at, text_in}

-- the frame has no fault, these are its parts, and they fill it
pub record IsFramed (bytes : List ℕ) (text : List ℕ) (count : ℕ) (steps : List ℕ) : Type 0 where
  pub frame : frame_fault bytes ≡ None
  pub text_is : text ≡ text_in bytes
  pub count_is : count ≡ step_count bytes
  pub steps_is : steps ≡ drop (steps_at bytes) bytes
  pub first : 16 + length text ≡ steps_at bytes
  pub long : 16 + length text + length steps ≡ length bytes
  pub three : length steps ≡ 3 * count

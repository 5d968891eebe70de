-- Which form of data the printer picks.
use Rattle.std.specs.Prelude.{ℕ, List, length, Bool, Option, Some, None, nat_le, if◌then◌else◌}
use Rattle.afr_plan_print.specs.PrintedData.{text_form, hex_form, fill_form}
use Rattle.afr_plan_print.specs.declared.data_forms.Form.{Form}
use Rattle.afr_plan_print.specs.declared.data_forms.Form.TheVariants.{Text, Hex, Fill}

-- bytes in a form
abbrev pub form_text : Form → List ℕ → List ℕ
form_text Text bytes = text_form bytes
form_text Hex bytes = hex_form bytes
form_text (Fill b) bytes = fill_form (length bytes) b

-- a text where the bytes may stand in one
abbrev pub plain_form : Bool → Form
plain_form text = if text then Text else Hex

-- a fill is shorter than a text from eight bytes on, and than digits from three bytes on
abbrev pub is_fill_shorter : Bool → ℕ → Bool
is_fill_shorter text count = if text then nat_le 8 count else nat_le 3 count

-- a fill, where all bytes are the same and it is shorter
abbrev pub picked : Bool → Option ℕ → ℕ → Form
picked text None count = plain_form text
picked text (Some b) count = if is_fill_shorter text count then Fill b else plain_form text

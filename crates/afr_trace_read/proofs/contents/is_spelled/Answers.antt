use Rattle.std.proofs.Common.{◌∙◌, ℕ, List, ap}
use Rattle.std.specs.Str.{bytes_eq}
use Rattle.uuid.specs.Text.{hyphenated_text, lower}
use Rattle.afr_base.specs.Text.{gfid_spelling}
use Rattle.afr_trace_read.proofs.contents.is_spelled.Goals as goal

pub returns : goal.returns
unfolding gfid_spelling
returns c = c.is_same.ensures ∙ ap (λ (t : List ℕ). bytes_eq t c.args.word.now) (c.as_bytes.ensures.value ∙ c.encode_lower-text.ensures.text ∙ ap (hyphenated_text lower) (c.hyphenated.ensures ∙ c.from_u128.ensures))
